use Rattle.xti_end.proofs.Requests.{answer-address-is}
use Rattle.xti_end.proofs.confirming.address.Goals as goal

pub returns : goal.returns
returns c = answer-address-is c.args.frame.now c.part.result.now c.requires c.part.ensures
