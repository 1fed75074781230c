use Rattle.xti_end.proofs.Requests.{address-is}
use Rattle.xti_end.proofs.listening.caller_address.Goals as goal

pub returns : goal.returns
returns c = address-is c.args.ind.now c.part.result.now c.requires c.part.ensures
