use Rattle.xti_end.proofs.Requests.{answer-data-is}
use Rattle.xti_end.proofs.confirming.data.Goals as goal

pub returns : goal.returns
returns c = answer-data-is c.args.frame.now c.user.result.now c.requires c.user.ensures.value
