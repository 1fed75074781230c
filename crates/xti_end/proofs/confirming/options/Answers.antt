use Rattle.xti_end.proofs.Requests.{answer-options-is}
use Rattle.xti_end.proofs.confirming.options.Goals as goal

pub returns : goal.returns
returns c = answer-options-is c.args.frame.now c.part.result.now c.requires c.part.ensures
