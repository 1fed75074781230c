use Rattle.xti_end.proofs.Errors.{code-is}
use Rattle.xti_end.proofs.receiving_errors.code.Goals as goal

pub returns : goal.returns
returns c = code-is c.args.frame.now c.reason.result c.requires c.reason.ensures
