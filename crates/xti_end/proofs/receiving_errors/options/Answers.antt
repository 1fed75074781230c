use Rattle.xti_end.proofs.Errors.{options-is}
use Rattle.xti_end.proofs.receiving_errors.options.Goals as goal

pub returns : goal.returns
returns c = options-is c.args.frame.now c.part.result.now c.requires c.part.ensures
