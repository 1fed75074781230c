use Rattle.xti_end.proofs.Errors.{destination-is}
use Rattle.xti_end.proofs.receiving_errors.destination.Goals as goal

pub returns : goal.returns
returns c = destination-is c.args.frame.now c.part.result.now c.requires c.part.ensures
