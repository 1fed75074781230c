use Rattle.xti_end.proofs.Disconnects.{reason-is}
use Rattle.xti_end.proofs.receiving_disconnects.reason.Goals as goal

pub returns : goal.returns
returns c = reason-is c.args.frame.now c.reason.result c.requires c.reason.ensures
