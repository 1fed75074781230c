use Rattle.xti_end.proofs.Disconnects.{number-is}
use Rattle.xti_end.proofs.receiving_disconnects.number.Goals as goal

pub returns : goal.returns
returns c = number-is c.args.frame.now c.seq.result c.requires c.seq.ensures
