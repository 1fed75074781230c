use Rattle.tpi_prim.proofs.FeedReads.{has_given, has_failed}
use Rattle.tpi_prim.proofs.laws.pieces_law.Goals as goal

pub returns-clause-given : goal.returns-clause-given
returns-clause-given c = has_given

pub returns-clause-bad : goal.returns-clause-bad
returns-clause-bad c = has_failed
