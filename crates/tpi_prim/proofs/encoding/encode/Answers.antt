use Rattle.tpi_prim.specs.Lent.{filled_by}
use Rattle.tpi_prim.proofs.FrameReads.{read_by_row}
use Rattle.tpi_prim.proofs.encoding.encode.Goals as goal

pub returns-clause-read : goal.returns-clause-read
returns-clause-read c = read_by_row c.args.prim.now (filled_by c.of.result) c.frame.result c.of.ensures.same c.frame.ensures.filled c.frame.ensures.spelled
