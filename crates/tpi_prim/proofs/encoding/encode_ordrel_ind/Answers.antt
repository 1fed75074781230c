use Rattle.std.proofs.Common.{refl}
use Rattle.tpi_prim.specs.Primitive.{filled}
use Rattle.tpi_prim.specs.declared.primitive.Prim.TheVariants as prim
use Rattle.tpi_prim.proofs.FrameReads.{read_by_row}
use Rattle.tpi_prim.proofs.encoding.encode_ordrel_ind.Goals as goal

pub returns-clause-read : goal.returns-clause-read
returns-clause-read c =
    let p = prim.T_ORDREL_IND c.args.user.now in
    read_by_row p (filled p) c.frame.result refl c.frame.ensures.filled c.frame.ensures.spelled
