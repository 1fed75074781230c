use Rattle.std.proofs.Common.{arith}
use Rattle.xti_io.proofs.Pieces.{Takes-more}
use Rattle.xti_io.proofs.sink.write_all.Goals as goal

pub loop-written-preserved : goal.loop-written-preserved
loop-written-preserved g c = record {
  place = omega (arith, c.in-Ok.ensures.bytes.1);
  took = Takes-more _ _ _ _ _ _ c.loop-written.invariant.took c.in-Ok.ensures.bytes.2;
  later = omega (arith, c.in-Ok.ensures.cause.later);
}
