use Rattle.std.proofs.Common.{arith}
use Rattle.tpi_prim.proofs.FrameReads.{frame_long}
use Rattle.tpi_prim.proofs.frames.user_at.Goals as goal

pub slice_bounds-result-count : goal.slice_bounds-result-count
slice_bounds-result-count c = omega (arith, frame_long c.args.bytes.now c.requires)

pub slice_bounds-result-start : goal.slice_bounds-result-start
slice_bounds-result-start c = omega (arith, frame_long c.args.bytes.now c.requires)
