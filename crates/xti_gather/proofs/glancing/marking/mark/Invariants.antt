use Rattle.std.proofs.Common.{◌≡◌, length}
use Rattle.xti_gather.specs.Marks.{Keep}
use Rattle.xti_gather.proofs.Marks.{MarkedTo}
use Rattle.xti_gather.proofs.glancing.marking.mark.Given as goal

abbrev pub invariant-loop-place : goal.invariant-loop-place
invariant-loop-place l = record {
  length_is : length l.marks ≡ length l.fn.marks;
  kept : Keep l.fn.marks l.marks;
  marked : MarkedTo l.marks l.cells l.place;
}
