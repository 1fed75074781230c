use Rattle.std.proofs.Common.{◌≡◌, length}
use Rattle.xti_gather.specs.Marks.{MarkedAreLent}
use Rattle.xti_gather.proofs.Marks.{unmarked}
use Rattle.xti_gather.proofs.Staying.{Stays}
use Rattle.xti_gather.proofs.glancing.entering.enter_looks.Given as goal

abbrev pub invariant-loop-first : goal.invariant-loop-first
invariant-loop-first g l = record {
  stays : Stays l.fn.seat l.seat l.lent;
  refused : l.seat.view.refused ≡ l.fn.seat.view.refused;
  length_is : length l.marks ≡ length l.fn.marks;
  marked : MarkedAreLent l.lent l.marks;
}

abbrev pub decreases-loop-first : goal.decreases-loop-first
decreases-loop-first g l = unmarked l.marks
