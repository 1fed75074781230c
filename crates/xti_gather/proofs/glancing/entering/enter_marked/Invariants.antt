use Rattle.std.proofs.Common.{◌≡◌}
use Rattle.xti_gather.proofs.Marks.{EnteredTo}
use Rattle.xti_gather.proofs.Staying.{Stays}
use Rattle.xti_gather.proofs.glancing.entering.enter_marked.Given as goal

abbrev pub invariant-loop-cell : goal.invariant-loop-cell
invariant-loop-cell g l = record {
  stays : Stays l.fn.seat l.seat l.lent;
  refused : l.seat.view.refused ≡ l.fn.seat.view.refused;
  so_far : EnteredTo l.lent l.marks l.cell;
}
