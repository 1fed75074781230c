use Rattle.std.proofs.Common.{◌≡◌}
use Rattle.xti_gather.proofs.Orders.{count_lent}
use Rattle.xti_gather.proofs.Staying.{Stays}
use Rattle.xti_gather.proofs.leaving.leave_all.Given as goal

abbrev pub invariant-loop-cell : goal.invariant-loop-cell
invariant-loop-cell l = record {
  stays : Stays l.initial.seat l.seat l.lent;
  refused : l.seat.view.refused ≡ l.initial.seat.view.refused;
}

abbrev pub decreases-loop-cell : goal.decreases-loop-cell
decreases-loop-cell l = count_lent l.lent
