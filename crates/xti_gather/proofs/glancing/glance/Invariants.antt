use Rattle.std.proofs.Common.{◌≡◌, ◌+◌, ◌-◌}
use Rattle.xti_model.specs.World.{places}
use Rattle.xti_hall.specs.Seats.{bare}
use Rattle.xti_gather.specs.Lends.{Lends}
use Rattle.xti_gather.proofs.Orders.{count_lent}
use Rattle.xti_gather.proofs.glancing.glance.Given as goal

abbrev pub invariant-loop-cell : goal.invariant-loop-cell
invariant-loop-cell l = record {
  hall : l.seat.hall ≡ l.fn.seat.hall;
  id : l.seat.id ≡ l.fn.seat.id;
  rest : bare l.seat.view ≡ bare l.fn.seat.view;
  refused : l.seat.view.refused ≡ l.fn.seat.view.refused;
  lends : Lends l.seat.view l.lent;
  providers : l.lent.providers ≡ l.fn.lent.providers;
}

abbrev pub decreases-loop-cell : goal.decreases-loop-cell
decreases-loop-cell l = places l.lent.providers + 1 - count_lent l.lent
