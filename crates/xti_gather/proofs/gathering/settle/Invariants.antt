use Rattle.std.proofs.Common.{◌≡◌}
use Rattle.xti_hall.specs.Seats.{bare}
use Rattle.xti_gather.specs.Lends.{Lends}
use Rattle.xti_gather.proofs.gathering.settle.Given as goal

abbrev pub invariant-loop : goal.invariant-loop
invariant-loop g l = record {
  hall : l.seat.hall ≡ l.fn.seat.hall;
  id : l.seat.id ≡ l.fn.seat.id;
  rest : bare l.seat.view ≡ bare l.fn.seat.view;
  lends : Lends l.seat.view l.lent;
  providers : l.lent.providers ≡ l.fn.lent.providers;
}
