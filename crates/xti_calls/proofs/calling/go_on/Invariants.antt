use Rattle.std.proofs.Common.{◌≡◌, false}
use Rattle.xti_hall.specs.Stalls.{waits}
use Rattle.xti_gather.specs.Lends.{IsEmpty}
use Rattle.xti_gather.specs.Orders.{AreCells}
use Rattle.xti_step.specs.Steps.{HoldsNothing}
use Rattle.xti_calls.proofs.Going.{Goes}
use Rattle.xti_calls.proofs.calling.go_on.Given as goal

abbrev pub invariant-loop : goal.invariant-loop
invariant-loop g l = record {
  hall : l.seat.hall ≡ l.initial.seat.hall;
  id : l.seat.id ≡ l.initial.seat.id;
  idle : HoldsNothing l.seat.view;
  empty : IsEmpty l.lent;
  providers : l.lent.providers ≡ l.initial.lent.providers;
  first : AreCells l.lent.providers l.first;
  mark : waits l.initial.seat.view.mark ≡ false → waits l.seat.view.mark ≡ false;
  goes : Goes l.initial.seat.view l.call l.initial.go l.go l.seat.view;
}
