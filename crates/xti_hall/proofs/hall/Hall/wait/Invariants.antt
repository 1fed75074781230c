use Rattle.std.proofs.Common.{◌≡◌, true, false}
use Rattle.xti_hall_rule.specs.declared.view.Mark.TheVariants.{Waiting}
use Rattle.xti_hall.specs.Seats.{Looks}
use Rattle.xti_hall.specs.Stalls.{WasBlocked}
use Rattle.xti_hall.proofs.hall.Hall.wait.Given as goal

abbrev pub invariant-loop : goal.invariant-loop
invariant-loop g l = record {
  hall : l.seat.hall ≡ l.initial.seat.hall;
  id : l.seat.id ≡ l.initial.seat.id;
  setting : l.seat.view.setting ≡ l.initial.seat.view.setting;
  free : l.seat.view.journal ≡ false;
  want : WasBlocked l.seat.view l.at l.want;
  mark : l.set ≡ true → l.seat.view.mark ≡ Waiting l.want l.at;
  looks : Looks l.fn.seat.view l.seat.view;
}
