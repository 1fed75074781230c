use Rattle.std.proofs.Common.{◌≡◌}
use Rattle.xti_hall.proofs.hall.Hall.ring_all.Given as goal

abbrev pub invariant-loop-number : goal.invariant-loop-number
invariant-loop-number g l = record { same : l.seat ≡ l.initial.seat }
