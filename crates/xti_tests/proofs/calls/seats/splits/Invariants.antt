use Rattle.xti_calls.specs.Library.{IsOf}
use Rattle.xti_tests.proofs.calls.seats.splits.Given as goal

abbrev pub invariant-loop-number : goal.invariant-loop-number
invariant-loop-number g l = IsOf l.xti l.seat
