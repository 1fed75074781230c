use Rattle.xti_switch.proofs.GivingUp.{Gathered}
use Rattle.xti_switch.proofs.callers.notices_to_callers.Given as goal

abbrev pub invariant-loop-place : goal.invariant-loop-place
invariant-loop-place l = Gathered l.fn.lent l.fd.0 l.place l.lent l.notices.items
