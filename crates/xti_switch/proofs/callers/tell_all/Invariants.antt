use Rattle.std.proofs.Common.{length}
use Rattle.xti_switch.proofs.GivingUp.{StillTelling}
use Rattle.xti_switch.proofs.callers.tell_all.Given as goal

abbrev pub invariant-loop-notice : goal.invariant-loop-notice
invariant-loop-notice l = StillTelling l.fn.lent l.fn.notices.items l.lent l.notices.items

abbrev pub decreases-loop-notice : goal.decreases-loop-notice
decreases-loop-notice l = length l.notices.items
