use Rattle.std.proofs.Common.{length}
use Rattle.xti_opt.proofs.InBytes.{IsNegotiatedTo}
use Rattle.xti_opt.proofs.requests.negotiate_bytes.Given as goal

abbrev pub invariant-loop-option : goal.invariant-loop-option
invariant-loop-option l = IsNegotiatedTo l.initial.settings l.initial.room l.action l.request l.settings l.overall l.room l.rest

abbrev pub decreases-loop-option : goal.decreases-loop-option
decreases-loop-option l = length l.rest
