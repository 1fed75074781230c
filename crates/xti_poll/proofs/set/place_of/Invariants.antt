use Rattle.xti_poll.proofs.Sets.{NoneTo}
use Rattle.xti_poll.proofs.set.place_of.Given as goal

abbrev pub invariant-loop-place : goal.invariant-loop-place
invariant-loop-place l = NoneTo l.fd l.pairs l.place
