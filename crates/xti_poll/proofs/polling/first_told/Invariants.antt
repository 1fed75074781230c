use Rattle.std.proofs.Common.{◌≡◌, drop}
use Rattle.xti_poll.specs.Polls.{first_found}
use Rattle.xti_poll.specs.Sums.{all_told}
use Rattle.xti_poll.proofs.polling.first_told.Given as goal

-- the first from here on is the first of all
abbrev pub invariant-loop-place : goal.invariant-loop-place
invariant-loop-place l = first_found (all_told (drop l.place l.pairs) (drop l.place l.pending)) ≡ first_found (all_told l.pairs l.pending)
