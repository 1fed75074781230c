use Rattle.std.proofs.Common.{◌≤◌, ◌-◌, ◌==◌, length}
use Rattle.std.specs.List.{position_or_len}
use Rattle.xti_words.proofs.words.word_end.Given as goal

abbrev pub invariant-loop-at : goal.invariant-loop-at
invariant-loop-at l = l.at ≤ position_or_len (λ c. c == 32) l.text

abbrev pub decreases-loop-at : goal.decreases-loop-at
decreases-loop-at l = length l.text - l.at
