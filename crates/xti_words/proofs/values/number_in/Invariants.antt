use Rattle.std.proofs.Common.{◌≡◌, drop, Some}
use Rattle.xti_words.specs.Numbers.{digits_behind}
use Rattle.xti_words.proofs.values.number_in.Given as goal

abbrev pub invariant-loop-c : goal.invariant-loop-c
invariant-loop-c l = digits_behind (Some l.number) (drop l.c-index l.word) ≡ digits_behind (Some 0) l.word
