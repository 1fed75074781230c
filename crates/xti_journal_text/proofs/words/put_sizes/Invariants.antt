use Rattle.std.proofs.Common.{◌≡◌, ◌++◌, take}
use Rattle.std.specs.Prelude.{codes}
use Rattle.std.specs.List.{flat_map}
use Rattle.xti_words.specs.WrittenWords.{number_word}
use Rattle.xti_journal_text.proofs.words.put_sizes.Given as goal

abbrev pub invariant-loop-size : goal.invariant-loop-size
invariant-loop-size l = l.out.items ≡ l.initial.out.items ++ flat_map (number_word (codes ",")) (take l.size-index l.others)
