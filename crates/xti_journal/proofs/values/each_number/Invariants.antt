use Rattle.std.proofs.Common.{◌≡◌, drop}
use Rattle.xti_words.specs.Values.{number_in, each_in}
use Rattle.xti_words.specs.Texts.{views}
use Rattle.xti_words.proofs.WordLaws.{before}
use Rattle.xti_journal.proofs.values.each_number.Given as goal

abbrev pub invariant-loop-piece : goal.invariant-loop-piece
invariant-loop-piece l = before l.sizes (each_in number_in (views (drop l.piece-index l.pieces))) ≡ each_in number_in (views l.pieces)
