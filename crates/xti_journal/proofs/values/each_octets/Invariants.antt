use Rattle.std.proofs.Common.{◌≡◌, drop}
use Rattle.xti_words.specs.Values.{each_in}
use Rattle.xti_words.specs.Texts.{views}
use Rattle.xti_journal.specs.Values.{octets_in}
use Rattle.xti_words.proofs.WordLaws.{before}
use Rattle.xti_journal.proofs.values.each_octets.Given as goal

abbrev pub invariant-loop-piece : goal.invariant-loop-piece
invariant-loop-piece l = before l.parts (each_in octets_in (views (drop l.piece-index l.pieces))) ≡ each_in octets_in (views l.pieces)
