use Rattle.std.proofs.Common.{◌≡◌, drop}
use Rattle.xti_words.specs.Values.{option_in, each_in}
use Rattle.xti_words.specs.Texts.{views}
use Rattle.xti_words.proofs.WordLaws.{before}
use Rattle.xti_words.proofs.options.each_option.Given as goal

abbrev pub invariant-loop-piece : goal.invariant-loop-piece
invariant-loop-piece l = before l.options (each_in option_in (views (drop l.piece-index l.pieces))) ≡ each_in option_in (views l.pieces)
