use Rattle.std.proofs.Common.{◌≡◌, length}
use Rattle.std.specs.List.{list_all}
use Rattle.xti_words.specs.Texts.{is_text_byte}
use Rattle.xti_words.proofs.texts.are_text_bytes.Given as goal

abbrev pub invariant-loop-eight : goal.invariant-loop-eight
invariant-loop-eight l = list_all is_text_byte l.rest ≡ list_all is_text_byte l.text

abbrev pub decreases-loop-eight : goal.decreases-loop-eight
decreases-loop-eight l = length l.rest
