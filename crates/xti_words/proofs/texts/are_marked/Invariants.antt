use Rattle.std.proofs.Common.{◌≡◌, take}
use Rattle.std.specs.List.{list_all}
use Rattle.xti_words.specs.Texts.{is_text_byte}
use Rattle.xti_words.proofs.TextBytes.{mark}
use Rattle.xti_words.proofs.texts.are_marked.Given as goal

abbrev pub invariant-loop-c : goal.invariant-loop-c
invariant-loop-c l = l.all ≡ mark (list_all is_text_byte (take l.c-index l.bytes))
