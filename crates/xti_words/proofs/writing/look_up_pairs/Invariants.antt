use Rattle.std.proofs.Common.{◌≡◌, ◌*◌, take}
use Rattle.std.specs.List.{flat_map}
use Rattle.xti_words.specs.WrittenWords.{hex_pair}
use Rattle.xti_words.proofs.writing.look_up_pairs.Given as goal

abbrev pub invariant-loop-i : goal.invariant-loop-i
invariant-loop-i l = take (2 * l.i) l.out ≡ flat_map hex_pair (take l.i l.bytes)
