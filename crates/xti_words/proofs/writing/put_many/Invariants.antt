use Rattle.std.proofs.Common.{◌≡◌, ◌++◌, length}
use Rattle.std.specs.Io.{StartsWith}
use Rattle.std.specs.List.{flat_map}
use Rattle.xti_words.specs.WrittenWords.{hex_pair}
use Rattle.xti_words.proofs.writing.put_many.Given as goal

abbrev pub invariant-loop-sixteen : goal.invariant-loop-sixteen
invariant-loop-sixteen l = (l.out.items ++ flat_map hex_pair l.rest ≡ l.fn.out.items ++ flat_map hex_pair l.bytes) × StartsWith l.out.items l.fn.out.items

abbrev pub decreases-loop-sixteen : goal.decreases-loop-sixteen
decreases-loop-sixteen l = length l.rest
