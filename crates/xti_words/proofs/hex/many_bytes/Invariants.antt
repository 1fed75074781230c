use Rattle.std.proofs.Common.{◌≡◌, ◌-◌, ◌%◌, length, drop}
use Rattle.xti_words.specs.Values.{hex_bytes}
use Rattle.xti_words.proofs.WordLaws.{before}
use Rattle.xti_words.proofs.hex.many_bytes.Given as goal

abbrev pub invariant-loop-first : goal.invariant-loop-first
invariant-loop-first l = record {
  so_far : before l.bytes.items (hex_bytes l.rest) ≡ hex_bytes l.digits;
  even : length l.rest % 2 ≡ 0;
  end : l.rest ≡ drop (length l.digits - length l.rest) l.digits;
}

abbrev pub decreases-loop-first : goal.decreases-loop-first
decreases-loop-first l = length l.rest
