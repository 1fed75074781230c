use Rattle.std.proofs.Common.{◌≡◌, ◌%◌, ◌-◌, ◌≤◌}
use Rattle.xti_words.specs.Values.{counted}
use Rattle.xti_words.proofs.values.counted.Given as goal

abbrev pub invariant-loop-left : goal.invariant-loop-left
invariant-loop-left l = (l.bytes.items ≡ counted (l.count - l.left)) × (l.left ≤ l.count) × ((l.count - l.left) % 256 ≡ 0)

abbrev pub decreases-loop-left : goal.decreases-loop-left
decreases-loop-left l = l.left
