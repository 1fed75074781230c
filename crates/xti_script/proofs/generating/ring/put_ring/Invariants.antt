use Rattle.std.proofs.Common.{◌≡◌, ◌-◌, ◌++◌}
use Rattle.xti_script.specs.Generated.{ring}
use Rattle.xti_script.proofs.generating.ring.put_ring.Given as goal

abbrev pub invariant-loop-worker : goal.invariant-loop-worker
invariant-loop-worker l = l.lines.items ≡ l.initial.lines.items ++ ring l.shift (l.worker - 1)
