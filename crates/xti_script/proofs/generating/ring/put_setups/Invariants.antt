use Rattle.std.proofs.Common.{◌≡◌, ◌-◌, ◌++◌}
use Rattle.xti_script.specs.Generated.{setups}
use Rattle.xti_script.proofs.generating.ring.put_setups.Given as goal

abbrev pub invariant-loop-worker : goal.invariant-loop-worker
invariant-loop-worker l = l.lines.items ≡ l.initial.lines.items ++ setups (l.worker - 1)
