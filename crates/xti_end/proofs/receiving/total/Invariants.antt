use Rattle.std.proofs.Common.{◌≡◌, take, ◌≤◌, ◌*◌}
use Rattle.std.specs.List.{sum}
use Rattle.xti_end.proofs.receiving.total.Given as goal

abbrev pub invariant-loop-size : goal.invariant-loop-size
invariant-loop-size l = (l.total ≡ sum (take l.size-index l.sizes)) × (l.total ≤ 4294967295 * l.size-index)
