use Rattle.std.proofs.Common.{◌≡◌, sum, take}
use Rattle.std.specs.Prelude.{min}
use Rattle.xti_core.proofs.spare.sum_up_to.Given as goal

abbrev pub invariant-loop-size : goal.invariant-loop-size
invariant-loop-size l = l.total ≡ min (sum (take l.size-index l.sizes)) l.most
