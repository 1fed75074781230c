use Rattle.std.proofs.Common.{◌≡◌, ℕ, ◌<◌, true}
use Rattle.xti_lent.specs.Lending.{is_lent}
use Rattle.xti_gather.specs.Marks.{is_marked}
use Rattle.xti_gather.proofs.glancing.marking.first_unlent.Given as goal

abbrev pub invariant-loop-cell : goal.invariant-loop-cell
invariant-loop-cell l = (n : ℕ) → n < l.cell → is_marked l.marks n ≡ true → is_lent l.lent n ≡ true
