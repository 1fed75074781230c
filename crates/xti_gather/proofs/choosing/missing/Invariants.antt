use Rattle.std.proofs.Common.{◌≡◌, ◌<◌, ℕ, Some, true}
use Rattle.std.specs.Prelude.{slice_get}
use Rattle.xti_lent.specs.Lending.{is_lent}
use Rattle.xti_gather.proofs.choosing.missing.Given as goal

abbrev pub invariant-loop-place : goal.invariant-loop-place
invariant-loop-place l = (k n : ℕ) → k < l.place → slice_get l.cells k ≡ Some n → is_lent l.lent n ≡ true
