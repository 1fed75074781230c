use Rattle.std.proofs.Common.{◌≡◌, ℕ, ◌<◌, Some}
use Rattle.std.specs.Prelude.{slice_get}
use Rattle.xti_gather.proofs.choosing.are_same.Given as goal

abbrev pub invariant-loop-place : goal.invariant-loop-place
invariant-loop-place l = (k n m : ℕ) → k < l.place → slice_get l.cells k ≡ Some n → slice_get l.others k ≡ Some m → n ≡ m
