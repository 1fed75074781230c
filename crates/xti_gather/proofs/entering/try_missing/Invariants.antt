use Rattle.std.proofs.Common.{◌≡◌, ◌<◌, ℕ, true, false, Some}
use Rattle.std.specs.Prelude.{slice_get}
use Rattle.xti_model.specs.World.{is_among}
use Rattle.xti_lent.specs.Lending.{cell_lent, is_lent}
use Rattle.xti_gather.proofs.Staying.{Stays}
use Rattle.xti_gather.proofs.entering.try_missing.Given as goal

abbrev pub invariant-loop-place : goal.invariant-loop-place
invariant-loop-place l = record {
  stays : Stays l.initial.seat l.seat l.lent;
  before : (k n : ℕ) → k < l.place → slice_get l.cells k ≡ Some n → is_lent l.lent n ≡ true;
  others : (n : ℕ) → is_among l.cells n ≡ false → cell_lent l.lent n ≡ cell_lent l.initial.lent n;
}
