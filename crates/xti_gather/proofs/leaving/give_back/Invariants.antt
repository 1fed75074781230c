use Rattle.std.proofs.Common.{◌≡◌, ℕ, true}
use Rattle.xti_model.specs.World.{is_among}
use Rattle.xti_lent.specs.Lending.{cell_lent}
use Rattle.xti_gather.proofs.Orders.{count_lent}
use Rattle.xti_gather.proofs.Staying.{Stays}
use Rattle.xti_gather.proofs.leaving.give_back.Given as goal

abbrev pub invariant-loop-cell : goal.invariant-loop-cell
invariant-loop-cell l = record {
  stays : Stays l.initial.seat l.seat l.lent;
  refused : l.seat.view.refused ≡ l.initial.seat.view.refused;
  kept : (n : ℕ) → is_among l.cells n ≡ true → cell_lent l.lent n ≡ cell_lent l.initial.lent n;
}

abbrev pub decreases-loop-cell : goal.decreases-loop-cell
decreases-loop-cell l = count_lent l.lent
