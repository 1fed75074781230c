-- A seat that is ready for a call, and ready again after it.
use Rattle.std.proofs.Common.{◌≡◌, ℕ, List, sym, ap, subst, ◌∙◌, false}
use Rattle.xti_hall_rule.specs.declared.setting.Setting.{Setting}
use Rattle.xti_hall_rule.specs.declared.view.View.{View}
use Rattle.xti_hall.specs.declared.hall.Hall.{Hall}
use Rattle.xti_hall.specs.Seats.{SeatView}
use Rattle.xti_hall.specs.Stalls.{waits}
use Rattle.xti_hall.specs.Words.{IsSeatOf, setting_of}
use Rattle.xti_lent.specs.Lending.{Lending}
use Rattle.xti_gather.specs.declared.cell.Cell.{Cell}
use Rattle.xti_gather.specs.Cells.{InHall, IsWhole}
use Rattle.xti_gather.specs.Lends.{IsEmpty}
use Rattle.xti_gather.specs.Orders.{AreCells}
use Rattle.xti_step.specs.Steps.{HoldsNothing, Later}
use Rattle.xti_calls.specs.Library.{IsReady}

pub ready-hall : (h : Hall Cell) (s : SeatView) (l : Lending) (first : List ℕ) → IsWhole (setting_of h) (setting_of h).providers → IsSeatOf h s → IsReady s.view l first → InHall h s l.providers
ready-hall h s l first whole of ready = (of, subst (IsWhole (setting_of h)) (sym (ready.providers ∙ ap (λ (a : Setting). a.providers) of.1)) whole)

pub ready-later : (v v' : View) (l l' : Lending) (first first' : List ℕ) → IsReady v l first → HoldsNothing v' → IsEmpty l' × (l'.providers ≡ l.providers) → AreCells l'.providers first' → Later v v' → (waits v.mark ≡ false → waits v'.mark ≡ false)
    → IsReady v' l' first'
ready-later v v' l l' first first' ready idle empty cells later mark = record {
  idle = idle;
  empty = empty.0;
  providers = empty.1 ∙ (ready.providers ∙ sym (ap (λ (a : Setting). a.providers) later.setting));
  mark = mark ready.mark;
  cells = cells;
}
