-- A seat that took the journal, gave it back without an entry, and gave its cells back.
use Rattle.std.proofs.Common.{◌≡◌, List, inr, sym, ap, ◌∙◌, subst}
use mathlib.Core.List.{IsPrefix}
use Rattle.xti_model.specs.declared.entry.Entry.{Entry}
use Rattle.xti_hall_rule.specs.declared.view.Mark.{Mark}
use Rattle.xti_hall_rule.specs.declared.view.Mark.TheVariants.{Free}
use Rattle.xti_hall_rule.specs.declared.view.View.{View}
use Rattle.xti_hall_rule.specs.Steps.{with_pen, without_pen, Holds}
use Rattle.xti_hall.specs.Seats.{bare, HoldsNone}
use Rattle.xti_step.specs.Steps.{HoldsNothing, KeepsOrFreesMark, Later}

module _ (v v1 v2 v3 : View) (rest : bare v1 ≡ bare v) (h : List Entry) (ms : List Mark) (looked : v2 ≡ without_pen (with_pen v1 h ms) Free) (holds : Holds (with_pen v1 h ms)) (left : bare v3 ≡ bare v2) where
  all : bare v3 ≡ bare (without_pen (with_pen v h ms) Free)
  all = left ∙ (ap bare looked ∙ ap (λ (z : View). without_pen (with_pen z h ms) Free) rest)

  pub looked_later : Later v v3
  looked_later = record {
    setting = ap (λ (z : View). z.setting) all;
    number = ap (λ (z : View). z.number) all;
    next = ap (λ (z : View). z.next) all;
    seen = subst (λ (z : List Entry). IsPrefix v.seen z) (sym (ap (λ (z : View). z.seen) all)) (subst (λ (z : List Entry). IsPrefix z h) (ap (λ (z : View). z.seen) rest) holds.seen);
  }

  pub looked_mine : v3.mine ≡ v.mine
  looked_mine = ap (λ (z : View). z.mine) all

  pub looked_mark : KeepsOrFreesMark v v3
  looked_mark = inr (ap (λ (z : View). z.mark) all)

  pub looked_idle : HoldsNone v3 → HoldsNothing v3
  looked_idle none = (ap (λ (z : View). z.journal) all, none)
