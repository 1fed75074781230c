-- A seat after its step, which gave the journal and its cells back, with an entry or without.
use Rattle.std.proofs.Common.{◌≡◌, ℕ, ◌+◌, List, [], ◌∷◌, ◌++◌, length, ap, sym, subst, ◌∙◌, append_assoc, length-append}
use mathlib.Core.List.{IsPrefix}
use Rattle.xti_model.specs.declared.call.Call.{Call}
use Rattle.xti_model.specs.declared.entry.Entry.{Entry}
use Rattle.xti_lent.specs.Lending.{Lending}
use Rattle.xti_hall_rule.specs.declared.view.Mark.TheVariants.{Free}
use Rattle.xti_hall_rule.specs.declared.view.View.{View}
use Rattle.xti_hall_rule.specs.Steps.{with_pen, without_pen}
use Rattle.xti_hall.specs.Pens.{PenView}
use Rattle.xti_hall.specs.Seats.{IsStanding, bare, wrote_entry}
use Rattle.xti_step.specs.Steps.{IsReady, Later}
use Rattle.xti_step.proofs.Standings.{stands-still}

module _ {v0 v2 : View} {l : Lending} {c : Call} {p : PenView} (r : IsReady v0 v2 l c p) where
  base : bare v2 ≡ bare (with_pen v0 p.history p.marks)
  base = ap bare r.pen ∙ ap (λ (z : View). with_pen z p.history p.marks) r.rest

  seen-before : IsPrefix v0.seen v2.history
  seen-before = subst (λ (z : List Entry). IsPrefix z v2.history) (ap (λ (z : View). z.seen) base) r.holds.seen

  pub unmade-later : (w : View) → bare w ≡ bare (without_pen v2 Free) → Later v0 w
  unmade-later w e = record {
    setting = ap (λ (z : View). z.setting) e ∙ ap (λ (z : View). z.setting) base;
    number = ap (λ (z : View). z.number) e ∙ ap (λ (z : View). z.number) base;
    next = ap (λ (z : View). z.next) e ∙ ap (λ (z : View). z.next) base;
    seen = subst (IsPrefix v0.seen) (sym (ap (λ (z : View). z.seen) e)) seen-before;
  }

  pub unmade-mine : (w : View) → bare w ≡ bare (without_pen v2 Free) → w.mine ≡ v0.mine
  unmade-mine w e = ap (λ (z : View). z.mine) e ∙ ap (λ (z : View). z.mine) base

  pub unmade-stands : (w : View) → bare w ≡ bare (without_pen v2 Free) → IsStanding v2 → IsStanding w
  unmade-stands w e s = stands-still (without_pen v2 Free) w e record {
    numbered = s.numbered;
    below = s.below;
    legal = r.holds.legal;
    bytes = r.holds.bytes;
    mine = r.holds.mine r.numbered;
    spare = r.holds.spare r.numbered;
  }

  pub made-later : (w : View) (x : Entry) → bare w ≡ bare (without_pen (wrote_entry v2 x) Free) → Later v0 w
  made-later w x e = let b = seen-before in record {
    setting = ap (λ (z : View). z.setting) e ∙ ap (λ (z : View). z.setting) base;
    number = ap (λ (z : View). z.number) e ∙ ap (λ (z : View). z.number) base;
    next = ap (λ (z : View). z.next) e ∙ ap (λ (z : View). z.next) base;
    seen = subst (IsPrefix v0.seen) (sym (ap (λ (z : View). z.seen) e)) (b.0 ++ x ∷ [], sym (append_assoc v0.seen b.0 (x ∷ [])) ∙ ap (λ (h : List Entry). h ++ x ∷ []) b.1);
  }

  pub made-at : (w : View) (x : Entry) (n : ℕ) → bare w ≡ bare (without_pen (wrote_entry v2 x) Free) → n ≡ length p.history → p.history ≡ v2.history → length w.seen ≡ n + 1
  made-at w x n e is same =
      ap (λ (z : View). length z.seen) e ∙ (length-append v2.history (x ∷ []) ∙ ap (λ (k : ℕ). k + 1) (sym (is ∙ ap (λ (h : List Entry). length h) same)))
