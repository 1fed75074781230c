-- A hall at its end: its seat goes on having taken the journal, and another meets it.
use Rattle.std.proofs.Common.{◌≡◌, ℕ, List, ap, sym, subst, ◌∙◌}
use mathlib.Core.List.{IsPrefix}
use Rattle.xti_model.specs.declared.entry.Entry.{Entry}
use Rattle.xti_hall_rule.specs.declared.view.View.{View}
use Rattle.xti_hall_rule.specs.Steps.{Looked, told, with_seen}
use Rattle.xti_hall.specs.Seats.{HasTaken, Meets, SeatView, shut}

-- the seat v has taken the journal, was told what w had seen, and saw the history h
module _ (v w t l : View) (n : ℕ) (h history : List Entry) (taken : HasTaken v history) (e : t ≡ told v w) (s : l ≡ with_seen t h) (k : Looked t n h) where
  no-longer : h ≡ history
  no-longer = k.recorded (ap (λ (z : View). z.journal) e ∙ taken.taken) ∙ (ap (λ (z : View). z.history) e ∙ taken.found)

  pub still-taken : HasTaken l history
  still-taken = subst (λ (z : View). HasTaken z history) (sym (s ∙ ap (λ (z : View). with_seen z h) e)) record { taken = taken.taken; found = taken.found; seen = no-longer }

  pub met-whole : (u : SeatView) (q : SeatView) → shut u ≡ q → u.view ≡ v → IsPrefix w.seen q.view.seen
  met-whole u q is same =
      let all : h ≡ q.view.seen = no-longer ∙ (sym taken.seen ∙ (ap (λ (z : View). z.seen) (sym same) ∙ ap (λ (z : SeatView). z.view.seen) is)) in
      subst (IsPrefix w.seen) all (subst (λ (z : List Entry). IsPrefix z h) (ap (λ (z : View). z.heard) e) k.heard)

  pub meets-at-end : (a r : View) (u q : SeatView) → shut u ≡ q → u.view ≡ v → a ≡ w → Meets a l r → Meets w q.view r
  meets-at-end a r u q is same b m =
      let all : l.seen ≡ q.view.seen = ap (λ (z : View). z.seen) s ∙ (no-longer ∙ (sym taken.seen ∙ (ap (λ (z : View). z.seen) (sym same) ∙ ap (λ (z : SeatView). z.view.seen) is))) in
      subst (λ (z : View). Meets z q.view r) b record {
        setting = m.setting;
        number = m.number;
        next = m.next;
        mine = m.mine;
        held = m.held;
        journal = m.journal;
        mark = m.mark;
        refused = m.refused;
        first = m.first;
        second = subst (λ (z : List Entry). IsPrefix z r.seen) all m.second;
      }
