-- What a seat knows once it has taken the journal and given it back without an entry.
use Rattle.std.proofs.Common.{◌≡◌, ℕ, ◌≤◌, ◌++◌, false, List, length, take, refl, ap, sym, subst, ◌∙◌, arith, append_assoc}
use Rattle.std.proofs.lemmas.List.{take-append-le}
use mathlib.Core.List.{IsPrefix}
use Rattle.xti_model.specs.declared.entry.Entry.{Entry}
use Rattle.xti_hall_rule.specs.declared.setting.Setting.{Setting}
use Rattle.xti_hall_rule.specs.declared.view.Journal.{Journal}
use Rattle.xti_hall_rule.specs.declared.view.Mark.{Mark}
use Rattle.xti_hall_rule.specs.declared.view.View.{View}
use Rattle.xti_wants.specs.declared.want.Want.{Want}
use Rattle.xti_hall_rule.specs.Histories.{Blocked}
use Rattle.xti_hall_rule.specs.Steps.{Holds, with_pen, without_pen}
use Rattle.xti_hall.specs.Seats.{Looks, TakesJournal}
use Rattle.xti_hall.specs.Stalls.{WasBlocked}
use Rattle.xti_hall.proofs.Stalls.{prefix-length}

prefix-then : (xs ys zs : List Entry) → IsPrefix xs ys → IsPrefix ys zs → IsPrefix xs zs
prefix-then xs ys zs a b = (a.0 ++ b.0, sym (append_assoc xs a.0 b.0) ∙ (ap (λ l. l ++ b.0) a.1 ∙ b.1))

-- what was blocked after so many entries is so in a longer history
pub blocked-later : (p : Setting) (xs ys : List Entry) (at : ℕ) (want : Want) → IsPrefix xs ys → at ≤ length xs → Blocked p (take at xs) want
    → (at ≤ length ys) × Blocked p (take at ys) want
blocked-later p xs ys at want more le b =
    let longer = prefix-length xs ys more in
    let same : take at xs ≡ take at ys = sym (take-append-le at xs more.0 le) ∙ ap (take at) more.1 in
    (omega (arith, longer, le), subst (λ (z : List Entry). Blocked p z want) same b)

-- the journal was taken and went back with some mark
pub looks-back : (v v1 v2 : View) (j : Journal) (mark : Mark) → TakesJournal v j v1 → Holds v1 → v2 ≡ without_pen v1 mark → v.journal ≡ false → Looks v v2
looks-back v v1 v2 j mark pen holds back free =
    let h : List Entry = v1.history in let marks : List Mark = j.marks.items in
    let all : v2 ≡ without_pen (with_pen v h marks) mark = back ∙ ap (λ (z : View). without_pen z mark) pen in
    let held : Holds (with_pen v h marks) = subst Holds pen holds in
    subst (Looks v) (sym all) record { setting = refl; number = refl; next = refl; mine = refl; held = refl; journal = sym free; refused = refl; seen = held.seen }

pub looks-on : (u v w : View) → Looks u v → Looks v w → Looks u w
looks-on u v w a b = record {
  setting = b.setting ∙ a.setting;
  number = b.number ∙ a.number;
  next = b.next ∙ a.next;
  mine = b.mine ∙ a.mine;
  held = b.held ∙ a.held;
  journal = b.journal ∙ a.journal;
  refused = b.refused ∙ a.refused;
  seen = prefix-then u.seen v.seen w.seen a.seen b.seen;
}

-- a want that was blocked when the seat looked again
pub still-blocked : (v w : View) (at : ℕ) (want : Want) → Looks v w → WasBlocked v at want → WasBlocked w at want
still-blocked v w at want looks was =
    blocked-later w.setting v.seen w.seen at want looks.seen was.0 (subst (λ (p : Setting). Blocked p (take at v.seen) want) (sym looks.setting) was.1)

-- the mark of a wait fits the history that the journal has
pub wait-fits : (v v1 : View) (j : Journal) (at : ℕ) (want : Want) → TakesJournal v j v1 → Holds v1 → WasBlocked v at want
    → (at ≤ length v1.history) × Blocked v1.setting (take at v1.history) want
wait-fits v v1 j at want pen holds was =
    let seen : v1.seen ≡ v.seen = ap (λ (z : View). z.seen) pen in
    let setting : v1.setting ≡ v.setting = ap (λ (z : View). z.setting) pen in
    blocked-later v1.setting v.seen v1.history at want (subst (λ (z : List Entry). IsPrefix z v1.history) seen holds.seen) was.0
    (subst (λ (p : Setting). Blocked p (take at v.seen) want) (sym setting) was.1)
