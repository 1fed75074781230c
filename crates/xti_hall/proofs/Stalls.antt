-- A stall that a waiter finds.
use Rattle.std.proofs.Common.{◌≡◌, ℕ, zero, suc, ◌+◌, ◌==◌, ◌≤◌, ◌&&◌, cond, Bool, true, false, List, [], ◌∷◌, length, refl, ap, sym, subst, ◌∙◌, arith, length-append}
use Rattle.std.specs.Prelude.{count_by}
use Rattle.std.specs.List.{list_all}
use Rattle.std.proofs.lemmas.Bool.{eqb-true, false≢true}
use Rattle.std.proofs.lemmas.List.{take_all}
use Rattle.std.proofs.lemmas.List.Recursion.{is_count_by}
use mathlib.Core.List.{IsPrefix}
use Rattle.xti_model.specs.declared.entry.Entry.{Entry}
use Rattle.xti_hall_rule.specs.declared.view.Mark.{Mark}
use Rattle.xti_hall_rule.specs.declared.view.Mark.TheVariants.{Absent, Free, Waiting, Resting}
use Rattle.xti_hall_rule.specs.declared.view.View.{View}
use Rattle.xti_wants.specs.declared.want.Want.{Want}
use Rattle.xti_hall_rule.specs.Histories.{Blocked}
use Rattle.xti_hall_rule.specs.Rule.{mark_of, MarkFits}
use Rattle.xti_hall_rule.specs.Steps.{Holds, with_pen, without_pen}
use Rattle.xti_hall.specs.Stalls.{is_settled, waits, rests, is_out, IsStall}

abbrev since : ℕ → Mark → ℕ
since d (Waiting want len) = len
since d other = d

settled-one : (at : ℕ) (m : Mark) (want : Want) (len : ℕ) → is_settled at m ≡ true → m ≡ Waiting want len → len ≡ at
settled-one at m want len s e = eqb-true len at (sym (ap (is_settled at) e) ∙ s)

both : (a b : Bool) → (a && b) ≡ true → (a ≡ true) × (b ≡ true)
both true true e = (refl, refl)
both true false e = cc
both false b e = cc

not-waiting : (want : Want) (len : ℕ) → Absent ≡ Waiting want len → ⊥
not-waiting want len e = absurd (cc)

settled-at : (at : ℕ) (marks : List Mark) (k : ℕ) (want : Want) (len : ℕ) → list_all (is_settled at) marks ≡ true → mark_of marks k ≡ Waiting want len → len ≡ at
settled-at at [] k want len s e = absurd (not-waiting want len e)
settled-at at (m ∷ ms) zero want len s e = settled-one at m want len (both (is_settled at m) (list_all (is_settled at) ms) s).0 e
settled-at at (m ∷ ms) (suc k) want len s e = settled-at at ms k want len (both (is_settled at m) (list_all (is_settled at) ms) s).1 e

-- how many there are, by recursion
abbrev total : (Mark → Bool) → List Mark → ℕ
total f [] = 0
total f (m ∷ ms) = cond (f m) (1 + total f ms) (total f ms)

total-is : (f : Mark → Bool) (ms : List Mark) → total f ms ≡ count_by f ms
total-is f ms = is_count_by (total f) f refl (λ m ms. refl) ms

settled-total : (at : ℕ) (ms : List Mark) → list_all (is_settled at) ms ≡ true → total waits ms + total rests ms ≡ total is_out ms
settled-total at [] e = refl
settled-total at (Absent ∷ ms) e = settled-total at ms e
settled-total at (Free ∷ ms) e = absurd (false≢true e)
settled-total at (Waiting want len ∷ ms) e = let ih = settled-total at ms (both (len == at) (list_all (is_settled at) ms) e).1 in let more : (1 + total waits ms) + total rests ms ≡ 1 + total is_out ms = omega (arith, ih) in more
settled-total at (Resting ∷ ms) e = let ih = settled-total at ms e in let more : total waits ms + (1 + total rests ms) ≡ 1 + total is_out ms = omega (arith, ih) in more

-- the seats that are out wait or rest
out-count : (at : ℕ) (ms : List Mark) → list_all (is_settled at) ms ≡ true → count_by waits ms + count_by rests ms ≡ count_by is_out ms
out-count at ms e = let t = settled-total at ms e in let a = total-is waits ms in let b = total-is rests ms in let c = total-is is_out ms in omega (arith, t, a, b, c)

pub prefix-length : (xs ys : List Entry) → IsPrefix xs ys → length xs ≤ length ys
prefix-length xs ys p = let a = length-append xs p.0 in let b = ap length p.1 in omega (arith, a, b)

pub is_stall : (v0 v1 v3 : View) (h : List Entry) (ms : List Mark) (want : Want) (at n ws rs : ℕ) → v1 ≡ with_pen v0 h ms → Holds v1 → v1.numbered ≡ true → v0.mark ≡ Waiting want at → at ≤ length v0.seen → n ≡ length h → n ≤ at
    → list_all (is_settled at) ms ≡ true → ws ≡ count_by waits ms → rs ≡ count_by rests ms → v3 ≡ without_pen v1 Resting → IsStall v3 want (record { at = at; waiting = ws; resting = rs })
is_stall v0 v1 v3 h ms want at n ws rs pen holds numbered own seen count below settled waiting resting back =
    let marks : v1.marks ≡ ms = ap (λ (z : View). z.marks) pen in
    let hist : v1.history ≡ h = ap (λ (z : View). z.history) pen in
    let old : v1.seen ≡ v0.seen = ap (λ (z : View). z.seen) pen in
    let few : length v1.seen ≤ length v1.history = prefix-length v1.seen v1.history holds.seen in
    let now : at ≡ length v1.history = (let a = ap length old in let b = ap length hist in omega (arith, seen, count, below, few, a, b)) in
    let good : list_all (is_settled at) v1.marks ≡ true = ap (list_all (is_settled at)) marks ∙ settled in
    subst (λ (z : View). IsStall z want (record { at = at; waiting = ws; resting = rs })) (sym back) record {
      at = now;
      here = holds.marked numbered ∙ (ap (λ (z : View). z.mark) pen ∙ own);
      settled = good;
      waiting = waiting ∙ ap (count_by waits) (sym marks);
      resting = resting ∙ ap (count_by rests) (sym marks);
      out = (let w = waiting in let r = resting in let o = out-count at ms settled in omega (arith, w, r, o)) ∙ ap (count_by is_out) (sym marks);
      blocked = λ k other len e.
          let f = subst (MarkFits v1.setting v1.history) e (holds.fits k) in
          let s : len ≡ at = settled-at at v1.marks k other len good e in
          subst (λ (z : List Entry). Blocked v1.setting z other) (take_all len v1.history (omega (arith, s, now))) f.1;
    }
