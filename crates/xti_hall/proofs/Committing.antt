-- What a seat is after a commit.
use Rattle.std.proofs.Common.{◌≡◌, ◌≢◌, ℕ, ◌<◌, List, [], ◌∷◌, ◌++◌, length, refl, ap, sym, subst, ◌∙◌, arith, if◌then◌else◌, true}
use Rattle.std.specs.Prelude.{Option, None}
use Rattle.atomic_table.specs.Table.{rest}
use Rattle.xti_model.specs.declared.entry.Entry.{Entry}
use Rattle.xti_hall_rule.specs.Histories.{own}
use Rattle.xti_hall_rule.specs.declared.view.Mark.{Mark}
use Rattle.xti_hall_rule.specs.declared.view.View.{View}
use Rattle.xti_hall_rule.specs.Steps.{Seated, without_pen, committed, Holds, Commits}
use Rattle.xti_hall_rule.proofs.Laws.{own-append, own-other, legal-more, bytes-more}
use Rattle.xti_hall.specs.Seats.{FitsSeat, Sits, hand, IsStanding, unfinished_bytes}

-- an entry of another worker is none of this number
other-more : (k : ℕ) (h : List Entry) (e : Entry) → e.worker ≢ k → own k h ≡ [] → own k (h ++ e ∷ []) ≡ []
other-more k h e ne is = own-append k h (e ∷ []) ∙ (ap (λ z. z ++ own k (e ∷ [])) is ∙ own-other k e ne)

pub stands-after : (v : View) (e : Entry) (mark : Mark) → Holds v → Commits v e → v.numbered ≡ true → v.number < v.next → IsStanding (without_pen (committed v (v.history ++ e ∷ [])) mark)
stands-after v e mark holds c numbered below = record {
  numbered = numbered;
  below = below;
  legal = legal-more v.setting v.history e holds.legal c.right;
  bytes = bytes-more v.history e holds.bytes c.bytes;
  mine = refl;
  spare = λ k le. let same = c.mine in other-more k v.history e (λ is. omega (arith, le, below, same, is)) (holds.spare numbered k le);
}

pub after-commit : {C : Type 0} (v : View) (m m' : Seated C) (mark : Mark) (e : Entry) (number next steps : ℕ) (unfinished : Option ℕ) → m.0 ≡ v → m' ≡ (without_pen (committed m.0 (v.history ++ e ∷ [])) mark, rest m.1) → Sits m.0 → m.1 ≡ hand m.0 → m.0.journal ≡ true
    → Holds v → Commits v e → m.0.numbered ≡ true → m.0.number < m.0.next
    → number ≡ m.0.number → next ≡ m.0.next → steps ≡ length (own v.number (v.history ++ e ∷ [])) → unfinished ≡ unfinished_bytes (own v.number (v.history ++ e ∷ [])) → FitsSeat m' number next steps unfinished
after-commit {C} v m m' mark e number next steps unfinished is new s out on holds c numbered below num nx many left =
    subst (λ (z : Seated C). FitsSeat z number next steps unfinished) (sym new) (
      ap rest out ∙ ap (λ b. rest (if b then (m.0.setting.cells, None) ∷ [] else [])) on,
      record { live = s.live; numbered = s.numbered; shut = s.shut; small = s.small },
      num,
      nx,
      many ∙ ap (λ (z : View). length (own z.number (v.history ++ e ∷ []))) (sym is),
      left ∙ ap (λ (z : View). unfinished_bytes (own z.number (v.history ++ e ∷ []))) (sym is),
      subst (λ (z : View). IsStanding (without_pen (committed z (v.history ++ e ∷ [])) mark)) (sym is) (stands-after v e mark holds c (ap (λ (z : View). z.numbered) (sym is) ∙ numbered) (subst (λ (z : View). z.number < z.next) is below)),
    )
