-- What the rows of a call that has an effect say: none of them that refuses holds.
use Rattle.std.proofs.Common.{Bool, true, false, List, [], ◌∷◌, ◌≡◌, refl, sym, cond, not, Some}
use Rattle.std.proofs.lemmas.Bool.{false≢true}
use Rattle.xti_model.specs.Plan.{Row, Refusal, answers, waits, loses, first, has_effect}

-- each row that answers or waits does not hold, in the rows' order
abbrev pub Cleared : List Row → Type 0
Cleared [] = Unit
Cleared (row ∷ rows) = elim row.refusal [ answers r ↦ (row.holds ≡ false) × Cleared rows | waits r ↦ (row.holds ≡ false) × Cleared rows | loses ↦ Unit ]

pub cleared : (rows : List Row) → has_effect (first rows) ≡ true → Cleared rows
cleared [] g = tt
cleared (row ∷ rows) g = go row.holds row.refusal g (cleared rows)
  where
    go : (b : Bool) (r : Refusal) → has_effect (cond b (Some r) (first rows)) ≡ true → (has_effect (first rows) ≡ true → Cleared rows) → elim r as (λ x. Type 0) [ answers y ↦ (b ≡ false) × Cleared rows | waits y ↦ (b ≡ false) × Cleared rows | loses ↦ Unit ]
    go b loses g k = tt
    go false (answers y) g k = (refl, k g)
    go false (waits y) g k = (refl, k g)
    go true (answers y) g k = absurd (false≢true g)
    go true (waits y) g k = absurd (false≢true g)

pub un-not : (b : Bool) → not b ≡ false → b ≡ true
un-not true h = refl
un-not false h = absurd (false≢true (sym h))
