-- Lent cells among those that a call names.
use Rattle.std.proofs.Common.{◌≡◌, ℕ, ◌<◌, Bool, true, false, ◌||◌, eqb, List, [], ◌∷◌, refl, sym, ap, ◌∙◌}
use Rattle.std.specs.Prelude.{is_some}
use Rattle.std.specs.List.{AllByRecursion}
use Rattle.std.proofs.lemmas.Bool.{eq-eqb, eqb-true}
use Rattle.std.proofs.Common.{subst}
use Rattle.xti_model.specs.Cells.{listed}
use Rattle.xti_model.specs.World.{is_among, places, switch_number, switch_cell}
use Rattle.xti_model.proofs.RisingNumbers.{among-listed}
use Rattle.xti_registry.specs.Known.{Known}
use Rattle.xti_end.specs.Held.{cell}
use Rattle.xti_lent.specs.Lending.{Lending, held_at, is_lent}
use Rattle.xti_lent.specs.Fit.{AllLent}
use Rattle.xti_lent.proofs.Places.{not-switch}
use Rattle.xti_lent.proofs.Lookups.{some-map}

pub or-true : (b : Bool) → (b || true) ≡ true
or-true true = refl
or-true false = refl

pub or-right : (a b : Bool) → b ≡ true → (a || b) ≡ true
or-right a b e = ap (λ x. a || x) e ∙ or-true a

pub first-among : (n : ℕ) (ns : List ℕ) → is_among (n ∷ ns) n ≡ true
first-among n ns = rw (eq-eqb n n refl) refl

pub later-among : (n m : ℕ) (ns : List ℕ) → is_among ns n ≡ true → is_among (m ∷ ns) n ≡ true
later-among n m ns e = or-right (eqb m n) (is_among ns n) e

-- what holds of all of them
pub all-among : (P : ℕ → Type 0) (ns : List ℕ) (n : ℕ) → AllByRecursion P ns → is_among ns n ≡ true → P n
all-among P [] n a e = cc
all-among P (m ∷ ns) n a e = go (eqb m n) refl e (all-among P ns n a.1)
  where
    go : (b : Bool) → eqb m n ≡ b → (b || is_among ns n) ≡ true → (is_among ns n ≡ true → P n) → P n
    go true i j k = subst P (eqb-true m n i) a.0
    go false i j k = k j

-- what holds of each of them
pub among-all : (P : ℕ → Type 0) (ns : List ℕ) → ((n : ℕ) → is_among ns n ≡ true → P n) → AllByRecursion P ns
among-all P [] h = tt
among-all P (n ∷ ns) h = (h n (first-among n ns), among-all P ns (λ m i. h m (later-among m n ns i)))

-- a cell that is named is lent
pub named-lent : (l : Lending) (ns : List ℕ) (n : ℕ) → AllLent l (listed ns) → is_among ns n ≡ true → is_lent l n ≡ true
named-lent l ns n a e = all-among (λ m. is_lent l m ≡ true) (listed ns) n a (among-listed ns n ∙ e)

pub held-lent : (l : Lending) (n : ℕ) → n < places l.providers → is_lent l n ≡ true → is_some (held_at l n) ≡ true
held-lent l n lt h = let q = not-switch l.providers n lt in sym (some-map cell (held_at l n)) ∙ (rw q at h)

pub table-lent : (l : Lending) → is_lent l (switch_number l.providers) ≡ true → is_some l.registry ≡ true
table-lent l h = let q = eq-eqb (switch_number l.providers) (switch_number l.providers) refl in sym (some-map (λ (k : Known). switch_cell k.switch) l.registry) ∙ (rw q at h)
