-- Endpoints in slots, where each slot has one.
use Rattle.std.proofs.Common.{◌≡◌, ℕ, zero, suc, ◌<◌, ◌≤◌, List, [], ◌∷◌, ◌++◌, length, get_or, set, Option, Some, None, refl, sym, ap, ◌∙◌, arith}
use Rattle.std.specs.Prelude.{remove}
use Rattle.xti_end.specs.Held.{Held}
use Rattle.xti_lent.specs.Lending.{held_in}
use Rattle.xti_lent.specs.Kept.{held_of}
use Rattle.xti_lent.proofs.Lookups.{place_among, found}

at-most : (ss : List (Option Held)) → length (held_of ss) ≤ length ss
at-most [] = omega arith
at-most (None ∷ ss) = let l = at-most ss in omega (arith, l)
at-most (Some h ∷ ss) = let l = at-most ss in omega (arith, l)

not-none : (ss : List (Option Held)) → length (held_of (None ∷ ss)) ≡ length {A = Option Held} (None ∷ ss) → ⊥
not-none ss e = let l = at-most ss in absurd (omega (arith, l, e))

pub held-push : (ss : List (Option Held)) (h : Held) → held_of (ss ++ Some h ∷ []) ≡ held_of ss ++ h ∷ []
held-push [] h = refl
held-push (None ∷ ss) h = held-push ss h
held-push (Some x ∷ ss) h = ap (λ (hs : List Held). x ∷ hs) (held-push ss h)

pub slot-at : (ss : List (Option Held)) (i : ℕ) (d : Option Held) (h : Held) → length (held_of ss) ≡ length ss → i < length ss → get_or ss i d ≡ Some (get_or (held_of ss) i h)
slot-at [] i d h e lt = absurd (omega arith)
slot-at (None ∷ ss) i d h e lt = absurd (not-none ss e)
slot-at (Some x ∷ ss) zero d h e lt = refl
slot-at (Some x ∷ ss) (suc i) d h e lt = slot-at ss i d h (omega (arith, e)) (omega arith)

pub held-remove : (ss : List (Option Held)) (i : ℕ) → length (held_of ss) ≡ length ss → i < length ss → held_of (remove ss i) ≡ remove (held_of ss) i
held-remove [] i e lt = absurd (omega arith)
held-remove (None ∷ ss) i e lt = absurd (not-none ss e)
held-remove (Some x ∷ ss) zero e lt = refl
held-remove (Some x ∷ ss) (suc i) e lt = ap (λ (hs : List Held). x ∷ hs) (held-remove ss i (omega (arith, e)) (omega arith))

pub held-set : (ss : List (Option Held)) (i : ℕ) (h : Held) → length (held_of ss) ≡ length ss → i < length ss → held_of (set ss i (Some h)) ≡ set (held_of ss) i h
held-set [] i h e lt = absurd (omega arith)
held-set (None ∷ ss) i h e lt = absurd (not-none ss e)
held-set (Some x ∷ ss) zero h e lt = refl
held-set (Some x ∷ ss) (suc i) h e lt = ap (λ (hs : List Held). x ∷ hs) (held-set ss i h (omega (arith, e)) (omega arith))

-- the slot where the search for a number ends has the endpoint under that number
pub slot-there : (n i : ℕ) (ms : List ℕ) (ss : List (Option Held)) (s : Option Held) → length (held_of ss) ≡ length ms → length ss ≡ length ms → Some i ≡ place_among n ms → s ≡ get_or ss i s → s ≡ held_in ms (held_of ss) n
slot-there n i ms ss None paired full found-there is =
    let f = found n i ms (held_of ss) paired found-there in
    is ∙ absurd (none-there ss i (paired ∙ sym full) (omega (arith, f.inside, paired, full)) (sym is))
  where
    none-there : (ss : List (Option Held)) (i : ℕ) → length (held_of ss) ≡ length ss → i < length ss → get_or ss i None ≡ None → ⊥
    none-there [] i e lt k = absurd (omega arith)
    none-there (None ∷ ss) i e lt k = not-none ss e
    none-there (Some h ∷ ss) zero e lt k = cc
    none-there (Some h ∷ ss) (suc i) e lt k = none-there ss i (omega (arith, e)) (omega arith) k
slot-there n i ms ss (Some h) paired full found-there is =
    let f = found n i ms (held_of ss) paired found-there in
    is ∙ slot-at ss i (Some h) h (paired ∙ sym full) (omega (arith, f.inside, paired, full)) ∙ sym (f.here h)
