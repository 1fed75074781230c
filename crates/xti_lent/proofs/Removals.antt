-- An endpoint that is taken back.
use Rattle.std.proofs.Common.{◌≡◌, ℕ, ◌+◌, ◌<◌, Bool, true, false, not, cond, eqb, ltb, List, [], ◌∷◌, length, Some, refl, ap, arith}
use Rattle.std.specs.Prelude.{remove}
use Rattle.std.specs.List.{AllByRecursion}
use Rattle.std.proofs.lemmas.Bool.Decides.{nat_tests}
use Rattle.xti_model.specs.declared.profile.Providers.{Providers}
use Rattle.xti_model.specs.World.{is_among}
use Rattle.xti_end.specs.Held.{Held}
use Rattle.xti_lent.specs.Lending.{numbers_without, held_without}
use Rattle.xti_lent.specs.Kept.{Distinct, IsPlace}
use Rattle.xti_lent.proofs.Lookups.{index, place_among, some_index, within, one-more, or-parts}

number-step : (b : Bool) (i m : ℕ) (ms rest : List ℕ) → (b ≡ false → remove ms i ≡ rest) → remove (m ∷ ms) (cond (not b) (1 + i) 0) ≡ cond b ms (m ∷ rest)
number-step true i m ms rest k = refl
number-step false i m ms rest k = rw (one-more i) (ap (λ (r : List ℕ). m ∷ r) (k refl))

number-gone : (n : ℕ) (ms : List ℕ) → index n ms < length ms → remove ms (index n ms) ≡ numbers_without ms n
number-gone n [] lt = absurd (omega arith)
number-gone n (m ∷ ms) lt = number-step (eqb m n) (index n ms) m ms (numbers_without ms n) (λ b. number-gone n ms (within (eqb m n) (index n ms) (length ms) b lt))

held-step : (b : Bool) (i : ℕ) (h : Held) (hs rest : List Held) → (b ≡ false → remove hs i ≡ rest) → remove (h ∷ hs) (cond (not b) (1 + i) 0) ≡ cond b hs (h ∷ rest)
held-step true i h hs rest k = refl
held-step false i h hs rest k = rw (one-more i) (ap (λ (r : List Held). h ∷ r) (k refl))

held-gone : (n : ℕ) (ms : List ℕ) (hs : List Held) → length hs ≡ length ms → index n ms < length ms → remove hs (index n ms) ≡ held_without ms hs n
held-gone n [] hs e lt = absurd (omega arith)
held-gone n (m ∷ ms) [] e lt = absurd (omega arith)
held-gone n (m ∷ ms) (h ∷ hs) e lt = held-step (eqb m n) (index n ms) h hs (held_without ms hs n) (λ b. held-gone n ms hs (omega arith) (within (eqb m n) (index n ms) (length ms) b lt))

-- where the search for the number ends, it and its endpoint are removed
pub removed : (n i : ℕ) (ms : List ℕ) (hs : List Held) → length hs ≡ length ms → Some i ≡ place_among n ms → (remove ms i ≡ numbers_without ms n) × (remove hs i ≡ held_without ms hs n)
removed n i ms hs e s =
    let t = some_index (ltb (index n ms) (length ms)) i (index n ms) s in
    let lt : index n ms < length ms = grind (arith, nat_tests) in
    (rw t.1 (number-gone n ms lt), rw t.1 (held-gone n ms hs e lt))

-- a number that is none of them is removed from none
pub absent-number : (n : ℕ) (ms : List ℕ) → is_among ms n ≡ false → numbers_without ms n ≡ ms
absent-number n [] a = refl
absent-number n (m ∷ ms) a = let s = or-parts (eqb m n) (is_among ms n) a in rw (s.0, absent-number n ms s.1) refl

pub absent-held : (n : ℕ) (ms : List ℕ) (hs : List Held) → is_among ms n ≡ false → held_without ms hs n ≡ hs
absent-held n [] hs a = refl
absent-held n (m ∷ ms) [] a = refl
absent-held n (m ∷ ms) (h ∷ hs) a = let s = or-parts (eqb m n) (is_among ms n) a in rw (s.0, absent-held n ms hs s.1) refl

among-less : (n k : ℕ) (ms : List ℕ) → is_among ms k ≡ false → is_among (numbers_without ms n) k ≡ false
among-less n k [] a = refl
among-less n k (m ∷ ms) a = let s = or-parts (eqb m k) (is_among ms k) a in go (eqb m n) s.1 (among-less n k ms s.1)
  where
    go : (b : Bool) → is_among ms k ≡ false → is_among (numbers_without ms n) k ≡ false → is_among (cond b ms (m ∷ numbers_without ms n)) k ≡ false
    go true i j = i
    go false i j = rw ((or-parts (eqb m k) (is_among ms k) a).0, j) refl

pub distinct-less : (n : ℕ) (ms : List ℕ) → Distinct ms → Distinct (numbers_without ms n)
distinct-less n [] d = tt
distinct-less n (m ∷ ms) d = go (eqb m n) (distinct-less n ms d.1)
  where
    go : (b : Bool) → Distinct (numbers_without ms n) → Distinct (cond b ms (m ∷ numbers_without ms n))
    go true i = d.1
    go false i = (among-less n m ms d.0, i)

pub places-less : (p : Providers) (n : ℕ) (ms : List ℕ) → AllByRecursion (IsPlace p) ms → AllByRecursion (IsPlace p) (numbers_without ms n)
places-less p n [] a = tt
places-less p n (m ∷ ms) a = go (eqb m n) (places-less p n ms a.1)
  where
    go : (b : Bool) → AllByRecursion (IsPlace p) (numbers_without ms n) → AllByRecursion (IsPlace p) (cond b ms (m ∷ numbers_without ms n))
    go true i = a.1
    go false i = (a.0, i)

pub paired-less : (n : ℕ) (ms : List ℕ) (hs : List Held) → length hs ≡ length ms → length (held_without ms hs n) ≡ length (numbers_without ms n)
paired-less n [] hs e = e
paired-less n (m ∷ ms) [] e = absurd (omega arith)
paired-less n (m ∷ ms) (h ∷ hs) e = go (eqb m n) (paired-less n ms hs (omega arith))
  where
    go : (b : Bool) → length (held_without ms hs n) ≡ length (numbers_without ms n) → length (cond b hs (h ∷ held_without ms hs n)) ≡ length (cond b ms (m ∷ numbers_without ms n))
    go true i = omega (arith, e)
    go false i = omega (arith, i)
