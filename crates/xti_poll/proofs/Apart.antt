-- A set stays one in which no descriptor stands in two pairs.
use Rattle.std.proofs.Common.{◌≡◌, ℕ, ◌&&◌, ◌||◌, ◌++◌, Bool, true, false, not, eqb, cond, List, [], ◌∷◌, refl, sym, ap, subst, arith}
use Rattle.std.proofs.lemmas.Bool.{and_parts, eqb-true}
use Rattle.std.proofs.lemmas.Bool.Decides.{nat_tests}
use Rattle.xti_base.specs.declared.kinds.Fd.{Fd}
use Rattle.xti_poll.specs.declared.asked.Asked.{Asked}
use Rattle.xti_poll.specs.Sets.{is_of, has, are_apart, with_pair, without}
use Rattle.xti_poll.proofs.Sets.{with-last}

not-true : (b : Bool) → not b ≡ true → b ≡ false
not-true false h = refl
not-true true h = absurd (cc)

neither : (a b : Bool) → (a || b) ≡ false → (a ≡ false) × (b ≡ false)
neither false b h = (refl, h)
neither true b h = absurd (cc)

other-way : (m n : ℕ) → eqb m n ≡ false → eqb n m ≡ false
other-way m n h = grind (arith, nat_tests)

same-fd : (f g : Fd) → f.0 ≡ g.0 → f ≡ g
same-fd f g e = ap (λ (n : ℕ). record { 0 = n }) e

-- another pair than the descriptor's comes to the set
has-with : (f : Fd) (x : Asked) (s : List Asked) → is_of f x ≡ false → has f s ≡ false → has f (with_pair x s) ≡ false
has-with f x [] o h = rw o refl
has-with f x (a ∷ s) o h = by (is_of x.fd a) refl (neither (is_of f a) (has f s) h) (has-with f x s o)
  where
    by : (b : Bool) → is_of x.fd a ≡ b → (is_of f a ≡ false) × (has f s ≡ false) → (has f s ≡ false → has f (with_pair x s) ≡ false) → has f (cond (is_of x.fd a) (x ∷ s) (a ∷ with_pair x s)) ≡ false
    by true e n later = rw (e, o) n.1
    by false e n later = rw (e, n.0) (later n.1)

has-without : (f fd : Fd) (s : List Asked) → has f s ≡ false → has f (without fd s) ≡ false
has-without f fd [] h = refl
has-without f fd (a ∷ s) h = by (is_of fd a) refl (neither (is_of f a) (has f s) h) (has-without f fd s)
  where
    by : (b : Bool) → is_of fd a ≡ b → (is_of f a ≡ false) × (has f s ≡ false) → (has f s ≡ false → has f (without fd s) ≡ false) → has f (cond (is_of fd a) s (a ∷ without fd s)) ≡ false
    by true e n later = rw e n.1
    by false e n later = rw (e, n.0) (later n.1)

both : (a b : Bool) → a ≡ false → b ≡ true → (not a && b) ≡ true
both a b h k = rw (h, k) refl

pub with-apart : (x : Asked) (s : List Asked) → are_apart s ≡ true → are_apart (with_pair x s) ≡ true
with-apart x [] h = refl
with-apart x (a ∷ s) h = by (is_of x.fd a) refl (and_parts (not (has a.fd s)) (are_apart s) h) (with-apart x s)
  where
    by : (b : Bool) → is_of x.fd a ≡ b → (not (has a.fd s) ≡ true) × (are_apart s ≡ true) → (are_apart s ≡ true → are_apart (with_pair x s) ≡ true) → are_apart (cond (is_of x.fd a) (x ∷ s) (a ∷ with_pair x s)) ≡ true
    by true e n later = rw e (both (has x.fd s) (are_apart s) (subst (λ (f : Fd). has f s ≡ false) (same-fd a.fd x.fd (eqb-true a.fd.0 x.fd.0 e)) (not-true (has a.fd s) n.0)) n.1)
    by false e n later = rw e (both (has a.fd (with_pair x s)) (are_apart (with_pair x s)) (has-with a.fd x s (other-way a.fd.0 x.fd.0 e) (not-true (has a.fd s) n.0)) (later n.1))

pub without-apart : (fd : Fd) (s : List Asked) → are_apart s ≡ true → are_apart (without fd s) ≡ true
without-apart fd [] h = refl
without-apart fd (a ∷ s) h = by (is_of fd a) refl (and_parts (not (has a.fd s)) (are_apart s) h) (without-apart fd s)
  where
    by : (b : Bool) → is_of fd a ≡ b → (not (has a.fd s) ≡ true) × (are_apart s ≡ true) → (are_apart s ≡ true → are_apart (without fd s) ≡ true) → are_apart (cond (is_of fd a) s (a ∷ without fd s)) ≡ true
    by true e n later = rw e n.1
    by false e n later = rw e (both (has a.fd (without fd s)) (are_apart (without fd s)) (has-without a.fd fd s (not-true (has a.fd s) n.0)) (later n.1))

-- a pair of another descriptor, put last where there is room
pub added-apart : (b : Bool) (x : Asked) (s : List Asked) → has x.fd s ≡ false → are_apart s ≡ true → are_apart (cond b (s ++ x ∷ []) s) ≡ true
added-apart true x s h k = subst (λ (l : List Asked). are_apart l ≡ true) (with-last x s h) (with-apart x s k)
added-apart false x s h k = k
