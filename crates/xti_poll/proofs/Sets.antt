-- The pair of a descriptor, by its place.
use Rattle.std.proofs.Common.{◌≡◌, ℕ, zero, suc, ◌<◌, ◌≤◌, ◌&&◌, ◌||◌, ◌++◌, Bool, true, false, not, cond, List, [], ◌∷◌, length, get_or, set, take, drop, refl, ap, arith}
use Rattle.std.specs.Prelude.{nat_le}
use Rattle.xti_base.specs.declared.kinds.Fd.{Fd}
use Rattle.xti_poll.specs.declared.asked.Asked.{Asked}
use Rattle.xti_poll.specs.Sets.{is_of, has, is_full_for, with_pair, without, IsFirstOf}

not-both : (b : Bool) → b ≡ true → b ≡ false → ⊥
not-both true e f = cc
not-both false e f = cc

later : (fd : Fd) (a : Asked) (s : List Asked) (k : ℕ) → IsFirstOf fd (a ∷ s) (suc k) → IsFirstOf fd s k
later fd a s k first = record {
  within = let w = first.within in omega (arith, w);
  here = first.here;
  before = λ j d lt. first.before (suc j) d (omega (arith, lt));
}

pub with-first : (x : Asked) (s : List Asked) (k : ℕ) → IsFirstOf x.fd s k → with_pair x s ≡ set s k x
with-first x [] k first = absurd (let w = first.within in omega (arith, w))
with-first x (a ∷ s) zero first = rw (first.here x) refl
with-first x (a ∷ s) (suc k) first = rw (first.before 0 x (omega arith)) (ap (λ (z : List Asked). a ∷ z) (with-first x s k (later x.fd a s k first)))

pub has-first : (fd : Fd) (s : List Asked) (k : ℕ) → IsFirstOf fd s k → has fd s ≡ true
has-first fd [] k first = absurd (let w = first.within in omega (arith, w))
has-first fd (a ∷ s) zero first = rw (first.here a) refl
has-first fd (a ∷ s) (suc k) first = rw (first.before 0 a (omega arith)) (has-first fd s k (later fd a s k first))

pub without-first : (fd : Fd) (s : List Asked) (k : ℕ) → IsFirstOf fd s k → without fd s ≡ take k s ++ drop (suc k) s
without-first fd [] k first = absurd (let w = first.within in omega (arith, w))
without-first fd (a ∷ s) zero first = rw (first.here a) refl
without-first fd (a ∷ s) (suc k) first = rw (first.before 0 a (omega arith)) (ap (λ (z : List Asked). a ∷ z) (without-first fd s k (later fd a s k first)))

pub with-last : (x : Asked) (s : List Asked) → has x.fd s ≡ false → with_pair x s ≡ s ++ x ∷ []
with-last x [] h = refl
with-last x (a ∷ s) h = go (is_of x.fd a) refl h (with-last x s)
  where
    go : (b : Bool) → is_of x.fd a ≡ b → (b || has x.fd s) ≡ false → (has x.fd s ≡ false → with_pair x s ≡ s ++ x ∷ []) → cond (is_of x.fd a) (x ∷ s) (a ∷ with_pair x s) ≡ a ∷ (s ++ x ∷ [])
    go true e f later = absurd (cc)
    go false e f later = rw e (ap (λ (z : List Asked). a ∷ z) (later f))

pub without-none : (fd : Fd) (s : List Asked) → has fd s ≡ false → without fd s ≡ s
without-none fd [] h = refl
without-none fd (a ∷ s) h = go (is_of fd a) refl h (without-none fd s)
  where
    go : (b : Bool) → is_of fd a ≡ b → (b || has fd s) ≡ false → (has fd s ≡ false → without fd s ≡ s) → cond (is_of fd a) s (a ∷ without fd s) ≡ a ∷ s
    go true e f later = absurd (cc)
    go false e f later = rw e (ap (λ (z : List Asked). a ∷ z) (later f))

-- no pair so far is of the descriptor
abbrev pub NoneTo : Fd → List Asked → ℕ → Type 0
NoneTo fd s k = (j : ℕ) (d : Asked) → j < k → is_of fd (get_or s j d) ≡ false

pub none-has : (fd : Fd) (s : List Asked) (k : ℕ) → NoneTo fd s k → length s ≤ k → has fd s ≡ false
none-has fd [] k none le = refl
none-has fd (a ∷ s) zero none le = absurd (omega (arith, le))
none-has fd (a ∷ s) (suc k) none le = rw (none 0 a (omega arith)) (none-has fd s k (λ j d lt. none (suc j) d (omega (arith, lt))) (omega (arith, le)))

-- a set that has the descriptor isn't full for it
pub not-full : (fd : Fd) (s : List Asked) → has fd s ≡ true → is_full_for fd s ≡ true → ⊥
not-full fd s h f = not-both (is_full_for fd s) f (ap (λ b. not b && nat_le 64 (length s)) h)
