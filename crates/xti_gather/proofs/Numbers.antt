-- Numbers of cells by their places in a list.
use Rattle.std.proofs.Common.{◌≡◌, ◌≢◌, ℕ, zero, suc, ◌+◌, ◌<◌, ◌≤◌, Bool, true, false, not, ◌&&◌, ◌||◌, cond, eqb, List, [], ◌∷◌, length, Option, Some, None, refl, sym, ap, ◌∙◌, subst, arith}
use Rattle.std.specs.Prelude.{slice_get, is_some, nat_lt}
use Rattle.std.specs.List.{AllByRecursion, find, list_all}
use Rattle.std.proofs.lemmas.Bool.{eq-eqb, ne_eqb, eqb-true}
use Rattle.std.proofs.lemmas.Bool.Decides.{nat_tests}
use Rattle.xti_model.specs.World.{is_among}
use Rattle.xti_model.specs.Cells.{IsRising, listed}
use Rattle.xti_model.proofs.RisingNumbers.{rising-with}

or-true : (b : Bool) → (b || true) ≡ true
or-true true = refl
or-true false = refl

pub among-get : (ns : List ℕ) (k n : ℕ) → slice_get ns k ≡ Some n → is_among ns n ≡ true
among-get [] k n e = absurd (cc)
among-get (m ∷ ns) zero n e = let s : m ≡ n = cc in rw (eq-eqb m n s) refl
among-get (m ∷ ns) (suc k) n e = rw (among-get ns k n e) (or-true (eqb m n))

pub none-among : (ns : List ℕ) (n : ℕ) → ((k : ℕ) → k < length ns → slice_get ns k ≡ Some n → ⊥) → is_among ns n ≡ false
none-among [] n h = refl
none-among (m ∷ ns) n h =
    let r = none-among ns n (λ k lt e. h (suc k) (omega arith) e) in
    rw (ne_eqb m n (λ e. h 0 (omega arith) (ap (λ z. Some z) e)), r) refl

pub all-get : (P : ℕ → Type 0) (ns : List ℕ) → ((k n : ℕ) → k < length ns → slice_get ns k ≡ Some n → P n) → AllByRecursion P ns
all-get P [] h = tt
all-get P (m ∷ ns) h = (h 0 m (omega arith) refl, all-get P ns (λ k n lt e. h (suc k) n (omega arith) e))

pub cases : (i k : ℕ) (A : Type 0) → (i ≡ k → A) → (i ≢ k → A) → A
cases i k A f g = go (eqb i k) refl
  where
    go : (b : Bool) → eqb i k ≡ b → A
    go true e = f (eqb-true i k e)
    go false e = g (λ s. let t = eq-eqb i k s in absurd (cc))

pub get-within : (ns : List ℕ) (k : ℕ) → k < length ns → slice_get ns k ≡ None → ⊥
get-within [] k lt e = absurd (omega arith)
get-within (m ∷ ns) zero lt e = absurd (cc)
get-within (m ∷ ns) (suc k) lt e = get-within ns k (omega arith) e

pub is-not : {A : Type 0} (o : Option A) → is_some o ≡ false → o ≡ None
is-not None e = refl
is-not (Some x) e = absurd (cc)

pub one-get : (ns : List ℕ) (k j n m : ℕ) → k ≡ j → slice_get ns k ≡ Some n → slice_get ns j ≡ Some m → n ≡ m
one-get ns k j n m s e f = let g : slice_get ns k ≡ Some m = ap (slice_get ns) s ∙ f in (let h = sym e ∙ g in cc)

-- lists of one length that have the same at each place
pub one-list : (ns ms : List ℕ) → length ns ≡ length ms → ((k n m : ℕ) → k < length ns → slice_get ns k ≡ Some n → slice_get ms k ≡ Some m → n ≡ m) → ns ≡ ms
one-list [] [] e h = refl
one-list [] (m ∷ ms) e h = absurd (omega arith)
one-list (n ∷ ns) [] e h = absurd (omega arith)
one-list (n ∷ ns) (m ∷ ms) e h =
    let s : n ≡ m = h 0 n m (omega arith) refl refl in
    let t : ns ≡ ms = one-list ns ms (omega arith) (λ k a b lt i j. h (suc k) a b (omega arith) i j) in
    λ i. s i ∷ t i

pub not-both : (b : Bool) → b ≡ true → b ≡ false → ⊥
not-both true e f = cc
not-both false e f = cc

-- one of the numbers stands somewhere
pub record StandsAt (ns : List ℕ) (n : ℕ) : Type 0 where
  pub place : ℕ
  pub inside : place < length ns
  pub is : slice_get ns place ≡ Some n

pub stands-at : (ns : List ℕ) (n : ℕ) → is_among ns n ≡ true → StandsAt ns n
stands-at [] n e = absurd (cc)
stands-at (m ∷ ns) n e = go (eqb m n) refl e (stands-at ns n)
  where
    go : (b : Bool) → eqb m n ≡ b → (b || is_among ns n) ≡ true → (is_among ns n ≡ true → StandsAt ns n) → StandsAt (m ∷ ns) n
    go true i j k = record { place = 0; inside = omega arith; is = ap (λ z. Some z) (eqb-true m n i) }
    go false i j k = let s = k j in record { place = suc s.place; inside = omega (arith, s.inside); is = s.is }

-- of rising numbers a later one is greater
above-first : (from : ℕ) (ns : List ℕ) (j n : ℕ) → IsRising from ns → slice_get ns j ≡ Some n → from ≤ n
above-first from [] j n r e = absurd (cc)
above-first from (m ∷ ns) zero n r e = let s : m ≡ n = cc in omega (arith, s, r.0)
above-first from (m ∷ ns) (suc j) n r e = let l = above-first (m + 1) ns j n r.1 e in omega (arith, l, r.0)

later-greater : (from : ℕ) (ns : List ℕ) (i j m n : ℕ) → IsRising from ns → i < j → slice_get ns i ≡ Some m → slice_get ns j ≡ Some n → m < n
later-greater from [] i j m n r lt e f = absurd (cc)
later-greater from (x ∷ ns) i zero m n r lt e f = absurd (omega arith)
later-greater from (x ∷ ns) zero (suc j) m n r lt e f = let s : x ≡ m = cc in let l = above-first (x + 1) ns j n r.1 f in omega (arith, l, s)
later-greater from (x ∷ ns) (suc i) (suc j) m n r lt e f = later-greater (x + 1) ns i j m n r.1 (omega arith) e f

listed-rising : (ns : List ℕ) → IsRising 0 (listed ns)
unfolding listed
listed-rising [] = tt
listed-rising (n ∷ ns) = rising-with n (listed ns) (listed-rising ns)

pub rises : (ns : List ℕ) (i j m n : ℕ) → ns ≡ listed ns → i < j → slice_get ns i ≡ Some m → slice_get ns j ≡ Some n → m < n
rises ns i j m n e = later-greater 0 ns i j m n (subst (IsRising 0) (sym e) (listed-rising ns))

-- the first number that is not among others, or none
pub found-beside : (ms ns : List ℕ) (n : ℕ) → find (λ n. not (is_among ns n)) ms ≡ Some n → (is_among ms n ≡ true) × (is_among ns n ≡ false)
found-beside [] ns n e = absurd (cc)
found-beside (m ∷ ms) ns n e = go (is_among ns m) refl e (found-beside ms ns n)
  where
    go : (b : Bool) → is_among ns m ≡ b → cond (not b) (Some m) (find (λ n. not (is_among ns n)) ms) ≡ Some n → (find (λ n. not (is_among ns n)) ms ≡ Some n → (is_among ms n ≡ true) × (is_among ns n ≡ false))
        → (is_among (m ∷ ms) n ≡ true) × (is_among ns n ≡ false)
    go true i j k = let r = k j in (rw r.0 (or-true (eqb m n)), r.1)
    go false i j k = let s : m ≡ n = cc in (rw (eq-eqb m n s) refl, ap (is_among ns) (sym s) ∙ i)

pub none-beside : (ms ns : List ℕ) (n : ℕ) → find (λ n. not (is_among ns n)) ms ≡ None → is_among ms n ≡ true → is_among ns n ≡ true
none-beside [] ns n e i = absurd (cc)
none-beside (m ∷ ms) ns n e i = go (is_among ns m) refl e (eqb m n) refl i (λ f. none-beside ms ns n f)
  where
    go : (b : Bool) → is_among ns m ≡ b → cond (not b) (Some m) (find (λ n. not (is_among ns n)) ms) ≡ None → (d : Bool) → eqb m n ≡ d → (d || is_among ms n) ≡ true
        → (find (λ n. not (is_among ns n)) ms ≡ None → is_among ms n ≡ true → is_among ns n ≡ true) → is_among ns n ≡ true
    go false b j d f i k = absurd (cc)
    go true b j true f i k = ap (is_among ns) (sym (eqb-true m n f)) ∙ b
    go true b j false f i k = k j i

-- all numbers are lower, or one is not
pub lower-all : (ms : List ℕ) (k n : ℕ) → list_all (λ n. nat_lt n k) ms ≡ true → is_among ms n ≡ true → n < k
lower-all [] k n e i = absurd (cc)
lower-all (m ∷ ms) k n e i = go (nat_lt m k) refl (list_all (λ n. nat_lt n k) ms) refl e (eqb m n) refl i (lower-all ms k n)
  where
    go : (b : Bool) → nat_lt m k ≡ b → (a : Bool) → list_all (λ n. nat_lt n k) ms ≡ a → (b && a) ≡ true → (d : Bool) → eqb m n ≡ d → (d || is_among ms n) ≡ true → (a ≡ true → is_among ms n ≡ true → n < k) → n < k
    go false b a c e d f i k' = absurd (cc)
    go true b false c e d f i k' = absurd (cc)
    go true b true c e true f i k' = let s : m ≡ n = eqb-true m n f in let l : m < k = grind (arith, nat_tests) in omega (arith, l, s)
    go true b true c e false f i k' = k' refl i

pub one-not-lower : (ms : List ℕ) (k : ℕ) → list_all (λ n. nat_lt n k) ms ≡ false → (n : ℕ) × (is_among ms n ≡ true) × (k ≤ n)
one-not-lower [] k e = absurd (cc)
one-not-lower (m ∷ ms) k e = go (nat_lt m k) refl e (one-not-lower ms k)
  where
    go : (b : Bool) → nat_lt m k ≡ b → (b && list_all (λ n. nat_lt n k) ms) ≡ false → (list_all (λ n. nat_lt n k) ms ≡ false → (n : ℕ) × (is_among ms n ≡ true) × (k ≤ n)) → (n : ℕ) × (is_among (m ∷ ms) n ≡ true) × (k ≤ n)
    go false b e i = (m, rw (eq-eqb m m refl) refl, grind (arith, nat_tests))
    go true b e i = let r = i e in (r.0, rw r.1 (or-true (eqb m r.0)), r.2)
