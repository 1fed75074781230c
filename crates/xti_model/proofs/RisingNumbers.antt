-- Numbers of cells in rising order.
use Rattle.std.proofs.Common.{ℕ, zero, suc, ◌+◌, ◌<◌, ◌≤◌, Bool, true, false, ◌||◌, List, [], ◌∷◌, ◌++◌, length, take, drop, get_or, ◌≡◌, refl, ap, ◌∙◌, eqb, cond, ◌⊎◌, inl, inr, arith}
use Rattle.std.specs.Prelude.{nat_lt}
use Rattle.std.specs.List.{insert, AllByRecursion}
use Rattle.std.proofs.lemmas.Bool.{eqb-true, ne_eqb}
use Rattle.std.proofs.lemmas.Bool.Decides.{eqb_tells, nat_tests}
use Rattle.xti_model.specs.declared.call.Call.{Call}
use Rattle.xti_model.specs.declared.profile.Providers.{Providers}
use Rattle.xti_model.specs.World.{World, is_among}
use Rattle.xti_model.specs.Touched.{named, touched}
use Rattle.xti_model.specs.Cells.{IsRising, IsPlaceFor, with_number, listed}

pub listed-one : (n : ℕ) (ns : List ℕ) → listed (n ∷ ns) ≡ with_number n (listed ns)
unfolding listed
listed-one n ns = refl

pub listed-none : listed [] ≡ []
unfolding listed
listed-none = refl

is-below : (n m : ℕ) → n < m → nat_lt n m ≡ true
is-below n m h = grind (arith, nat_tests)

not-below : (n m : ℕ) → m ≤ n → nat_lt n m ≡ false
not-below n m h = grind (arith, nat_tests)

rising-from : (from to : ℕ) (ns : List ℕ) → IsRising from ns → to ≤ from → IsRising to ns
rising-from from to [] h le = tt
rising-from from to (n ∷ ns) (a, b) le = (omega arith, b)

-- a number before all others
first-with : (n : ℕ) (ns : List ℕ) → IsRising (n + 1) ns → with_number n ns ≡ n ∷ ns
first-with n [] h = refl
first-with n (m ∷ ms) (a, b) = rw (is-below n m (omega arith)) refl

-- rising numbers are in their order already
rising-listed-from : (from : ℕ) (ns : List ℕ) → IsRising from ns → listed ns ≡ ns
unfolding listed
rising-listed-from from [] h = refl
rising-listed-from from (n ∷ ns) (a, b) = ap (with_number n) (rising-listed-from (n + 1) ns b) ∙ first-with n ns b

pub rising-listed : (ns : List ℕ) → IsRising 0 ns → listed ns ≡ ns
rising-listed ns h = rising-listed-from 0 ns h

-- one more number among rising ones
rising-with-from : (from n : ℕ) (ns : List ℕ) → IsRising from ns → from ≤ n → IsRising from (with_number n ns)
rising-with-from from n [] h le = (le, tt)
rising-with-from from n (m ∷ ms) (a, b) le = go (nat_lt n m) refl (eqb n m) refl (λ lt. rising-with-from (m + 1) n ms b lt)
  where
    go : (c : Bool) → nat_lt n m ≡ c → (d : Bool) → eqb n m ≡ d → (m + 1 ≤ n → IsRising (m + 1) (with_number n ms))
        → IsRising from (cond c (n ∷ m ∷ ms) (cond d (m ∷ ms) (m ∷ with_number n ms)))
    go true e d f i = (le, (grind (arith, nat_tests), b))
    go false e true f i = (a, b)
    go false e false f i = (a, i (grind (arith, nat_tests, eqb_tells n m)))

pub rising-with : (n : ℕ) (ns : List ℕ) → IsRising 0 ns → IsRising 0 (with_number n ns)
rising-with n ns h = rising-with-from 0 n ns h (omega arith)

-- what is among the numbers with one more
pub among-with : (n : ℕ) (ns : List ℕ) (m : ℕ) → is_among (with_number n ns) m ≡ is_among (n ∷ ns) m
among-with n [] m = refl
among-with n (x ∷ xs) m = go (nat_lt n x) (eqb n x) refl (among-with n xs m)
  where
    last : (b d e r : Bool) → r ≡ (d || e) → (b || r) ≡ (d || (b || e))
    last true true e r h = refl
    last true false e r h = refl
    last false d e r h = h

    go : (c d : Bool) → eqb n x ≡ d → is_among (with_number n xs) m ≡ (eqb n m || is_among xs m)
        → is_among (cond c (n ∷ x ∷ xs) (cond d (x ∷ xs) (x ∷ with_number n xs))) m ≡ (eqb n m || (eqb x m || is_among xs m))
    go true d e i = refl
    go false true e i = rw (eqb-true n x e) (twice (eqb x m) (is_among xs m))
      where
        twice : (b r : Bool) → (b || r) ≡ (b || (b || r))
        twice true r = refl
        twice false r = refl
    go false false e i = last (eqb x m) (eqb n m) (is_among xs m) (is_among (with_number n xs) m) i

pub among-listed : (ns : List ℕ) (m : ℕ) → is_among (listed ns) m ≡ is_among ns m
unfolding listed
among-listed [] m = refl
among-listed (n ∷ ns) m = among-with n (listed ns) m ∙ ap (λ b. eqb n m || b) (among-listed ns m)

-- what holds of each number holds in order too
all-with : (P : ℕ → Type 0) (n : ℕ) (ns : List ℕ) → P n → AllByRecursion P ns → AllByRecursion P (with_number n ns)
all-with P n [] h t = (h, tt)
all-with P n (m ∷ ms) h (a, b) = go (nat_lt n m) (eqb n m) (all-with P n ms h b)
  where
    go : (c d : Bool) → AllByRecursion P (with_number n ms) → AllByRecursion P (cond c (n ∷ m ∷ ms) (cond d (m ∷ ms) (m ∷ with_number n ms)))
    go true d i = (h, (a, b))
    go false true i = (a, b)
    go false false i = (a, i)

pub all-listed : (P : ℕ → Type 0) (ns : List ℕ) → AllByRecursion P ns → AllByRecursion P (listed ns)
unfolding listed
all-listed P [] h = tt
all-listed P (n ∷ ns) (a, b) = all-with P n (listed ns) a (all-listed P ns b)

-- how many there are in order
length-with : (n : ℕ) (ns : List ℕ) → length (with_number n ns) ≤ suc (length ns)
length-with n [] = omega arith
length-with n (m ∷ ms) = go (nat_lt n m) (eqb n m) (length-with n ms)
  where
    go : (c d : Bool) → length (with_number n ms) ≤ suc (length ms) → length (cond c (n ∷ m ∷ ms) (cond d (m ∷ ms) (m ∷ with_number n ms))) ≤ suc (suc (length ms))
    go true d i = omega arith
    go false true i = omega arith
    go false false i = omega arith

-- no more are in order than there are
pub length-listed : (ns : List ℕ) → length (listed ns) ≤ length ns
unfolding listed
length-listed [] = omega arith
length-listed (n ∷ ns) = let l = length-with n (listed ns) in let m = length-listed ns in omega (arith, l, m)

-- an insertion at the number's place
insert-with-from : (from n i : ℕ) (ns : List ℕ) → IsRising from ns → i ≤ length ns → ((k : ℕ) → k < i → get_or ns k 0 < n) → (i < length ns → n < get_or ns i 0)
    → take i ns ++ n ∷ drop i ns ≡ with_number n ns
insert-with-from from n zero [] h l below above = refl
insert-with-from from n zero (m ∷ ms) h l below above = let lt : n < m = above (omega arith) in rw (is-below n m lt) refl
insert-with-from from n (suc i) [] h l below above = absurd (omega arith)
insert-with-from from n (suc i) (m ∷ ms) (a, b) l below above =
    let lt : m < n = below 0 (omega arith) in
    let e : take i ms ++ n ∷ drop i ms ≡ with_number n ms = insert-with-from (m + 1) n i ms b (omega arith) (λ k j. below (suc k) (omega arith)) (λ j. above (omega arith)) in
    rw (not-below n m (omega arith), ne_eqb n m (λ g. omega arith)) (ap (λ xs. m ∷ xs) e)

pub insert-with : (n i : ℕ) (ns : List ℕ) → IsRising 0 ns → IsPlaceFor n ns i → insert ns i n ≡ with_number n ns
insert-with n i ns h p = insert-with-from 0 n i ns h p.within p.below p.above

low : (from : ℕ) (ns : List ℕ) (m : ℕ) → IsRising from ns → m < from → is_among ns m ≡ false
low from [] m h lt = refl
low from (n ∷ ns) m (a, b) lt = rw (ne_eqb n m (λ e. omega arith), low (n + 1) ns m b (omega arith)) refl

-- a number that is there already
member-from : (from n : ℕ) (ns : List ℕ) → IsRising from ns → is_among ns n ≡ true → with_number n ns ≡ ns
member-from from n [] h t = cc
member-from from n (m ∷ ms) (a, b) t = go (nat_lt n m) refl (eqb n m) refl (eqb m n) refl t (member-from (m + 1) n ms b)
  where
    go : (c : Bool) → nat_lt n m ≡ c → (d : Bool) → eqb n m ≡ d → (d' : Bool) → eqb m n ≡ d' → (d' || is_among ms n) ≡ true → (is_among ms n ≡ true → with_number n ms ≡ ms)
        → cond c (n ∷ m ∷ ms) (cond d (m ∷ ms) (m ∷ with_number n ms)) ≡ m ∷ ms
    go true e d f true f' u i = absurd (grind (arith, nat_tests, eqb_tells m n))
    go true e d f false f' u i = let z : is_among ms n ≡ false = low (m + 1) ms n b (grind (arith, nat_tests)) in cc
    go false e true f d' f' u i = refl
    go false e false f true f' u i = absurd (grind (arith, eqb_tells m n, eqb_tells n m))
    go false e false f false f' u i = ap (λ xs. m ∷ xs) (i u)

pub member-with : (n : ℕ) (ns : List ℕ) → IsRising 0 ns → is_among ns n ≡ true → with_number n ns ≡ ns
member-with n ns h t = member-from 0 n ns h t

apart : (from i n : ℕ) (ns : List ℕ) → IsRising from ns → ((k : ℕ) → k < i → get_or ns k 0 < n) → (i < length ns → n < get_or ns i 0) → is_among ns n ≡ false
apart from i n [] h below above = refl
apart from zero n (x ∷ ns) (u, w) below above = let lt : n < x = above (omega arith) in rw (ne_eqb x n (λ e. omega arith), low (x + 1) ns n w (omega arith)) refl
apart from (suc i) n (x ∷ ns) (u, w) below above =
    let lt : x < n = below 0 (omega arith) in
    rw (ne_eqb x n (λ e. omega arith), apart (x + 1) i n ns w (λ k j. below (suc k) (omega arith)) (λ j. above (omega arith))) refl

-- a number that has a place among others is not one of them
pub room-for : (most n i : ℕ) (ns : List ℕ) → IsRising 0 ns → IsPlaceFor n ns i → (length ns < most) ⊎ (is_among ns n ≡ true) → length ns < most
room-for most n i ns h p (inl r) = r
room-for most n i ns h p (inr m) = let f : is_among ns n ≡ false = apart 0 i n ns h p.below p.above in cc

-- the cells of a call are those that it names, in order
pub touched-listed : (p : Providers) (w : World) (c : Call) → touched p w c ≡ listed (named p w c)
touched-listed p w c = refl
