-- Portions of joined parts, part by part.
use Rattle.std.proofs.Common.{◌≡◌, ◌≤◌, ◌+◌, ◌-◌, ℕ, zero, suc, Bool, true, false, not, List, [], ◌∷◌, ◌++◌, length, take, drop, refl, sym, ap, ◌∙◌, arith}
use Rattle.std.specs.Prelude.{min}
use Rattle.std.specs.List.{concat}
use Rattle.std.proofs.lemmas.Bool.Decides.{nat_tests}
use Rattle.std.proofs.lemmas.List.{length-take, length-drop, drop_min, take_all, take_min}
use Rattle.tpi_prim.specs.Indication.{data_ind, kind_for}
use Rattle.tpi_prim.specs.Primitive.{kind_of}
use Rattle.xti_model.specs.Symbols.{piece}
use Rattle.xti_queue.specs.Indications.{symbols_of, ends_message}

take-none : (n : ℕ) → take {A = ℕ} n [] ≡ []
take-none zero = refl
take-none (suc n) = refl

drop-none : (n : ℕ) → drop {A = ℕ} n [] ≡ []
drop-none zero = refl
drop-none (suc n) = refl

take-split : (n : ℕ) (xs ys : List ℕ) → take n (xs ++ ys) ≡ take n xs ++ take (n - length xs) ys
take-split n [] ys = let z : n - 0 ≡ n = omega arith in rw (z, take-none n) refl
take-split zero (x ∷ xs) ys = let z : zero - length (x ∷ xs) ≡ 0 = omega arith in rw z refl
take-split (suc n) (x ∷ xs) ys = let s : suc n - length (x ∷ xs) ≡ n - length xs = omega arith in rw s (ap (λ (l : List ℕ). x ∷ l) (take-split n xs ys))

drop-split : (n : ℕ) (xs ys : List ℕ) → drop n (xs ++ ys) ≡ drop n xs ++ drop (n - length xs) ys
drop-split n [] ys = let z : n - 0 ≡ n = omega arith in rw (z, drop-none n) refl
drop-split zero (x ∷ xs) ys = let z : zero - length (x ∷ xs) ≡ 0 = omega arith in rw z refl
drop-split (suc n) (x ∷ xs) ys = let s : suc n - length (x ∷ xs) ≡ n - length xs = omega arith in rw s (drop-split n xs ys)

-- one more part gives its share
pub one-more : (before count : ℕ) (front x : List ℕ) →
    take count (drop before (front ++ x)) ≡ take count (drop before front) ++ take (count - (length front - before)) (drop (before - length front) x)
one-more before count front x =
    ap (take count) (drop-split before front x) ∙ take-split count (drop before front) (drop (before - length front) x)
    ∙ ap (λ (n : ℕ). take count (drop before front) ++ take (count - n) (drop (before - length front) x)) (length-drop before front)

-- how many bytes a portion has so far
pub so-far : (before count : ℕ) (front : List ℕ) → length (take count (drop before front)) ≡ min count (length front - before)
so-far before count front = length-take count (drop before front) ∙ ap (min count) (length-drop before front)

-- what a step takes of a part, by how many bytes are skipped in it and how many are taken of the rest
pub share : (before count : ℕ) (front x : List ℕ) (skip left skipped taken : ℕ) → skip ≡ before - length front → left ≡ count - (length front - before)
    → skipped ≡ min skip (length x) → taken ≡ min left (length (drop skipped x))
    → take count (drop before front) ++ take taken (drop skipped x) ≡ take count (drop before (front ++ x))
share before count front x skip left skipped taken s l k t =
    let rest : drop skipped x ≡ drop skip x = ap (λ (n : ℕ). drop n x) k ∙ drop_min skip x in
    let piece : take taken (drop skipped x) ≡ take left (drop skip x) = ap (λ (n : ℕ). take n (drop skipped x)) t ∙ (take_min left (drop skipped x) ∙ ap (λ (y : List ℕ). take left y) rest) in
    ap (λ (y : List ℕ). take count (drop before front) ++ y) (piece ∙ (ap (λ (n : ℕ). take left (drop n x)) s ∙ ap (λ (n : ℕ). take n (drop (before - length front) x)) l))
    ∙ sym (one-more before count front x)

-- what is left to skip and to take after it
pub skip-next : (before n m skip skipped : ℕ) → skip ≡ before - n → skipped ≡ min skip m → skip - skipped ≡ before - (n + m)
skip-next before n m skip skipped s k = grind (arith, nat_tests)

pub left-next : (before count n m skip left skipped taken : ℕ) → skip ≡ before - n → left ≡ count - (n - before) → skipped ≡ min skip m → taken ≡ min left (m - skipped) → left - taken ≡ count - ((n + m) - before)
left-next before count n m skip left skipped taken s l k t = grind (arith, nat_tests)

-- no more is skipped than there is to skip, nor than the part has; the same of what is taken
pub at-most-left : (n a b : ℕ) → n ≡ min a b → n ≤ a
at-most-left n a b e = grind arith

pub at-most-right : (n a b : ℕ) → n ≡ min a b → n ≤ b
at-most-right n a b e = grind arith

pub all-taken : (n left : ℕ) (xs : List ℕ) → n ≡ min left (length xs) → n ≡ length (take n xs)
all-taken n left xs e = let t = length-take n xs in grind arith

-- before the first part nothing is taken
pub none-taken : (before count : ℕ) → [] ≡ take {A = ℕ} count (drop before [])
none-taken before count = sym (ap (take {A = ℕ} count) (drop-none before) ∙ take-none count)

pub less-none : (n : ℕ) → n ≡ n - 0
less-none n = omega arith

pub less-none-left : (n m : ℕ) → n ≡ n - (0 - m)
less-none-left n m = omega arith

-- there is room for what is taken of a part
room-for : (n count left taken a b : ℕ) → left ≡ count - n → taken ≤ left → a ≡ min count n → b ≤ taken → a + b ≤ count
room-for n count left taken a b l t e f = grind arith

pub piece-fits : (before count : ℕ) (front xs : List ℕ) (left taken : ℕ) → left ≡ count - (length front - before) → taken ≡ min left (length xs) → length (take count (drop before front)) + length (take taken xs) ≤ count
piece-fits before count front xs left taken l t =
    room-for (length front - before) count left taken (length (take count (drop before front))) (length (take taken xs)) l (at-most-left taken left (length xs) t) (so-far before count front)
    (at-most-left _ taken (length xs) (length-take taken xs))

-- after the last part all of the portion is
pub all-of-parts : (parts : List (List ℕ)) (i : ℕ) → length parts ≤ i → concat (take i parts) ≡ concat parts
all-of-parts parts i h = ap concat (take_all i parts h)

min-first : (a b : ℕ) → a ≤ b → min a b ≡ a
min-first a b h = grind arith

pub portion-length : (before count : ℕ) (bytes : List ℕ) → count ≤ length bytes - before → length (take count (drop before bytes)) ≡ count
portion-length before count bytes h = so-far before count bytes ∙ min-first count (length bytes - before) h

-- an indication of data is of its kind, and stands for its bytes and their end
pub of-kind : (expedited more : Bool) (bytes : List ℕ) → kind_of (data_ind expedited more bytes) ≡ kind_for expedited
of-kind true more bytes = refl
of-kind false more bytes = refl

pub stands-for : (expedited ends : Bool) (bytes : List ℕ) → symbols_of (data_ind expedited (not ends) bytes) ≡ piece bytes ends
unfolding ends_message
stands-for true true bytes = refl
stands-for true false bytes = refl
stands-for false true bytes = refl
stands-for false false bytes = refl
