-- The first word of a line, and the words after it.
use Rattle.std.proofs.Common.{◌≡◌, ℕ, zero, suc, ◌+◌, ◌-◌, min, ◌<◌, ◌≤◌, Bool, true, false, cond, not, eqb, List, [], ◌∷◌, length, get_or, take, drop, Some, None, ltb, refl, sym, ap, ◌∙◌, arith}
use lib.Lanes.{chunk}
use Rattle.std.specs.List.{onto_first, position, position_or_len}
use Rattle.std.proofs.lemmas.Grind.{common_steps}
use Rattle.std.proofs.lemmas.List.Quantifiers.{position-Some}
use Rattle.std.proofs.lemmas.List.Sums.{fails_before_first}
use Rattle.std.proofs.lemmas.Bool.{ltb-false, lt-ltb, le-ltb}
use Rattle.xti_words.specs.Texts.{words_of}

words_at : (line : List ℕ) (i : ℕ) → i < length line → eqb (get_or line i 0) 32 ≡ true → ((k : ℕ) → k < i → eqb (get_or line k 0) 32 ≡ false)
    → words_of line ≡ take i line ∷ words_of (drop 1 (drop i line))
words_at [] i lt here before = absurd (omega arith)
words_at (c ∷ line) zero lt here before = rw here refl
words_at (c ∷ line) (suc i) lt here before =
    let first : eqb c 32 ≡ false = before 0 (omega arith) in
    rw (first, words_at line i (omega arith) here (λ k h. before (suc k) (omega arith))) refl

one_word : (line : List ℕ) → ((k : ℕ) → k < length line → eqb (get_or line k 0) 32 ≡ false) → words_of line ≡ line ∷ []
one_word [] before = refl
one_word (c ∷ line) before =
    let first : eqb c 32 ≡ false = before 0 (omega arith) in
    let others : words_of line ≡ line ∷ [] = one_word line (λ k h. before (suc k) (omega arith)) in
    rw first (ap (onto_first c) others)

-- ---- the first space, looked for in one chunk after the other

front : (p : ℕ → Bool) (n : ℕ) (xs : List ℕ) → position_or_len p (take n xs) ≡ min n (position_or_len p xs)
front p zero [] = refl
front p zero (x ∷ xs) = omega arith
front p (suc n) [] = omega arith
front p (suc n) (x ∷ xs) = let later = front p n xs in elim (p x) as (λ b. cond (not b) (1 + position_or_len p (take n xs)) 0 ≡ min (suc n) (cond (not b) (1 + position_or_len p xs) 0)) [ true ↦ omega arith | false ↦ omega arith ]

fails_first : (b : Bool) (at n m : ℕ) → suc at ≤ cond (not b) (1 + n) 0 → (at ≤ n → n ≡ at + m) → cond (not b) (1 + n) 0 ≡ suc at + m
fails_first true at n m h f = absurd (omega arith)
fails_first false at n m h f = omega (arith, f (omega arith))

behind : (p : ℕ → Bool) (at : ℕ) (xs : List ℕ) → at ≤ position_or_len p xs → position_or_len p xs ≡ at + position_or_len p (drop at xs)
behind p zero xs h = omega arith
behind p (suc at) [] h = absurd (omega arith)
behind p (suc at) (x ∷ xs) h = fails_first (p x) at (position_or_len p xs) (position_or_len p (drop at xs)) h (behind p at xs)

-- no space is before the chunk: it has the first one, or that is after it
pub before_is : (p : ℕ → Bool) (xs : List ℕ) (at n before : ℕ) → at ≤ position_or_len p xs → before ≡ position_or_len p (chunk at n xs) → before ≡ min n (position_or_len p xs - at)
before_is p xs at n before h e =
    let a = behind p at xs h in
    let b = front p n (drop at xs) in
    e ∙ omega arith

pub found_at : (p : ℕ → Bool) (xs : List ℕ) (i : ℕ) → position_or_len p xs ≡ i → i < length xs → Some i ≡ position p xs
found_at p xs i e h =
    let below : ltb i (length xs) ≡ true = lt-ltb _ _ h in
    rw (e, below) refl

pub found_none : (p : ℕ → Bool) (xs : List ℕ) → length xs ≤ position_or_len p xs → None ≡ position p xs
found_none p xs h =
    let no : ltb (position_or_len p xs) (length xs) ≡ false = le-ltb _ _ h in
    rw no refl

-- ---- the words after it

never : (b : Bool) (i : ℕ) → cond b (Some i) None ≡ None → b ≡ false
never true i e = absurd cc
never false i e = refl

pub word_found : (line : List ℕ) (i n : ℕ) → length line ≤ n + (i + 1) → Some i ≡ position (λ c. eqb c 32) line → words_of line ≡ take i line ∷ words_of (take n (drop (i + 1) line))
word_found line i n h e =
    let p = position-Some (λ c. eqb c 32) line i 0 (sym e) in
    let whole : take n (drop (i + 1) line) ≡ drop 1 (drop i line) = grind (arith, common_steps) in
    rw whole (words_at line i p.0 p.1 p.2)

pub last_word : (line : List ℕ) → None ≡ position (λ c. eqb c 32) line → words_of line ≡ line ∷ []
last_word line e =
    let no = never (ltb (position_or_len (λ c. eqb c 32) line) (length line)) (position_or_len (λ c. eqb c 32) line) (sym e) in
    let le : length line ≤ position_or_len (λ c. eqb c 32) line = ltb-false _ _ no in
    one_word line (λ k h. fails_before_first (λ c. eqb c 32) line k 0 (omega arith))
