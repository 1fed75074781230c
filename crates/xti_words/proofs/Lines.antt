-- The first line of a text, and the lines after it.
use Rattle.std.proofs.Common.{◌≡◌, ℕ, zero, suc, ◌+◌, ◌<◌, ◌≤◌, Bool, true, false, cond, eqb, List, [], ◌∷◌, ◌++◌, length, get_or, take, drop, Some, None, ltb, refl, sym, ap, arith}
use Rattle.std.specs.List.{onto_first, position, position_or_len}
use Rattle.std.proofs.lemmas.Grind.{common_steps}
use Rattle.std.proofs.lemmas.List.Quantifiers.{position-Some}
use Rattle.std.proofs.lemmas.List.Sums.{fails_before_first}
use Rattle.std.proofs.lemmas.Bool.{ltb-false, eqb-true}
use Rattle.xti_words.specs.Texts.{lines_of}

pub lines_at : (text : List ℕ) (i : ℕ) → i < length text → eqb (get_or text i 0) 10 ≡ true → ((k : ℕ) → k < i → eqb (get_or text k 0) 10 ≡ false)
    → lines_of text ≡ take i text ∷ lines_of (drop 1 (drop i text))
lines_at [] i lt here before = absurd (omega arith)
lines_at (c ∷ text) zero lt here before = rw here refl
lines_at (c ∷ text) (suc i) lt here before =
    let first : eqb c 10 ≡ false = before 0 (omega arith) in
    rw (first, lines_at text i (omega arith) here (λ k h. before (suc k) (omega arith))) refl

pub lines_last : (text : List ℕ) → 0 < length text → ((k : ℕ) → k < length text → eqb (get_or text k 0) 10 ≡ false) → lines_of text ≡ text ∷ []
lines_last [] lt before = absurd (omega arith)
lines_last (c ∷ []) lt before =
    let first : eqb c 10 ≡ false = before 0 (omega arith) in
    rw first refl
lines_last (c ∷ d ∷ text) lt before =
    let first : eqb c 10 ≡ false = before 0 (omega arith) in
    let others : lines_of (d ∷ text) ≡ (d ∷ text) ∷ [] = lines_last (d ∷ text) (omega arith) (λ k h. before (suc k) (omega arith)) in
    rw first (ap (onto_first c) others)

never : (b : Bool) (i : ℕ) → cond b (Some i) None ≡ None → b ≡ false
never true i e = absurd cc
never false i e = refl

pub lines_found : (text : List ℕ) (i n : ℕ) → length text ≤ n + (i + 1) → Some i ≡ position (λ c. eqb c 10) text → lines_of text ≡ take i text ∷ lines_of (take n (drop (i + 1) text))
lines_found text i n h e =
    let p = position-Some (λ c. eqb c 10) text i 0 (sym e) in
    let whole : take n (drop (i + 1) text) ≡ drop 1 (drop i text) = grind (arith, common_steps) in
    rw whole (lines_at text i p.0 p.1 p.2)

pub lines_none : (text : List ℕ) → 0 < length text → None ≡ position (λ c. eqb c 10) text → lines_of text ≡ text ∷ []
lines_none text lt e =
    let no = never (ltb (position_or_len (λ c. eqb c 10) text) (length text)) (position_or_len (λ c. eqb c 10) text) (sym e) in
    let le : length text ≤ position_or_len (λ c. eqb c 10) text = ltb-false _ _ no in
    lines_last text lt (λ k h. fails_before_first (λ c. eqb c 10) text k 0 (omega arith))

split_at : (text : List ℕ) (i : ℕ) → i < length text → eqb (get_or text i 0) 10 ≡ true → text ≡ take i text ++ 10 ∷ drop 1 (drop i text)
split_at [] i lt here = absurd (omega arith)
split_at (c ∷ text) zero lt here = ap (λ (d : ℕ). d ∷ text) (eqb-true c 10 here)
split_at (c ∷ text) (suc i) lt here = ap (λ (cs : List ℕ). c ∷ cs) (split_at text i (omega arith) here)

pub line_ends : (text : List ℕ) (i n : ℕ) → length text ≤ n + (i + 1) → Some i ≡ position (λ c. eqb c 10) text → text ≡ take i text ++ 10 ∷ take n (drop (i + 1) text)
line_ends text i n h e =
    let p = position-Some (λ c. eqb c 10) text i 0 (sym e) in
    let whole : take n (drop (i + 1) text) ≡ drop 1 (drop i text) = grind (arith, common_steps) in
    rw whole (split_at text i p.0 p.1)
