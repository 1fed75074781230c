-- Words of four bytes, and the zeros that fill up.
use Rattle.std.proofs.Common.{◌≡◌, ◌≤◌, ◌<◌, ◌+◌, ◌-◌, ◌*◌, ◌^◌, ◌==◌, ◌∙◌, sym, ℕ, zero, suc, List, [], ◌∷◌, ◌++◌, length, take, drop, replicate, true, refl, ap, arith, length-drop, slice_range, get_or}
use Rattle.std.proofs.lemmas.Bool.{and_parts}
use Rattle.std.proofs.lemmas.Bool.Decides.{Decides-eqb}
use Rattle.std.proofs.lemmas.List.{get_or-drop}
use Rattle.std.proofs.lemmas.Nat.{be_bytes_4}
use Rattle.std.proofs.Math.Seq.{take-add}
use Rattle.xti_base.specs.Options.{word, word_bytes, filling, are_zero}

-- each element is a byte, and so is what stands for one past the end
abbrev pub AreBytes : List ℕ → Type 0
AreBytes bytes = (i : ℕ) → get_or bytes i 0 < 256

four_bytes : (a b c d : ℕ) → a < 256 → b < 256 → c < 256 → d < 256 → AreBytes (a ∷ b ∷ c ∷ d ∷ [])
four_bytes a b c d p q r s zero = p
four_bytes a b c d p q r s (suc zero) = q
four_bytes a b c d p q r s (suc (suc zero)) = r
four_bytes a b c d p q r s (suc (suc (suc zero))) = s
four_bytes a b c d p q r s (suc (suc (suc (suc i)))) = omega arith

first_four : (xs : List ℕ) → 4 ≤ length xs → get_or xs 0 0 ∷ get_or xs 1 0 ∷ get_or xs 2 0 ∷ get_or xs 3 0 ∷ [] ≡ take 4 xs
first_four [] h = absurd (let no : ⊥ = omega arith in no)
first_four (a ∷ []) h = absurd (let no : ⊥ = omega arith in no)
first_four (a ∷ b ∷ []) h = absurd (let no : ⊥ = omega arith in no)
first_four (a ∷ b ∷ c ∷ []) h = absurd (let no : ⊥ = omega arith in no)
first_four (a ∷ b ∷ c ∷ d ∷ xs) h = refl

at_drop : (bytes : List ℕ) (n i m : ℕ) → m ≡ n + i → get_or bytes m 0 ≡ get_or (drop n bytes) i 0
at_drop bytes n i m e = ap (λ k. get_or bytes k 0) e ∙ sym (get_or-drop n bytes i 0)

same_four : (a b c d p q r s : ℕ) → a ≡ p → b ≡ q → c ≡ r → d ≡ s → a ∷ b ∷ c ∷ d ∷ [] ≡ p ∷ q ∷ r ∷ s ∷ []
same_four a b c d p q r s e f g h = cc

-- a word is written as the bytes that it was read from
pub word_written : (place : ℕ) (bytes : List ℕ) → AreBytes bytes → 4 * place + 4 ≤ length bytes → word_bytes (word place bytes) ≡ take 4 (drop (4 * place) bytes)
word_written place bytes are h =
    be_bytes_4 (get_or bytes (4 * place) 0 ∷ get_or bytes (4 * place + 1) 0 ∷ get_or bytes (4 * place + 2) 0 ∷ get_or bytes (4 * place + 3) 0 ∷ []) (word place bytes) refl
    (four_bytes _ _ _ _ (are (4 * place)) (are (4 * place + 1)) (are (4 * place + 2)) (are (4 * place + 3))) refl
    ∙ same_four _ _ _ _ _ _ _ _ (at_drop bytes (4 * place) 0 (4 * place) (omega arith)) (at_drop bytes (4 * place) 1 (4 * place + 1) refl) (at_drop bytes (4 * place) 2 (4 * place + 2) refl)
    (at_drop bytes (4 * place) 3 (4 * place + 3) refl)
    ∙ first_four (drop (4 * place) bytes) (omega (arith, length-drop (4 * place) bytes))

word_bound : (a b c d : ℕ) → a < 256 → b < 256 → c < 256 → d < 256 → a * 16777216 + b * 65536 + c * 256 + d < 2 ^ 32
word_bound a b c d p q r s = omega arith

pub word_fits : (place : ℕ) (bytes : List ℕ) → AreBytes bytes → word place bytes < 2 ^ 32
word_fits place bytes are = word_bound _ _ _ _ (are (4 * place)) (are (4 * place + 1)) (are (4 * place + 2)) (are (4 * place + 3))

pub filling_behind_header : (n : ℕ) → filling (16 + n) ≡ filling n
filling_behind_header n = omega arith

pub zeros_are : (xs : List ℕ) → are_zero xs ≡ true → replicate (length xs) 0 ≡ xs
zeros_are [] h = refl
zeros_are (x ∷ xs) h =
    let parts = and_parts (x == 0) (are_zero xs) h in
    let first : x ≡ 0 = (Decides-eqb x 0).0 parts.0 in
    ap (λ rest. 0 ∷ rest) (zeros_are xs parts.1) ∙ ap (λ k. k ∷ xs) (sym first)

pub replicate_is_zero : (n : ℕ) → are_zero (replicate n 0) ≡ true
replicate_is_zero zero = refl
replicate_is_zero (suc n) = replicate_is_zero n

three_taken : (k : ℕ) → k ≤ 3 → take {A = ℕ} k (0 ∷ 0 ∷ 0 ∷ []) ≡ replicate k 0
three_taken zero h = refl
three_taken (suc zero) h = refl
three_taken (suc (suc zero)) h = refl
three_taken (suc (suc (suc zero))) h = refl
three_taken (suc (suc (suc (suc k)))) h = absurd (let no : ⊥ = omega arith in no)

pub take_range : (xs : List ℕ) (i j : ℕ) → i ≤ j → take j xs ≡ take i xs ++ slice_range xs i j
take_range xs i j h = ap (λ k. take k xs) (let e : j ≡ i + (j - i) = omega arith in e) ∙ take-add i (j - i) xs

pub zeros_taken : (n : ℕ) → take {A = ℕ} (filling n) (0 ∷ 0 ∷ 0 ∷ []) ≡ replicate (filling n) 0
zeros_taken n = three_taken (filling n) (omega arith)
