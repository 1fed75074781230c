-- Numbers of two to five digits, by the pairs of their digits.
use Rattle.std.proofs.Common.{◌≡◌, ◌≤◌, ◌<◌, ◌+◌, ◌/◌, ◌%◌, ℕ, List, [], ◌∷◌, ◌++◌, arith, append_assoc}
use Rattle.std.specs.Prelude.{decimal}
use Rattle.std.proofs.lemmas.Fmt.{decimal_digit, decimal_step}

abbrev pair : ℕ → List ℕ
pair p = (48 + p / 10) ∷ (48 + p % 10) ∷ []

pub two : (n : ℕ) → 10 ≤ n → n < 100 → decimal n ≡ (48 + n / 10) ∷ (48 + n % 10) ∷ []
two n low high = rw (decimal_step n low (omega arith), decimal_digit (n / 10) (omega arith))

more : (n : ℕ) (front : List ℕ) → 100 ≤ n → n < 100000 → decimal (n / 100) ≡ front → decimal n ≡ front ++ pair (n % 100)
more n front low high h =
    let a : n / 10 / 10 ≡ n / 100 = omega arith in
    let b : n / 10 % 10 ≡ n % 100 / 10 = omega arith in
    let c : n % 10 ≡ n % 100 % 10 = omega arith in
    rw (decimal_step n (omega arith) (omega arith), decimal_step (n / 10) (omega arith) (omega arith), append_assoc, a, b, ← c, h)

pub three : (n : ℕ) → 100 ≤ n → n < 1000 → decimal n ≡ (48 + n / 100) ∷ (48 + n % 100 / 10) ∷ (48 + n % 100 % 10) ∷ []
three n low high = more n ((48 + n / 100) ∷ []) low (omega arith) (decimal_digit (n / 100) (omega arith))

pub four : (n : ℕ) → 1000 ≤ n → n < 10000 → decimal n ≡ (48 + n / 100 % 100 / 10) ∷ (48 + n / 100 % 100 % 10) ∷ (48 + n % 100 / 10) ∷ (48 + n % 100 % 10) ∷ []
four n low high =
    let same : n / 100 % 100 ≡ n / 100 = omega arith in
    more n (pair (n / 100 % 100)) (omega arith) (omega arith) (rw same (two (n / 100) (omega arith) (omega arith)))

pub five : (n : ℕ) → 10000 ≤ n → n < 100000 → decimal n ≡ (48 + n / 100 / 100) ∷ (48 + n / 100 % 100 / 10) ∷ (48 + n / 100 % 100 % 10) ∷ (48 + n % 100 / 10) ∷ (48 + n % 100 % 10) ∷ []
five n low high = more n ((48 + n / 100 / 100) ∷ pair (n / 100 % 100)) (omega arith) high (three (n / 100) (omega arith) (omega arith))
