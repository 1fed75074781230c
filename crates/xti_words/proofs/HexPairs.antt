-- The table of the two hexadecimal digits of each byte.
use Rattle.std.proofs.Common.{◌≡◌, ℕ, zero, suc, ◌+◌, ◌-◌, ◌*◌, ◌/◌, ◌%◌, ◌<◌, Bool, true, ◌&&◌, T, eqb, get_or, inl, inr, arith, eq-zero-or-pos, eqb→eq}
use lib.Ieee.Fits.{and_l, and_r}
use Rattle.xti_words.specs.WrittenWords.{hex_digit}
use Rattle.xti_words.specs.declared.writing.TheConstants.{HEX_PAIRS}

abbrev are_pairs : ℕ → Bool
are_pairs zero = true
are_pairs (suc b) = (eqb (get_or HEX_PAIRS (2 * b) 0) (hex_digit (b / 16)) && eqb (get_or HEX_PAIRS (2 * b + 1) 0) (hex_digit (b % 16))) && are_pairs b

below : (n b : ℕ) → T (are_pairs n) → b < n → (get_or HEX_PAIRS (2 * b) 0 ≡ hex_digit (b / 16)) × (get_or HEX_PAIRS (2 * b + 1) 0 ≡ hex_digit (b % 16))
below zero b t h = absurd (omega arith)
below (suc n) b t h =
    elim (eq-zero-or-pos (n - b)) [
      | inl z ↦ let e : b ≡ n = omega arith in let a = and_l _ (are_pairs n) t in rw e (eqb→eq _ _ (and_l _ _ a), eqb→eq _ _ (and_r _ _ a))
      | inr g ↦ below n b (and_r _ (are_pairs n) t) (omega arith)
    ]

pub hex_pairs_at : (b : ℕ) → b < 256 → (get_or HEX_PAIRS (2 * b) 0 ≡ hex_digit (b / 16)) × (get_or HEX_PAIRS (2 * b + 1) 0 ≡ hex_digit (b % 16))
hex_pairs_at b h = below 256 b tt h
