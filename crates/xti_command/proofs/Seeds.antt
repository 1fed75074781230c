-- The text of a seed gives its number, and the decimal digits of a number give that number.
use Rattle.std.proofs.Common.{◌≡◌, refl, ap, subst, ◌∙◌, ℕ, ◌≤◌, ◌<◌, ◌^◌, Bool, true, false, cond, ◌&&◌, ltb, [], ◌∷◌, length, drop, Some, None, Result, Ok, Err, decimal, arith, lt-ltb, ltb-true, ne_eqb, sym, inl, inr}
use Rattle.std.specs.Char.{digit_value}
use Rattle.std.specs.List.{list_all}
use Rattle.std.specs.Result.{result_ok}
use Rattle.std.specs.Str.Parse.{AllDigits, IsNumeral, ParsesUnsigned, digits_value, without_leading_plus}
use Rattle.std.proofs.lemmas.Bool.Decides.{eqb_tells}
use Rattle.std.proofs.lemmas.Fmt.{decimal_is_IsNumeral}
use Rattle.std.proofs.lemmas.Str.Parse.{digit_from_value}
use Rattle.clap.specs.Words.{Text}
use Rattle.xti_command.specs.Words.{are_digits, number_of, seed_of}

both : (a b : Bool) → (a && b) ≡ true → (a ≡ true) × (b ≡ true)
both true b h = (refl, h)
both false b h = absurd (cc)

joined : (a b : Bool) → a ≡ true → b ≡ true → (a && b) ≡ true
joined true b h i = i
joined false b h i = absurd (cc)

are_read : (text : Text) → list_all (λ c. ltb (digit_value c) 10) text ≡ true → AllDigits 10 text
are_read [] h = tt
are_read (c ∷ cs) h = let b = both (ltb (digit_value c) 10) _ h in (ltb-true (digit_value c) 10 b.0, are_read cs b.1)

are_tested : (text : Text) → AllDigits 10 text → list_all (λ c. ltb (digit_value c) 10) text ≡ true
are_tested [] h = refl
are_tested (c ∷ cs) h = joined (ltb (digit_value c) 10) _ (lt-ltb (digit_value c) 10 h.0) (are_tested cs h.1)

-- the digits write a number of 64 bits
abbrev Writes : Text → Type 0
Writes digits = IsNumeral 10 digits × (digits_value 10 digits < 2 ^ 64)

tested : (digits : Text) → Writes digits → (are_digits digits && ltb (digits_value 10 digits) (2 ^ 64)) ≡ true
tested digits h = joined (are_digits digits) _ (joined (ltb 0 (length digits)) _ (lt-ltb 0 (length digits) h.0.0) (are_tested digits h.0.1)) (lt-ltb (digits_value 10 digits) (2 ^ 64) h.1)

writes : (digits : Text) → (are_digits digits && ltb (digits_value 10 digits) (2 ^ 64)) ≡ true → Writes digits
writes digits h =
    let b = both (are_digits digits) _ h in
    let d = both (ltb 0 (length digits)) _ b.0 in
    ((ltb-true 0 (length digits) d.0, are_read digits d.1), ltb-true (digits_value 10 digits) (2 ^ 64) b.1)

some_number : (digits : Text) → Writes digits → number_of digits ≡ Some (digits_value 10 digits)
some_number digits h = ap (λ b. cond b (Some (digits_value 10 digits)) None) (tested digits h)

no_number : (digits : Text) → (Writes digits → ⊥) → number_of digits ≡ None
no_number digits h = by (are_digits digits && ltb (digits_value 10 digits) (2 ^ 64)) refl
  where
    by : (b : Bool) → (are_digits digits && ltb (digits_value 10 digits) (2 ^ 64)) ≡ b → cond b (Some (digits_value 10 digits)) None ≡ None
    by true e = absurd (h (writes digits e))
    by false e = refl

-- what parsing gives is the number of the seed
pub seed_parsed : {E : Type 0} (text : Text) (r : Result ℕ E) → ParsesUnsigned 64 10 text r → result_ok r ≡ seed_of text
seed_parsed text (Ok n) h = ap Some h.1 ∙ sym (some_number (without_leading_plus text) h.0)
seed_parsed text (Err e) h = sym (no_number (without_leading_plus text) h)

-- a decimal digit, case by case
pub data Digit : ℕ → Type 0 where
  d0 : Digit 48
  d1 : Digit 49
  d2 : Digit 50
  d3 : Digit 51
  d4 : Digit 52
  d5 : Digit 53
  d6 : Digit 54
  d7 : Digit 55
  d8 : Digit 56
  d9 : Digit 57

-- a number between is one of ten
digit_of : (d : ℕ) → 48 ≤ d → d ≤ 57 → Digit d
digit_of d low high = elim (eqb_tells d 48) [ inl h48 ↦ subst Digit (sym h48.1) d0 | inr h48 ↦ (elim (eqb_tells d 49) [ inl h49 ↦ subst Digit (sym h49.1) d1 | inr h49 ↦ (elim (eqb_tells d 50) [ inl h50 ↦ subst Digit (sym h50.1) d2 | inr h50 ↦ (elim (eqb_tells d 51) [ inl h51 ↦ subst Digit (sym h51.1) d3 | inr h51 ↦ (elim (eqb_tells d 52) [ inl h52 ↦ subst Digit (sym h52.1) d4 | inr h52 ↦ (elim (eqb_tells d 53) [ inl h53 ↦ subst Digit (sym h53.1) d5 | inr h53 ↦ (elim (eqb_tells d 54) [ inl h54 ↦ subst Digit (sym h54.1) d6 | inr h54 ↦ (elim (eqb_tells d 55) [ inl h55 ↦ subst Digit (sym h55.1) d7 | inr h55 ↦ (elim (eqb_tells d 56) [ inl h56 ↦ subst Digit (sym h56.1) d8 | inr h56 ↦ (elim (eqb_tells d 57) [ inl h57 ↦ subst Digit (sym h57.1) d9 | inr h57 ↦ absurd (omega (arith, low, high, h48.1, h49.1, h50.1, h51.1, h52.1, h53.1, h54.1, h55.1, h56.1, h57.1)) ]) ]) ]) ]) ]) ]) ]) ]) ]) ]

-- the text begins with a digit
pub record Begins (text : Text) : Type 0 where
  pub first : ℕ
  pub rest : Text
  pub text_is : text ≡ first ∷ rest
  pub digit : Digit first

begins_by : (text : Text) → IsNumeral 10 text → Begins text
begins_by [] h = absurd (omega (arith, h.0))
begins_by (c ∷ cs) h =
    let bounds = digit_from_value c h.1.0 in
    record { first = c; rest = cs; text_is = refl; digit = digit_of c (omega (arith, bounds)) (omega (arith, bounds)) }

pub decimal_begins : (n : ℕ) → n < 2 ^ 64 → Begins (decimal n)
decimal_begins n small = begins_by (decimal n) (decimal_is_IsNumeral n small).0

no_plus : (text : Text) → IsNumeral 10 text → without_leading_plus text ≡ text
no_plus [] h = refl
no_plus (c ∷ cs) h = let bounds = digit_from_value c h.1.0 in ap (λ b. drop (cond b 1 0) (c ∷ cs)) (ne_eqb c 43 (λ e. omega (arith, bounds, e)))

pub seed_again : (n : ℕ) → n < 2 ^ 64 → seed_of (decimal n) ≡ Some n
seed_again n small =
    let d = decimal_is_IsNumeral n small in
    ap number_of (no_plus (decimal n) d.0) ∙ some_number (decimal n) (d.0, omega (arith, d.1, small)) ∙ ap Some d.1
