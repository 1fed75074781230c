-- A word is read as a number exactly where it is the decimal digits of one.
use Rattle.std.proofs.Common.{◌≡◌, ℕ, zero, suc, ◌^◌, ◌<◌, ◌≤◌, Bool, true, false, not, ◌&&◌, eqb, ltb, leb, List, [], ◌∷◌, length, get_or, Some, refl, sym, ap, subst, ◌∙◌, arith}
use Rattle.std.specs.Prelude.{All, decimal}
use Rattle.std.specs.List.{list_all}
use Rattle.std.proofs.lemmas.Bool.{and_parts, leb-true, le-leb, ltb-true, lt-ltb, eqb-true}
use Rattle.std.proofs.lemmas.Option.{cond_some}
use Rattle.std.proofs.lemmas.List.Elements.{All-nil, All-cons}
use Rattle.std.proofs.lemmas.Str.Parse.{IsNumeralModel, IsDigitsTest, numerals_by_fold}
use Rattle.std.proofs.lemmas.Fmt.{digits_decimal, digits_value-decimal, decimal-digits_value, decimal_digit, decimal_nonempty, first_decimal}
use Rattle.xti_words.specs.Texts.{is_digit}
use Rattle.xti_words.specs.Values.{decimal as value_of, decimal_behind, is_decimal, number_in}

-- each byte is above this one
abbrev pub Above : ℕ → List ℕ → Type 0
Above k bytes = All (λ c. k < c) bytes

abbrev AreDigits : List ℕ → Type 0
AreDigits ds = list_all is_digit ds ≡ true

digit_range : (c : ℕ) → is_digit c ≡ true → (48 ≤ c) × (c ≤ 57)
digit_range c h = let p = and_parts (leb 48 c) (leb c 57) h in (leb-true 48 c p.0, leb-true c 57 p.1)

is_digit_in : (c : ℕ) → 48 ≤ c → c ≤ 57 → is_digit c ≡ true
is_digit_in c l h =
    let a : leb 48 c ≡ true = le-leb 48 c l in
    let b : leb c 57 ≡ true = le-leb c 57 h in
    rw (a, b) refl

tells : IsDigitsTest AreDigits
tells = record {
  empty = refl;
  parts = λ c cs h. (let p = and_parts (is_digit c) (list_all is_digit cs) h in (digit_range c p.0, p.1));
  more = λ c cs k h. (let d : is_digit c ≡ true = is_digit_in c k.0 k.1 in rw (d, h) refl);
}

own : IsNumeralModel AreDigits (decimal_behind 0)
own = numerals_by_fold AreDigits tells decimal_behind (record { empty = λ n. refl; more = λ n c cs k. refl })

pub digits_are : (n : ℕ) → n < 2 ^ 64 → list_all is_digit (decimal n) ≡ true
digits_are n h = digits_decimal own n h

digits_above : (ds : List ℕ) → list_all is_digit ds ≡ true → Above 44 ds
digits_above [] h = All-nil (λ c. 44 < c)
digits_above (c ∷ cs) h =
    let p = and_parts (is_digit c) (list_all is_digit cs) h in
    let r = digit_range c p.0 in
    All-cons (λ c. 44 < c) c cs (omega (arith, r.0)) (digits_above cs p.1)

pub decimal_above : (n : ℕ) → n < 2 ^ 64 → Above 44 (decimal n)
decimal_above n h = digits_above (decimal n) (digits_are n h)

begins : (c d : ℕ) (cs : List ℕ) → is_decimal (c ∷ d ∷ cs) ≡ true → get_or (c ∷ d ∷ cs) 0 0 ≡ 48 → length (c ∷ d ∷ cs) ≡ 1
begins c d cs h e =
    let p = and_parts (not (eqb c 48)) (list_all is_digit (c ∷ d ∷ cs)) h in
    let z : eqb c 48 ≡ true = rw e refl in
    let n : not true ≡ true = rw z at p.0 in
    absurd cc

record IsSound (word : List ℕ) : Type 0 where
  digits : list_all is_digit word ≡ true
  some : 0 < length word
  lead : get_or word 0 0 ≡ 48 → length word ≡ 1

sound : (word : List ℕ) → is_decimal word ≡ true → IsSound word
sound [] h = absurd cc
sound (c ∷ []) h = record { digits = rw h refl; some = omega arith; lead = λ e. refl }
sound (c ∷ d ∷ cs) h = record { digits = (and_parts (not (eqb c 48)) (list_all is_digit (c ∷ d ∷ cs)) h).1; some = omega arith; lead = begins c d cs h }

pub number_sound : (word : List ℕ) (n : ℕ) → number_in word ≡ Some n → (word ≡ decimal n) × (n < 4294967296)
unfolding number_in
number_sound word n e =
    let t = cond_some (is_decimal word && ltb (value_of word) 4294967296) (value_of word) n e in
    let p = and_parts (is_decimal word) (ltb (value_of word) 4294967296) t.0 in
    let s = sound word p.0 in
    let below : value_of word < 4294967296 = ltb-true _ _ p.1 in
    let same : decimal (value_of word) ≡ word = decimal-digits_value own word s.digits s.some s.lead (omega arith) in
    let same_n : value_of word ≡ n = t.1 in
    (sym same ∙ ap decimal same_n, subst (λ m. m < 4294967296) same_n below)

not_zero : (c : ℕ) → 48 < c → not (eqb c 48) ≡ true
not_zero c h = go (eqb c 48) refl
  where
    go : (b : Bool) → eqb c 48 ≡ b → not b ≡ true
    go true e = let s = eqb-true c 48 e in absurd (omega arith)
    go false e = refl

complete : (ds : List ℕ) → list_all is_digit ds ≡ true → 0 < length ds → (1 < length ds → 48 < get_or ds 0 0) → is_decimal ds ≡ true
complete [] d some lead = absurd (omega arith)
complete (c ∷ []) d some lead = (and_parts (is_digit c) true d).0
complete (c ∷ e ∷ cs) d some lead =
    let n : not (eqb c 48) ≡ true = not_zero c (lead (omega arith)) in
    rw (n, d) refl

leads : (n : ℕ) → n < 2 ^ 64 → 1 < length (decimal n) → 48 < get_or (decimal n) 0 0
leads zero h l = let e : decimal 0 ≡ 48 ∷ [] = decimal_digit 0 (omega arith) in let one : length (decimal 0) ≡ 1 = ap length e in absurd (omega arith)
leads (suc n) h l = first_decimal (suc n) (omega arith) h

pub number_complete : (n : ℕ) → n < 4294967296 → number_in (decimal n) ≡ Some n
unfolding number_in
number_complete n h =
    let wide : n < 2 ^ 64 = omega arith in
    let d : is_decimal (decimal n) ≡ true = complete (decimal n) (digits_are n wide) (decimal_nonempty n wide) (leads n wide) in
    let v : value_of (decimal n) ≡ n = digits_value-decimal own n wide in
    let b : ltb n 4294967296 ≡ true = lt-ltb _ _ h in
    rw (d, v) (rw b refl)
