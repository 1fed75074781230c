-- A number that is written in decimal digits is read as itself, and has no byte that separates words.
use Rattle.std.proofs.Common.{◌≡◌, refl, ap, ℕ, zero, suc, ◌+◌, ◌/◌, ◌%◌, ◌≤◌, ◌<◌, ◌^◌, Bool, true, false, cond, ◌&&◌, not, eqb, leb, ltb, List, [], ◌∷◌, ◌++◌, length, get_or, Some, None, All, decimal, arith, length-append, ne_eqb, le-leb, leb-true, lt-ltb, ltb-true}
use Rattle.std.specs.List.{list_all}
use Rattle.std.proofs.lemmas.Fmt.{decimal_by_steps, digits_value-decimal}
use Rattle.std.proofs.lemmas.Str.Parse.{IsDigitsTest, FoldsDigits, numerals_by_fold}
use Rattle.std.proofs.lemmas.List.Elements.{All-nil, All-cons}
use lib.ListN.{get_or-append}
use Rattle.xti_words.specs.Texts.{is_digit}
use Rattle.xti_words.specs.Values.{decimal_behind, is_decimal, number_in}
use Rattle.xti_words.specs.Values.{decimal as value_of}

pub both : (a b : Bool) → (a && b) ≡ true → (a ≡ true) × (b ≡ true)
both true b h = (refl, h)
both false b h = absurd (cc)

pub joined : (a b : Bool) → a ≡ true → b ≡ true → (a && b) ≡ true
joined true b h i = i
joined false b h i = absurd (cc)

pub digit : (c : ℕ) → 48 ≤ c → c ≤ 57 → is_digit c ≡ true
digit c low high = joined _ _ (le-leb 48 c low) (le-leb c 57 high)

pub digit_bounds : (c : ℕ) → is_digit c ≡ true → (48 ≤ c) × (c ≤ 57)
digit_bounds c h = let b = both (leb 48 c) (leb c 57) h in (leb-true 48 c b.0, leb-true c 57 b.1)

all_then : (p : ℕ → Bool) (xs : List ℕ) (y : ℕ) → list_all p xs ≡ true → p y ≡ true → list_all p (xs ++ y ∷ []) ≡ true
all_then p [] y h i = joined (p y) true i refl
all_then p (x ∷ xs) y h i = let b = both (p x) (list_all p xs) h in joined (p x) _ b.0 (all_then p xs y b.1 i)

-- the digits of a number: none before the others is 0
record Digits (n : ℕ) (ds : List ℕ) : Type 0 where
  digits : list_all is_digit ds ≡ true
  some : 0 < length ds
  first : 0 < n → 48 < get_or ds 0 0
  one : n < 1 → length ds ≤ 1

one_digit : (m : ℕ) → m < 10 → Digits m ((48 + m) ∷ [])
one_digit m l = record {
  digits = joined (is_digit (48 + m)) true (digit (48 + m) (omega arith) (omega arith)) refl;
  some = omega arith;
  first = λ a. omega arith;
  one = λ a. omega arith;
}

one_more : (m : ℕ) (ds : List ℕ) → 10 ≤ m → Digits (m / 10) ds → Digits m (ds ++ (48 + m % 10) ∷ [])
one_more m ds l h =
    let some : 0 < length ds = h.some in
    record {
      digits = all_then is_digit ds (48 + m % 10) h.digits (digit (48 + m % 10) (omega arith) (omega arith));
      some = omega (arith, length-append ds ((48 + m % 10) ∷ []));
      first = λ a. omega (arith, get_or-append ds ((48 + m % 10) ∷ []) 0 0 some, h.first (omega arith));
      one = λ a. absurd (omega arith);
    }

written : (n : ℕ) → n < 2 ^ 64 → Digits n (decimal n)
written = decimal_by_steps Digits one_digit one_more

shaped : (ds : List ℕ) (n : ℕ) → Digits n ds → is_decimal ds ≡ true
shaped [] n h = absurd (let some : 0 < 0 = h.some in omega arith)
shaped (c ∷ []) n h = (both (is_digit c) true h.digits).0
shaped (c ∷ d ∷ cs) zero h = absurd (let one : length (c ∷ d ∷ cs) ≤ 1 = h.one (omega arith) in omega arith)
shaped (c ∷ d ∷ cs) (suc n) h =
    let first : 48 < c = h.first (omega arith) in
    joined (not (eqb c 48)) (list_all is_digit (c ∷ d ∷ cs)) (ap not (ne_eqb c 48 (λ e. omega arith))) h.digits

digits_test : IsDigitsTest (λ ds. list_all is_digit ds ≡ true)
digits_test = record {
  empty = refl;
  parts = λ c cs h. let b = both (is_digit c) (list_all is_digit cs) h in (digit_bounds c b.0, b.1);
  more = λ c cs r h. joined (is_digit c) (list_all is_digit cs) (digit c r.0 r.1) h;
}

folds : FoldsDigits decimal_behind
folds = record { empty = λ n. refl; more = λ n c cs r. refl }

value_is : (n : ℕ) → n < 2 ^ 64 → value_of (decimal n) ≡ n
value_is n h = digits_value-decimal (numerals_by_fold (λ ds. list_all is_digit ds ≡ true) digits_test decimal_behind folds) n h

small_number : (word : List ℕ) (n : ℕ) → is_decimal word ≡ true → value_of word ≡ n → n < 4294967296 → number_in word ≡ Some n
unfolding number_in
small_number word n shape value small =
    let within : ltb (value_of word) 4294967296 ≡ true = lt-ltb (value_of word) 4294967296 (omega (arith, value)) in
    rw (shape, within, value) refl

-- a number of 32 bits is read as itself
pub number_read : (n : ℕ) → n < 4294967296 → number_in (decimal n) ≡ Some n
number_read n h = small_number (decimal n) n (shaped (decimal n) n (written n (omega arith))) (value_is n (omega arith)) h

-- what is read as a number fits 32 bits
pub number_small : (word : List ℕ) (n : ℕ) → number_in word ≡ Some n → n < 4294967296
unfolding number_in
number_small word n h = go (is_decimal word) (ltb (value_of word) 4294967296) refl h
  where
    go : (a b : Bool) → ltb (value_of word) 4294967296 ≡ b → cond (a && b) (Some (value_of word)) None ≡ Some n → n < 4294967296
    go true true e h = let same : value_of word ≡ n = cc in omega (arith, ltb-true (value_of word) 4294967296 e, same)
    go true false e h = absurd (cc)
    go false b e h = absurd (cc)

-- the bytes of a text, none of which is this one
abbrev pub Lacks : ℕ → List ℕ → Type 0
Lacks byte text = All (λ c. eqb c byte ≡ false) text

digits_lack : (byte : ℕ) (ds : List ℕ) → byte < 48 → list_all is_digit ds ≡ true → Lacks byte ds
digits_lack byte [] l h = All-nil (λ c. eqb c byte ≡ false)
digits_lack byte (d ∷ ds) l h =
    let b = both (is_digit d) (list_all is_digit ds) h in
    let bounds = digit_bounds d b.0 in
    All-cons (λ c. eqb c byte ≡ false) d ds (ne_eqb d byte (λ e. omega (arith, bounds.0))) (digits_lack byte ds l b.1)

-- a number has no byte below the digits, as a space, a comma or the end of a line
pub number_lacks : (byte n : ℕ) → byte < 48 → n < 4294967296 → Lacks byte (decimal n)
number_lacks byte n l h = digits_lack byte (decimal n) l (written n (omega arith)).digits

-- the first byte of a number is a digit
pub number_begins : (n : ℕ) → n < 4294967296 → (c : ℕ) × (cs : List ℕ) × (decimal n ≡ c ∷ cs) × (is_digit c ≡ true)
number_begins n h = go (decimal n) (written n (omega arith))
  where
    go : (ds : List ℕ) → Digits n ds → (c : ℕ) × (cs : List ℕ) × (ds ≡ c ∷ cs) × (is_digit c ≡ true)
    go [] d = absurd (let some : 0 < 0 = d.some in omega arith)
    go (c ∷ cs) d = (c, cs, refl, (both (is_digit c) (list_all is_digit cs) d.digits).0)
