-- Bytes that are written in hexadecimal digits are read as themselves, and have no byte that separates words.
use Rattle.std.proofs.Common.{◌≡◌, refl, ℕ, ◌+◌, ◌-◌, ◌*◌, ◌/◌, ◌%◌, ◌≤◌, ◌<◌, Bool, true, false, cond, eqb, leb, ltb, List, [], ◌∷◌, Some, arith, ne_eqb, le-leb, ltb-true, ltb-false}
use Rattle.std.specs.Prelude.{flat_map}
use Rattle.std.proofs.lemmas.Bool.{lt-leb}
use Rattle.std.proofs.lemmas.List.Elements.{All-nil, All-cons, All-head, All-tail}
use Rattle.xti_words.proofs.WordBytes.{AreBytes}
use Rattle.xti_words.specs.Texts.{is_digit}
use Rattle.xti_words.specs.Values.{hex_digit, hex_bytes, bytes_in, options_in}
use Rattle.xti_words.specs.WrittenWords.{octets_word}
use Rattle.xti_words.specs.WrittenWords.{hex_digit as digit_text, hex_pair as pair_text}
use Rattle.xti_script.proofs.Numbers.{Lacks, digit}

-- ---- digits

read_low : (d c : ℕ) → d < 10 → c ≡ 48 + d → hex_digit c ≡ Some d
read_low d c l e =
    let is : is_digit c ≡ true = digit c (omega (arith, e)) (omega (arith, e)) in
    let same : c - 48 ≡ d = omega (arith, e) in
    rw (is, same) refl

read_high : (d c : ℕ) → 10 ≤ d → d < 16 → c ≡ 87 + d → hex_digit c ≡ Some d
read_high d c low high e =
    let past : leb c 57 ≡ false = lt-leb c 57 (omega (arith, e)) in
    let from : leb 48 c ≡ true = le-leb 48 c (omega (arith, e)) in
    let a : leb 97 c ≡ true = le-leb 97 c (omega (arith, e)) in
    let f : leb c 102 ≡ true = le-leb c 102 (omega (arith, e)) in
    let same : c - 87 ≡ d = omega (arith, e) in
    rw (past, from, a, f, same) refl

pub digit_read : (d : ℕ) → d < 16 → hex_digit (digit_text d) ≡ Some d
digit_read d h = go (ltb d 10) refl
  where
    go : (b : Bool) → ltb d 10 ≡ b → hex_digit (cond b (48 + d) (87 + d)) ≡ Some d
    go true e = read_low d (48 + d) (ltb-true d 10 e) refl
    go false e = read_high d (87 + d) (ltb-false d 10 e) h refl

-- a digit isn't a byte below the digits
digit_lacks : (byte d : ℕ) → byte < 48 → eqb (digit_text d) byte ≡ false
digit_lacks byte d l = go (ltb d 10)
  where
    go : (b : Bool) → eqb (cond b (48 + d) (87 + d)) byte ≡ false
    go true = ne_eqb (48 + d) byte (λ e. omega (arith, e))
    go false = ne_eqb (87 + d) byte (λ e. omega (arith, e))

-- ---- bytes

pub hex_read : (bytes : List ℕ) → AreBytes bytes → hex_bytes (flat_map pair_text bytes) ≡ Some bytes
hex_read [] h = refl
hex_read (b ∷ bytes) h =
    let small : b < 256 = All-head (λ b. b < 256) b bytes h in
    let high : hex_digit (digit_text (b / 16)) ≡ Some (b / 16) = digit_read (b / 16) (omega arith) in
    let low : hex_digit (digit_text (b % 16)) ≡ Some (b % 16) = digit_read (b % 16) (omega arith) in
    let whole : b / 16 * 16 + b % 16 ≡ b = omega arith in
    let others : hex_bytes (flat_map pair_text bytes) ≡ Some bytes = hex_read bytes (All-tail (λ b. b < 256) b bytes h) in
    rw (high, low, others, whole) refl

hex_lacks : (byte : ℕ) (bytes : List ℕ) → byte < 48 → Lacks byte (flat_map pair_text bytes)
hex_lacks byte [] l = All-nil (λ c. eqb c byte ≡ false)
hex_lacks byte (b ∷ bytes) l =
    let p : ℕ → Type 0 = λ c. eqb c byte ≡ false in
    All-cons p (digit_text (b / 16)) (digit_text (b % 16) ∷ flat_map pair_text bytes) (digit_lacks byte (b / 16) l)
    (All-cons p (digit_text (b % 16)) (flat_map pair_text bytes) (digit_lacks byte (b % 16) l) (hex_lacks byte bytes l))

-- what is written as bytes is read as these
pub bytes_read : (bytes : List ℕ) → AreBytes bytes → bytes_in (octets_word [] bytes) ≡ Some bytes
unfolding bytes_in
bytes_read bytes h = hex_read bytes h

-- and so where options may stand
pub options_read : (bytes : List ℕ) → AreBytes bytes → options_in (octets_word [] bytes) ≡ Some bytes
unfolding options_in
options_read bytes h = bytes_read bytes h

-- no space, comma or end of a line stands there
pub bytes_lack : (byte : ℕ) (bytes : List ℕ) → byte < 48 → Lacks byte (octets_word [] bytes)
bytes_lack byte bytes l =
    let p : ℕ → Type 0 = λ c. eqb c byte ≡ false in
    All-cons p 120 (58 ∷ flat_map pair_text bytes) (ne_eqb 120 byte (λ e. omega (arith, e)))
    (All-cons p 58 (flat_map pair_text bytes) (ne_eqb 58 byte (λ e. omega (arith, e))) (hex_lacks byte bytes l))
