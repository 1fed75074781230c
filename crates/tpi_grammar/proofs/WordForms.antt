-- A word in sound ranges can always be finished.
use Rattle.std.proofs.Common.{◌≡◌, ◌≤◌, ◌<◌, ◌+◌, ◌*◌, ◌-◌, ◌/◌, ◌%◌, ℕ, Bool, true, false, ◌&&◌, ◌||◌, nat_lt, nat_le, List, [], ◌∷◌, refl, arith, subst, zero-add}
use Rattle.std.specs.List.{AllByRecursion}
use Rattle.std.proofs.lemmas.Bool.{ltb-true, leb-true, le-leb, lt-ltb}
use Rattle.std.proofs.Math.Nat.{mod-add-div', mod-lt}
use Rattle.tpi_grammar.specs.Form.{Form, Live}
use Rattle.tpi_grammar.specs.Word.{meets, viable, may_follow, word}
use Rattle.tpi_grammar.specs.declared.word.Range.{Range}

-- a range of words
abbrev pub IsRange : Range → Type 0
IsRange r = (r.low ≤ r.high) × (r.high < 4294967296)

pub and_true : (a b : Bool) → (a && b) ≡ true → (a ≡ true) × (b ≡ true)
and_true true b e = (refl, e)
and_true false b e = absurd (cc)

pub both : (a b : Bool) → a ≡ true → b ≡ true → (a && b) ≡ true
both a b e f = rw (e, f) refl

pub or_left : (a b : Bool) → a ≡ true → (a || b) ≡ true
or_left a b e = rw e refl

pub or_right : (a b : Bool) → b ≡ true → (a || b) ≡ true
or_right true b e = refl
or_right false b e = e

pub at_byte : (m x b : ℕ) → (256 * x + b) * m ≡ x * (256 * m) + b * m
at_byte m x b = grind arith

pub past_byte : (m x b : ℕ) → (256 * x + b + 1) * m ≡ x * (256 * m) + b * m + m
past_byte m x b = grind arith

pub past_start : (m x : ℕ) → (x + 1) * (256 * m) ≡ x * (256 * m) + 256 * m
past_start m x = grind arith

small_byte : (m b gap : ℕ) → b * m ≤ gap → gap < 256 * m → b < 256
small_byte m b gap le lt = grind arith

-- the byte of the least number of the range that begins so
pub byte_in : (m x : ℕ) (r : Range) → 0 < m → IsRange r → meets (256 * m) x r ≡ true → (b : ℕ) × (b < 256) × (meets m (256 * x + b) r ≡ true)
byte_in m x r pos sound e =
    let low : r.low < (x + 1) * (256 * m) = ltb-true _ _ (and_true _ (nat_le (x * (256 * m)) r.high) e).0 in
    let high : x * (256 * m) ≤ r.high = leb-true _ _ (and_true (nat_lt r.low ((x + 1) * (256 * m))) _ e).1 in
    let b : ℕ = (r.low - x * (256 * m)) / m in
    let part : (r.low - x * (256 * m)) % m + b * m ≡ r.low - x * (256 * m) = mod-add-div' (r.low - x * (256 * m)) m in
    let left : (r.low - x * (256 * m)) % m < m = mod-lt (r.low - x * (256 * m)) pos in
    let under : b < 256 = small_byte m b (r.low - x * (256 * m)) (omega (arith, part)) (omega (arith, low, past_start m x, pos)) in (
      b,
      under,
      both _ _
          (lt-ltb r.low _ (rw (past_byte m x b) (omega (arith, part, left))))
          (le-leb _ r.high (rw (at_byte m x b) (omega (arith, part, high, sound.0)))),
    )

pub byte_in_some : (m x : ℕ) (rs : List Range) → 0 < m → AllByRecursion IsRange rs → viable rs (256 * m) x ≡ true → (b : ℕ) × (may_follow rs m x b ≡ true)
byte_in_some m x [] pos sound e = absurd (cc)
byte_in_some m x (r ∷ rs) pos sound e = go (meets (256 * m) x r) refl (λ h. byte_in_some m x rs pos sound.1 h)
  where
    go : (t : Bool) → meets (256 * m) x r ≡ t → (viable rs (256 * m) x ≡ true → (b : ℕ) × (may_follow rs m x b ≡ true))
        → (b : ℕ) × (may_follow (r ∷ rs) m x b ≡ true)
    go true is again = let found = byte_in m x r pos sound.0 is in
        (found.0, both _ _ (lt-ltb _ _ found.1) (or_left _ _ found.2))
    go false is again = let found = again (rw is at e) in
        (found.0, both _ _ (and_true _ (viable rs m (256 * x + found.0)) found.1).0 (or_right _ _ (and_true (nat_lt found.0 256) _ found.1).1))

first_viable : (r : Range) (rs : List Range) → IsRange r → viable (r ∷ rs) 4294967296 0 ≡ true
first_viable r rs sound =
    let below : r.low < 4294967296 = omega (arith, sound.0, sound.1) in
    or_left _ _ (both _ _ (lt-ltb r.low 4294967296 below) (le-leb 0 r.high (omega arith)))

rest_viable : (rs : List Range) (m x b : ℕ) → may_follow rs m x b ≡ true → viable rs m (256 * x + b) ≡ true
rest_viable rs m x b e = (and_true (nat_lt b 256) _ e).1

from_first : (rs : List Range) (a : ℕ) → may_follow rs 16777216 0 a ≡ true → viable rs 16777216 a ≡ true
from_first rs a e = subst (λ n. viable rs 16777216 n ≡ true) (zero-add a) (rest_viable rs 16777216 0 a e)

-- a word in sound ranges, one at least, may always go on, where what follows each of its values may
pub word_live : (r : Range) (rs : List Range) (next : ℕ → Form) → AllByRecursion IsRange (r ∷ rs)
    → ((v : ℕ) → viable (r ∷ rs) 1 v ≡ true → Live (next v)) → Live (word (r ∷ rs) next)
unfolding word
word_live r rs next sound live = (
  byte_in_some 16777216 0 (r ∷ rs) (omega arith) sound (first_viable r rs sound.0),
  λ a ea. (
    byte_in_some 65536 a (r ∷ rs) (omega arith) sound (from_first (r ∷ rs) a ea),
    λ b eb. (
      byte_in_some 256 (256 * a + b) (r ∷ rs) (omega arith) sound (rest_viable (r ∷ rs) 65536 a b eb),
      λ c ec. (
        byte_in_some 1 (256 * (256 * a + b) + c) (r ∷ rs) (omega arith) sound (rest_viable (r ∷ rs) 256 (256 * a + b) c ec),
        λ d ed. live _ (rest_viable (r ∷ rs) 1 (256 * (256 * a + b) + c) d ed),
      ),
    ),
  ),
)
