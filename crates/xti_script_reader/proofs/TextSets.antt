-- A set of texts, and one more text.
use Rattle.std.proofs.Common.{◌≡◌, ℕ, Bool, true, false, ◌||◌, List, [], ◌∷◌, length, refl, arith, sym, ap, ◌∙◌}
use Rattle.std.specs.Prelude.{Vec}
use Rattle.std.specs.declared.alloc.Global.{Global}
use Rattle.std.specs.HashSet.{Updates}
use Rattle.std.specs.Map.{IsKeyTest, AreApart}
use Rattle.std.specs.Set.{KeepsOthers}
use Rattle.std.specs.List.{list_any}
use Rattle.std.specs.Str.{bytes_eq}
use Rattle.std.proofs.lemmas.Slice.Eq.{bytes_eq-Decides}
use Rattle.xti_script_reader.specs.TextSets.{TextSet, has, HasMore}

abbrev Key : Type 0
Key = Vec ℕ Global

abbrev pub keys_eq : Key → Key → Bool
keys_eq x y = bytes_eq x.items y.items

same : (xs ys : List ℕ) → bytes_eq xs ys ≡ true → xs ≡ ys
same xs ys = (bytes_eq-Decides xs ys).0

-- a text is a test of keys
is_test : (text : List ℕ) → IsKeyTest keys_eq (λ (k : Key). bytes_eq text k.items)
is_test text x y t = ap (λ (l : List ℕ). bytes_eq l y.items) (same text x.items t)

apart : (text other : List ℕ) → bytes_eq text other ≡ false → AreApart (λ (k : Key). bytes_eq text k.items) (λ (k : Key). bytes_eq other k.items)
apart text other differ k t = by (bytes_eq other k.items) refl
  where
    by : (b : Bool) → bytes_eq other k.items ≡ b → b ≡ false
    by false e = refl
    by true e = absurd (let yes : bytes_eq text other ≡ true = (bytes_eq-Decides text other).1 (same text k.items t ∙ sym (same other k.items e)) in let f : false ≡ true = sym differ ∙ yes in cc)

-- a set without texts has none
pub has_none : (texts : TextSet) (bytes : List ℕ) → length texts.keys ≡ 0 → has texts bytes ≡ false
has_none texts bytes e = by texts.keys e
  where
    by : (keys : List Key) → length keys ≡ 0 → list_any (λ (k : Key). bytes_eq bytes k.items) keys ≡ false
    by [] e = refl
    by (k ∷ keys) e = absurd (omega arith)

or_false : (a : Bool) → a ≡ (a || false)
or_false true = refl
or_false false = refl

or_true : (a : Bool) → true ≡ (a || true)
or_true true = refl
or_true false = refl

-- a set with one more text has what it had, and that text
pub has_more : (old new : TextSet) (k : Key) (text : List ℕ) → k.items ≡ text → Updates keys_eq old new k true → HasMore text old new
unfolding KeepsOthers
has_more old new k text e updates other = by (bytes_eq text other) refl
  where
    by : (b : Bool) → bytes_eq text other ≡ b → has new other ≡ (has old other || b)
    by true t = ap (has new) (sym (same text other t) ∙ sym e) ∙ updates.1 ∙ or_true (has old other)
    by false f = updates.3 (λ (x : Key). bytes_eq other x.items) (is_test other) (apart k.items other (ap (λ (l : List ℕ). bytes_eq l other) e ∙ f)) ∙ or_false (has old other)
