-- A table of names, and one more name.
use Rattle.std.proofs.Common.{◌≡◌, ℕ, Bool, true, false, cond, List, [], Option, Some, None, refl, sym, ap, ◌∙◌}
use Rattle.std.specs.Prelude.{Vec}
use Rattle.std.specs.declared.alloc.Global.{Global}
use Rattle.std.specs.Map.{lookup, KeepsOthers, IsKeyTest, AreApart}
use Rattle.std.specs.Str.{bytes_eq}
use Rattle.std.proofs.lemmas.Slice.Eq.{bytes_eq-Decides}
use Rattle.xti_replay.specs.declared.names.Known.{Known}
use Rattle.xti_replay.specs.Known.{Table, known_in, or_known}

abbrev Key : Type 0
Key = Vec ℕ Global

abbrev keys_eq : Key → Key → Bool
keys_eq x y = bytes_eq x.items y.items

same : (xs ys : List ℕ) → bytes_eq xs ys ≡ true → xs ≡ ys
same xs ys = (bytes_eq-Decides xs ys).0

-- a name is a test of keys
is_test : (name : List ℕ) → IsKeyTest keys_eq (λ (k : Key). bytes_eq name k.items)
is_test name x y t = ap (λ (l : List ℕ). bytes_eq l y.items) (same name x.items t)

apart : (name other : List ℕ) → bytes_eq name other ≡ false → AreApart (λ (k : Key). bytes_eq name k.items) (λ (k : Key). bytes_eq other k.items)
apart name other differ k t = by (bytes_eq other k.items) refl
  where
    by : (b : Bool) → bytes_eq other k.items ≡ b → b ≡ false
    by false e = refl
    by true e = absurd (let yes : bytes_eq name other ≡ true = (bytes_eq-Decides name other).1 (same name k.items t ∙ sym (same other k.items e)) in let f : false ≡ true = sym differ ∙ yes in cc)

or_none : (o : Option Known) → o ≡ or_known o None
or_none None = refl
or_none (Some n) = refl

pub known_more : (old new : Table) (k : Key) (v : Known) (name : List ℕ) → k.items ≡ name → known_in old name ≡ None → known_in new k.items ≡ Some v → KeepsOthers keys_eq (keys_eq k) old.entries new.entries
    → (other : List ℕ) → known_in new other ≡ or_known (known_in old other) (cond (bytes_eq name other) (Some v) None)
unfolding KeepsOthers
known_more old new k v name e absent here others other = by (bytes_eq name other) refl
  where
    by : (b : Bool) → bytes_eq name other ≡ b → known_in new other ≡ or_known (known_in old other) (cond b (Some v) None)
    by true t =
        let s : name ≡ other = same name other t in
        ap (known_in new) (sym s ∙ sym e) ∙ here ∙ ap (λ (o : Option Known). or_known o (Some v)) (sym absent ∙ ap (known_in old) s)
    by false f =
        let apart_too : bytes_eq k.items other ≡ false = ap (λ (l : List ℕ). bytes_eq l other) e ∙ f in
        others (λ (x : Key). bytes_eq other x.items) (is_test other) (apart k.items other apart_too) ∙ or_none (known_in old other)

pub known_empty : (table : Table) → table.entries ≡ [] → (name : List ℕ) → known_in table name ≡ None
known_empty table e name = ap (lookup (λ (k : Key). bytes_eq name k.items)) e
