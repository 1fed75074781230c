-- Sets of texts, and lists of them.
use Rattle.std.specs.Prelude.{◌≡◌, ℕ, ◌==◌, Bool, false, ◌&&◌, ◌||◌, List, Vec, slice_get, Option, Some, None}
use Rattle.std.specs.declared.alloc.Global.{Global}
use Rattle.std.specs.HashSet.{HashSet, contains_by}
use Rattle.std.specs.declared.hash.BuildHasherDefault.{BuildHasherDefault}
use Rattle.std.specs.declared.hash.FoldHasher.{FoldHasher}
use Rattle.std.specs.Str.{bytes_eq}

-- a set of texts
abbrev pub TextSet : Type 0
TextSet = HashSet (Vec ℕ Global) (BuildHasherDefault FoldHasher)

abbrev pub has : TextSet → List ℕ → Bool
has texts bytes = contains_by (λ k. bytes_eq bytes k.items) texts

-- whether a set that may be there has the text
abbrev pub has_in : Option TextSet → List ℕ → Bool
has_in None bytes = false
has_in (Some texts) bytes = has texts bytes

-- whether the set at this place has the text
abbrev pub has_at : List TextSet → ℕ → List ℕ → Bool
has_at sets place bytes = has_in (slice_get sets place) bytes

-- none of the sets has a text
abbrev pub AreEmpty : List TextSet → Type 0
AreEmpty sets = (at : ℕ) (other : List ℕ) → has_at sets at other ≡ false

-- the new set has the texts of the old one and this text
abbrev pub HasMore : List ℕ → TextSet → TextSet → Type 0
HasMore text old new = (other : List ℕ) → has new other ≡ (has old other || bytes_eq text other)

-- the set at this place has one more text, and the others are the same
abbrev pub HasMoreAt : ℕ → List ℕ → List TextSet → List TextSet → Type 0
HasMoreAt place text old new = (at : ℕ) (other : List ℕ) → has_at new at other ≡ (has_at old at other || ((place == at) && bytes_eq text other))

-- the set has the same texts
abbrev pub HasSame : TextSet → TextSet → Type 0
HasSame old new = (other : List ℕ) → has new other ≡ has old other

-- each of the sets has the same texts
abbrev pub HaveSame : List TextSet → List TextSet → Type 0
HaveSame old new = (at : ℕ) (other : List ℕ) → has_at new at other ≡ has_at old at other
