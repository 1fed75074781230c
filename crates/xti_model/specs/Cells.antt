-- Numbers of cells in rising order.
use Rattle.std.specs.Prelude.{ℕ, ◌+◌, ◌<◌, ◌≤◌, ◌==◌, nat_lt, List, [], ◌∷◌, length, slice_index, if◌then◌else◌}

-- strictly rising, from the first number on
abbrev pub IsRising : ℕ → List ℕ → Type 0
IsRising from [] = Unit {0}
IsRising from (n ∷ ns) = (from ≤ n) × IsRising (n + 1) ns

-- rising numbers, and one more in its place; as they are where it is among them
abbrev pub with_number : ℕ → List ℕ → List ℕ
with_number n [] = n ∷ []
with_number n (m ∷ ms) = if nat_lt n m then n ∷ m ∷ ms else if n == m then m ∷ ms else m ∷ with_number n ms

-- these numbers in rising order, each once
unfoldable pub listed : List ℕ → List ℕ
listed [] = []
listed (n ∷ ns) = with_number n (listed ns)

-- the number belongs at this place: after those below it, and before a greater one
pub record IsPlaceFor (n : ℕ) (ns : List ℕ) (place : ℕ) : Type 0 where
  pub within : place ≤ length ns
  pub below : (k : ℕ) → k < place → slice_index ns k < n
  pub above : place < length ns → n < slice_index ns place
