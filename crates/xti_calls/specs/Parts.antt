-- Bytes cut into parts by sizes, and room for the parts.
use Rattle.std.specs.Prelude.{◌≡◌, ◌≤◌, ◌-◌, ℕ, List, [], ◌∷◌, take, drop, min}
use Rattle.xti_calls.specs.declared.buffers.Buffer.{Buffer}

-- each part takes as many bytes as its size, before the next has any
abbrev pub split_by : List ℕ → List ℕ → List (List ℕ)
split_by [] bytes = []
split_by (n ∷ sizes) bytes = take n bytes ∷ split_by sizes (drop n bytes)

-- the sizes of parts, and the most bytes that they hold together
pub record PartSizes : Type 0 where
  pub sizes : List ℕ
  pub most : ℕ

-- each buffer is empty, and has room for its part of so many bytes
abbrev pub HaveRoom : ℕ → List Buffer → Type 0
HaveRoom n [] = Unit {0}
HaveRoom n (b ∷ bs) = (b.room.bytes ≡ []) × (min b.size n ≤ b.room.spare) × HaveRoom (n - b.size) bs
