-- What contracts see of a sender.
use Rattle.std.specs.Prelude.{◌≡◌, ℕ, ◌+◌, ◌-◌, ◌^◌, ◌<◌, ◌≤◌, List, [], ◌∷◌, ◌++◌, length}
use Rattle.std.specs.List.{AllByRecursion}
use Rattle.xti_gbn.specs.declared.wire.Packet.{Packet}
use Rattle.xti_gbn.specs.Numbered.{packets_from}
use Rattle.xti_gbn.specs.Wire.{most_body}

-- the least number that isn't acknowledged, and the bodies from it on
pub record Sending : Type 0 where
  pub base : ℕ
  pub kept : List (List ℕ)

-- the most packets that may wait for their acknowledgement
abbrev pub window : ℕ
window = 8

-- the number of the next body
abbrev pub next_of : Sending → ℕ
next_of s = s.base + length s.kept

-- the packets of the bodies that it keeps
abbrev pub packets_of : Sending → List Packet
packets_of s = packets_from s.base s.kept

-- it keeps this body too, as the last
abbrev pub keeping : List ℕ → Sending → Sending
keeping body s = record s { kept = s.kept ++ body ∷ [] }

-- no number is left that could be expected after the next one
abbrev pub IsSpent : Sending → Type 0
IsSpent s = next_of s ≡ 2 ^ 32 - 1

-- window and numbers are kept, and so is the size of bodies
pub record IsWithin (base : ℕ) (kept : List (List ℕ)) : Type 0 where
  pub few : length kept ≤ window
  pub numbers : base + length kept < 2 ^ 32
  pub small : AllByRecursion (λ body. length body ≤ most_body) kept
