-- What a carrier is after an error.
use Rattle.std.specs.Prelude.{ℕ, List, ◌⊎◌}

-- it is ready still, or some bytes wait in it
abbrev pub IsLeft : {S : Type 0} → (S → Type 0) → (List ℕ → S → Type 0) → S → Type 0
IsLeft ready holds carrier = ready carrier ⊎ ((bytes : List ℕ) × holds bytes carrier)
