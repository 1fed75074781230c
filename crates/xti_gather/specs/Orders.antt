-- The order of cells that are lent and of those that are to be.
use Rattle.std.specs.Prelude.{◌≡◌, ◌<◌, ◌≤◌, ◌+◌, ℕ, true, false, List, [], ◌∷◌}
use Rattle.std.specs.List.{AllByRecursion}
use Rattle.xti_model.specs.declared.profile.Providers.{Providers}
use Rattle.xti_model.specs.declared.call.Call.{Call}
use Rattle.xti_model.specs.Touched.{touched}
use Rattle.xti_model.specs.World.{World, places, is_among}
use Rattle.xti_lent.specs.Lending.{Lending, is_lent}

-- the numbers are those of places or of the switch
abbrev pub AreCells : Providers → List ℕ → Type 0
AreCells p = AllByRecursion (λ n. n < places p + 1)

-- the call touches the cell of this place alone, whatever the world is
abbrev pub TouchesAlone : Providers → ℕ → Call → Type 0
TouchesAlone p n c = (n < places p) × ((w : World) → touched p w c ≡ n ∷ [])

-- every lent cell is one of these
abbrev pub LentWithin : Lending → List ℕ → Type 0
LentWithin l ns = (n : ℕ) → is_lent l n ≡ true → is_among ns n ≡ true

-- every lent cell has a lower number
abbrev pub AllBelow : Lending → ℕ → Type 0
AllBelow l k = (n : ℕ) → is_lent l n ≡ true → n < k

-- a lent cell has this number or a higher one
abbrev pub SomeNotBelow : Lending → ℕ → Type 0
SomeNotBelow l k = (n : ℕ) × (is_lent l n ≡ true) × (k ≤ n)

-- the least of these cells that is not lent
pub record IsLeastMissing (l : Lending) (ns : List ℕ) (k : ℕ) : Type 0 where
  pub among : is_among ns k ≡ true
  pub gone : is_lent l k ≡ false
  pub least : (n : ℕ) → is_among ns n ≡ true → is_lent l n ≡ false → k ≤ n

-- each of these cells that is missing has a higher number than all that are lent
abbrev pub InOrder : Lending → List ℕ → Type 0
InOrder l ns = (n m : ℕ) → is_lent l n ≡ true → is_among ns m ≡ true → is_lent l m ≡ false → n < m
