-- What stays true of the switch's table.
use Rattle.std.specs.Prelude.{◌≡◌, ◌<◌, ◌+◌, ◌^◌, ℕ, true, List, length, All}
use Rattle.xti_model.specs.World.{Place}
use Rattle.xti_registry.specs.Chains.{IsChained, HasRoom}
use Rattle.xti_registry.specs.declared.addresses.Addresses.{Addresses}

-- the generation of an open place can rise by one in 32 bits
abbrev pub CanClose : Place → Type 0
CanClose place = place.is_open ≡ true → place.generation + 1 < 2 ^ 32

-- places have numbers of 32 bits; the addresses are in their chains; and there is room for as many more as are promised
pub record IsKept (places : List Place) (addresses : Addresses) (spare : ℕ) : Type 0 where
  pub numbered : length places < 2 ^ 32
  pub can_close : All CanClose places
  pub chained : IsChained addresses
  pub room : HasRoom addresses spare
