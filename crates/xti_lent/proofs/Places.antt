-- The places, and the cell that comes after theirs.
use Rattle.std.proofs.Common.{◌≡◌, ℕ, ◌+◌, ◌<◌, false, eqb, arith}
use Rattle.std.proofs.Math.Nat.{mod-lt}
use Rattle.std.proofs.lemmas.Bool.{ne_eqb}
use Rattle.xti_model.specs.declared.profile.Providers.{Providers}
use Rattle.xti_model.proofs.PlaceNumbers.{two-places}
use Rattle.xti_model.specs.World.{places, place_of, switch_number}

some-places : (p : Providers) → 0 < places p
some-places p = omega (arith, two-places p)

-- a descriptor has one of the places
pub place-below : (p : Providers) (fd : ℕ) → place_of p fd < places p
place-below p fd = mod-lt fd (some-places p)

-- places and the switch are cells
pub place-cell : (p : Providers) (n : ℕ) → n < places p → n < places p + 1
place-cell p n lt = omega arith

pub fd-cell : (p : Providers) (fd : ℕ) → place_of p fd < places p + 1
fd-cell p fd = place-cell p (place_of p fd) (place-below p fd)

pub switch-cell : (p : Providers) → switch_number p < places p + 1
switch-cell p = omega arith

-- the switch has no place
pub not-switch : (p : Providers) (n : ℕ) → n < places p → eqb n (switch_number p) ≡ false
not-switch p n lt = ne_eqb n (switch_number p) (λ e. omega arith)
