-- What holds of the number of places and of the last generation in either version.
use Rattle.std.proofs.Common.{ℕ, ◌+◌, ◌*◌, ◌<◌, ◌≤◌, arith}
use Rattle.std.specs.Prelude.{◌%◌, ◌/◌, ◌-◌}
use Rattle.xti_base.specs.declared.limits.TheConstants.{MOST_PLACES, NO_NUMBER}
use Rattle.xti_model.specs.declared.profile.Providers.{Providers}
use Rattle.xti_model.specs.declared.profile.Version.{Version}
use Rattle.xti_model.specs.declared.profile.Version.TheVariants.{One, Two}
use Rattle.xti_model.specs.World.{places, places_of, place_of, descriptor, last_generation}

pub two-places : (p : Providers) → 1 < places p
two-places p = go p.version
  where
    go : (v : Version) → 1 < places_of v
    go One = omega arith
    go Two = omega arith

pub most-places : (p : Providers) → places p ≤ MOST_PLACES
most-places p = go p.version
  where
    go : (v : Version) → places_of v ≤ MOST_PLACES
    go One = omega arith
    go Two = omega arith

-- a descriptor's place is one of them
pub below : (p : Providers) (fd : ℕ) → place_of p fd < places p
below p fd = go p.version
  where
    go : (v : Version) → fd % places_of v < places_of v
    go One = omega arith
    go Two = omega arith

-- a descriptor before the last generation is a number, and not the one that stands for none
pub descriptor-fits : (p : Providers) (g n : ℕ) → g < last_generation p → n < places p → descriptor p g n < NO_NUMBER
descriptor-fits p g n h l = go p.version h l
  where
    go : (v : Version) → g < 4294967296 / places_of v - 1 → n < places_of v → places_of v * g + n < NO_NUMBER
    go One h l = omega (arith, h, l)
    go Two h l = omega (arith, h, l)
