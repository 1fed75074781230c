-- An address that is held in its value.
use Rattle.std.specs.Prelude.{ℕ, List, [], length, nat_lt, take, if◌then◌else◌}
use Rattle.xti_base.specs.declared.limits.TheConstants.{MOST_ADDRESS}
use Rattle.xti_model.specs.declared.spot.Spot.{Spot}

-- the bytes of the address
abbrev pub spot_bytes : Spot → List ℕ
spot_bytes s = take s.len s.bytes

-- what is held of an address: no bytes of a longer one
abbrev pub held_of : List ℕ → List ℕ
held_of address = if nat_lt MOST_ADDRESS (length address) then [] else address
