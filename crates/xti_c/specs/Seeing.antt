-- What C is told of what an endpoint shows.
use Rattle.std.specs.Prelude.{◌≡◌, ℕ, Bool, true, false, Option, Some, None}
use Rattle.xti_base.specs.Kinds.{event_number, state_number}
use Rattle.xti_base.specs.declared.kinds.Event.{Event}
use Rattle.xti_base.specs.declared.kinds.State.{State}
use Rattle.xti_core.specs.Looks.{sight_in}
use Rattle.xti_core.specs.Standing.{Standing}
use Rattle.xti_c.specs.declared.seeing.Seen.{Seen}

-- the number of an event; 0 where there is none
abbrev pub number_of : Option Event → ℕ
number_of None = 0
number_of (Some event) = event_number event

-- what is told of a state and its first pending event; where no endpoint is open, all is as before
abbrev pub Tells : Option (State × Option Event) → Bool → Seen → Seen → Type 0
Tells (Some (state, event)) found old new = (found ≡ true) × (new ≡ record { state = state_number state; event = number_of event })
Tells None found old new = (found ≡ false) × (new ≡ old)

-- C is told what the endpoint with the descriptor shows in that world
abbrev pub Sees : Standing → ℕ → Bool → Seen → Seen → Type 0
Sees w fd found old new = Tells (sight_in w.providers w.cells fd) found old new
