-- What a poll finds.
use Rattle.std.specs.Prelude.{ℕ, ◌==◌, ◌&&◌, Bool, true, false, not, List, [], ◌∷◌, map, Option, Some, None, find, bit_and, if◌then◌else◌}
use Rattle.xti_base.specs.declared.kinds.Event.{Event}
use Rattle.xti_base.specs.declared.kinds.Fd.{Fd}
use Rattle.xti_base.specs.Kinds.{event_number}
use Rattle.xti_model.specs.declared.profile.Providers.{Providers}
use Rattle.xti_model.specs.Endpoint.{Endpoint}
use Rattle.xti_model.specs.Events.{Around, around, events, is_pending}
use Rattle.xti_model.specs.World.{World, endpoint}
use Rattle.xti_hall_rule.specs.declared.view.View.{View}
use Rattle.xti_hall_rule.specs.Histories.{after}
use Rattle.xti_poll.specs.declared.asked.Asked.{Asked}
use Rattle.xti_poll.specs.declared.found.Found.{Found}
use Rattle.xti_poll.specs.declared.found.Found.TheVariants as found

-- the event's number is in this sum
abbrev pub is_asked : ℕ → Event → Bool
is_asked n event = not (bit_and n (event_number event) == 0)

-- the first event, in the order in which events are shown, that is pending at an endpoint and asked for
abbrev pub first_asked : Around → Endpoint → ℕ → Option Event
first_asked a e n = find (λ event. is_pending a e event && is_asked n event) events

-- an event at a descriptor, or none
abbrev pub told : Fd → Option Event → Found
told fd None = found.None
told fd (Some event) = found.Event fd event

-- what is found of the pair, where this endpoint is open with its descriptor, or none
abbrev pub found_at : Providers → World → Asked → Option Endpoint → Found
found_at p w a None = found.Gone a.fd
found_at p w a (Some e) = told a.fd (first_asked (around p w a.fd.0 e) e a.events)

-- what is found of a pair in a world
abbrev pub found_in : Providers → World → Asked → Found
found_in p w a = found_at p w a (endpoint p w a.fd.0)

-- the same in the world after what the seat has seen
abbrev pub found_after : View → Asked → Found
found_after v a = found_in v.setting.providers (after v.setting v.seen) a

-- what is found of each pair, in order, all in that world
abbrev pub all_found_after : View → List Asked → List Found
all_found_after v s = map (found_after v) s

-- nothing that is asked for
abbrev pub is_none : Found → Bool
is_none found.None = true
is_none other = false

-- the first that is something, else nothing
abbrev pub first_found : List Found → Found
first_found [] = found.None
first_found (f ∷ fs) = if is_none f then first_found fs else f
