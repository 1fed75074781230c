-- What a look finds among lent cells, and what an endpoint shows in a world.
use Rattle.std.specs.Prelude.{ℕ, Bool, ◌&&◌, sum_by, if◌then◌else◌, Option, is_some, option_map}
use Rattle.xti_base.specs.declared.kinds.Event.{Event}
use Rattle.xti_base.specs.declared.kinds.State.{State}
use Rattle.xti_base.specs.Kinds.{event_number}
use Rattle.xti_model.specs.declared.profile.Providers.{Providers}
use Rattle.xti_model.specs.Calls.Show.{first_pending}
use Rattle.xti_model.specs.Endpoint.{Endpoint}
use Rattle.xti_model.specs.Events.{Around, around, can_send_again, is_pending, pending}
use Rattle.xti_model.specs.Sending.{takes_datagram}
use Rattle.xti_model.specs.World.{World, endpoint}
use Rattle.xti_lent.specs.Lending.{Lending, cells}
use Rattle.xti_core.specs.declared.looking.Sight.{Sight}

-- what an endpoint finds around it
abbrev pub around_lent : Lending → ℕ → Endpoint → Around
around_lent l fd e = around l.providers (cells l) fd e

-- the peer of an endpoint takes one more byte of the kind
abbrev pub can_send_among : Lending → ℕ → Bool → Endpoint → Bool
can_send_among l fd expedited e = can_send_again (around_lent l fd e) expedited e

-- the event is pending at an endpoint
abbrev pub is_pending_among : Lending → ℕ → Endpoint → Event → Bool
is_pending_among l fd e event = is_pending (around_lent l fd e) e event

-- the endpoint has its datagram mark set, and whoever is bound there takes one more datagram
abbrev pub goes_again : Lending → ℕ → Endpoint → Bool
goes_again l fd e = is_some e.flow_datagram && takes_datagram (around_lent l fd e).marked

-- what is told of an endpoint, if there is one: its state, and the event
abbrev pub shown : Option Sight → Option (State × Option Event)
shown told = option_map (λ s. (s.state, s.event)) told

-- what an endpoint with the descriptor shows: its state, and the first event that is pending
abbrev pub shown_by : Providers → World → ℕ → Endpoint → State × Option Event
shown_by p w fd e = (e.state, first_pending (around p w fd e) e)

-- the same of the endpoint that is open with the descriptor, if there is one
abbrev pub sight_in : Providers → World → ℕ → Option (State × Option Event)
sight_in p w fd = option_map (shown_by p w fd) (endpoint p w fd)

-- the same among lent cells
abbrev pub sight_among : Lending → ℕ → Option (State × Option Event)
sight_among l fd = sight_in l.providers (cells l) fd

-- the number of an event that passes a test, else 0
abbrev pub number_where : (Event → Bool) → Event → ℕ
number_where test event = if test event then event_number event else 0

-- the sum of the numbers of the events that are pending at an endpoint with the descriptor
abbrev pub events_by : Providers → World → ℕ → Endpoint → ℕ
events_by p w fd e = sum_by event_number (pending (around p w fd e) e)

-- the same of the endpoint that is open with the descriptor, if there is one
abbrev pub events_in : Providers → World → ℕ → Option ℕ
events_in p w fd = option_map (events_by p w fd) (endpoint p w fd)

-- the same among lent cells
abbrev pub events_among : Lending → ℕ → Option ℕ
events_among l fd = events_in l.providers (cells l) fd
