-- Which events are pending, and which of them a call looks at.
use Rattle.std.specs.Prelude.{ℕ, ◌&&◌, ◌||◌, not, Bool, true, false, List, [], ◌∷◌, Option, is_some, find, filter}
use Rattle.std.specs.List.{list_any}
use Rattle.xti_base.specs.Kinds.{same_state}
use Rattle.xti_base.specs.declared.kinds.State.{State}
use Rattle.xti_base.specs.declared.kinds.State.TheVariants.{T_OUTCON, T_INCON, T_DATAXFER, T_OUTREL, T_INREL}
use Rattle.xti_base.specs.declared.kinds.Event.{Event}
use Rattle.xti_base.specs.declared.kinds.Event.TheVariants.{T_LISTEN, T_CONNECT, T_DATA, T_EXDATA, T_DISCONNECT, T_UDERR, T_ORDREL, T_GODATA, T_GOEXDATA}
use Rattle.xti_model.specs.declared.profile.Providers.{Providers}
use Rattle.xti_model.specs.Endpoint.{Endpoint}
use Rattle.std.specs.Prelude.{option_and_then}
use Rattle.xti_model.specs.World.{World, endpoint, the_switch}
use Rattle.xti_model.specs.Switch.{bound}
use Rattle.xti_model.specs.Links.{linked}
use Rattle.xti_model.specs.Sending.{ready_for, takes_datagram}

-- whether the list has a member
abbrev pub some_wait : {A : Type 0} → List A → Bool
some_wait [] = false
some_wait (x ∷ xs) = true

-- whether the endpoint is in one of these states
abbrev pub is_state : List State → Endpoint → Bool
is_state states e = list_any (same_state e.state) states

-- the states in which an endpoint receives
abbrev pub receiving : List State
receiving = T_DATAXFER ∷ T_OUTREL ∷ []

-- the states in which data may be sent
abbrev pub sending : List State
sending = T_DATAXFER ∷ T_INREL ∷ []

-- the states in which there is a connection, or a request for one
abbrev pub connected_or_asking : List State
connected_or_asking = T_OUTCON ∷ T_INCON ∷ T_DATAXFER ∷ T_OUTREL ∷ T_INREL ∷ []

-- the events that the endpoint alone settles
abbrev pub is_here : Endpoint → Event → Bool
is_here e T_DISCONNECT = some_wait e.disconnects
is_here e T_LISTEN = some_wait e.pending
is_here e T_CONNECT = is_state (T_OUTCON ∷ []) e && is_some e.confirmation
is_here e T_UDERR = some_wait e.datagram_errors
is_here e T_EXDATA = some_wait e.expedited && is_state receiving e
is_here e T_DATA = (some_wait e.normal && not e.mid_expedited && is_state receiving e) || some_wait e.datagrams
is_here e T_ORDREL = is_some e.release && not (some_wait e.normal) && not (some_wait e.expedited) && is_state receiving e
is_here e T_GOEXDATA = false
is_here e T_GODATA = false

-- what an endpoint finds around it: the one that it is linked with, and the one at the address of its datagram mark
pub record Around : Type 0 where
  pub peer : Option Endpoint
  pub marked : Option Endpoint

-- the endpoint, the one that it is linked with, and the one at its datagram mark
abbrev pub around : Providers → World → ℕ → Endpoint → Around
around p w fd e = record {
  peer = linked p w fd e;
  marked = option_and_then (λ address. option_and_then (endpoint p w) (bound (the_switch p w) e.prov address)) e.flow_datagram;
}

-- a send would be ready
abbrev pub can_send_again : Around → Bool → Endpoint → Bool
can_send_again a expedited e = is_some a.peer && ready_for expedited e a.peer

-- whether the event is there
abbrev pub is_pending : Around → Endpoint → Event → Bool
is_pending a e T_GOEXDATA = e.flow_expedited && can_send_again a true e
is_pending a e T_GODATA = (e.flow_normal && can_send_again a false e) || (is_some e.flow_datagram && takes_datagram a.marked)
is_pending a e other = is_here e other

-- the order in which events are shown
abbrev pub events : List Event
events = T_DISCONNECT ∷ T_LISTEN ∷ T_CONNECT ∷ T_UDERR ∷ T_EXDATA ∷ T_DATA ∷ T_ORDREL ∷ T_GOEXDATA ∷ T_GODATA ∷ []

-- the events that are there, in the order in which look tells them
abbrev pub pending : Around → Endpoint → List Event
pending a e = filter (is_pending a e) events

-- the look table: what each call looks at, in the order of the events
abbrev pub looks_connecting : List Event
looks_connecting = T_DISCONNECT ∷ T_LISTEN ∷ []

-- a disconnect alone is told
abbrev pub looks_disconnect : List Event
looks_disconnect = T_DISCONNECT ∷ []

-- a disconnect and a release are told
abbrev pub looks_data : List Event
looks_data = T_DISCONNECT ∷ T_ORDREL ∷ []

-- an error of a datagram is told
abbrev pub looks_datagrams : List Event
looks_datagrams = T_UDERR ∷ []

-- a request and data are told
abbrev pub looks_unbind : List Event
looks_unbind = T_LISTEN ∷ T_DATA ∷ []

-- the first event that is pending and looked at
abbrev pub looked : List Event → Endpoint → Option Event
looked row e = find (is_here e) row
