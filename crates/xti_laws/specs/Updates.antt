-- The named updates: what a call may do to an endpoint, and the kinds of change that a step is made of.
use Rattle.std.specs.Prelude.{ℕ, Bool, List, [], ◌∷◌, Option}
use Rattle.xti_base.specs.declared.kinds.Prov.{Prov}
use Rattle.xti_base.specs.declared.kinds.Event.{Event}
use Rattle.xti_base.specs.Negotiation.{Settings}
use Rattle.xti_model.specs.declared.profile.Profile.{Profile}
use Rattle.xti_model.specs.declared.profile.Providers.{Providers}
use Rattle.xti_model.specs.Endpoint.{Endpoint, Datagram, DatagramError, Indication, opened}
use Rattle.xti_model.specs.World.{Change, Switch, at_endpoint, at_switch, opens_place, closes_endpoint}
use Rattle.xti_model.specs.Switch.{give_address, give_up_address, mark_open}
use Rattle.xti_model.specs.Links.{broken, taken_back, if_names}
use Rattle.xti_model.specs.Plan.{Plan}
use Rattle.xti_model.specs.Calls.Close as Close
use Rattle.xti_model.specs.Calls.Bind as Bind
use Rattle.xti_model.specs.Calls.Connect as Connect
use Rattle.xti_model.specs.Calls.Listen as Listen
use Rattle.xti_model.specs.Calls.Send as Send
use Rattle.xti_model.specs.Calls.Receive as Receive
use Rattle.xti_model.specs.Calls.Disconnect as Disconnect
use Rattle.xti_model.specs.Calls.Release as Release
use Rattle.xti_model.specs.Calls.Datagrams as Datagrams
use Rattle.xti_model.specs.Calls.Show as Show

pub data Update : (Endpoint → Endpoint) → Type 0 where
  -- bind and unbind
  binds : (address : List ℕ) (qlen : ℕ) (prov : Prov) → Update (Bind.bound_to address (Bind.queue prov qlen))
  unbinds : Update Bind.unbound
  -- connect, at the listener and at the caller, and rcvconnect
  is_asked : (caller : ℕ) (address options udata : List ℕ) → Update (Connect.asked caller address options udata)
  is_asking : (listener number : ℕ) → Update (Connect.asking listener number)
  is_turned_away : (reason : ℕ) → Update (Connect.turned_away reason)
  confirms : Update Connect.confirmed
  -- listen and accept
  listens : Update Listen.listened
  loses_indication : (number : ℕ) → Update (Listen.taken_out number)
  binds_like : (listener : Endpoint) → Update (Listen.bound_like listener)
  responds : (i : Indication) → Update (Listen.responding i)
  is_accepted : (resfd : ℕ) (address options udata : List ℕ) → Update (Listen.accepted resfd address options udata)
  -- data
  marks_flow : (expedited on : Bool) → Update (Send.mark_flow expedited on)
  sends : (p : Providers) (expedited ends : Bool) (now : ℕ) → Update (Send.sent p expedited ends now)
  gets_symbols : (expedited : Bool) (symbols : List ℕ) → Update (Send.received expedited symbols)
  reads : (p : Providers) (max : ℕ) → Update (Receive.received p max)
  -- disconnect, close and break
  breaks : (reason : ℕ) (udata : List ℕ) → Update (broken reason udata)
  takes_back : (number reason : ℕ) (udata : List ℕ) → Update (taken_back number reason udata)
  is_given_up : (listener number : ℕ) → Update (Close.given_up listener number)
  is_rejected : (udata : List ℕ) → Update (Disconnect.rejected udata)
  idles : Update Disconnect.idle
  reads_disconnect : Update Disconnect.received
  -- orderly release
  is_released : (udata : List ℕ) → Update (Release.released udata)
  releases : Update Release.after_send
  reads_release : Update Release.after_receive
  -- datagrams
  marks_datagram : (to : Option (List ℕ)) → Update (Datagrams.mark_flow to)
  gets_datagram : (d : Datagram) → Update (Datagrams.with_datagram d)
  gets_error : (d : DatagramError) → Update (Datagrams.with_error_unmarked d)
  reads_datagram : (max : ℕ) → Update (Datagrams.received max)
  drops_datagram : Update Datagrams.dropped
  reads_error : Update Datagrams.without_error
  -- look, mode and optmgmt
  is_shown : (event : Option Event) → Update (Show.shown event)
  changes_mode : (nonblock : Bool) → Update (Show.in_mode nonblock)
  changes_settings : (s : Settings) → Update (Show.with_settings s)

-- what a call may do to the switch
pub data SwitchUpdate : (Switch → Switch) → Type 0 where
  gives_address : (prov : Prov) (address : List ℕ) (fd : ℕ) (listening : Bool) → SwitchUpdate (give_address prov address fd listening)
  gives_up_address : (fd : ℕ) → SwitchUpdate (give_up_address fd)
  marks_open : (place : ℕ) → SwitchUpdate (mark_open place)
  forgets : (p : Providers) (fd : ℕ) → SwitchUpdate (Close.forget p fd)

-- a change is an update of an endpoint, or of one that names the call's endpoint as its peer; a place opens or closes; or it is an update of the switch
pub data Kind : Change → Type 0 where
  updates : (fd : ℕ) (f : Endpoint → Endpoint) → Update f → Kind (at_endpoint fd f)
  updates_peer : (fd peer : ℕ) (f : Endpoint → Endpoint) → Update f → Kind (at_endpoint peer (if_names fd f))
  opens : (place : ℕ) (profile : Profile) (prov : Prov) (nonblock : Bool) → Kind (opens_place place (opened profile prov nonblock))
  closes : (fd : ℕ) → Kind (closes_endpoint fd)
  switches : (f : Switch → Switch) → SwitchUpdate f → Kind (at_switch f)

abbrev pub AllKinds : List Change → Type 0
AllKinds [] = Unit
AllKinds (c ∷ cs) = Kind c × AllKinds cs

-- what a call may change: its effect, its marks where it is not ready, and what is lost where fields are too long
abbrev pub PlanKinds : Plan → Type 0
PlanKinds plan = AllKinds plan.changes × AllKinds plan.marks × AllKinds plan.lost
