-- What contracts see of an endpoint: the cell of its place, and how much more it takes with no memory.
use Rattle.std.specs.Prelude.{◌≡◌, ℕ, Bool, false, ◌==◌, ◌&&◌, List, [], ◌∷◌, ◌++◌, Option, Some, None, is_some, unwrap_or, option_map, option_and_then, map, remove, slice_get}
use Rattle.xti_base.specs.declared.kinds.Fd.{Fd}
use Rattle.xti_base.specs.declared.kinds.Seq.{Seq}
use Rattle.xti_base.specs.declared.kinds.Prov.{Prov}
use Rattle.xti_base.specs.declared.kinds.Prov.TheVariants.{Ticlts}
use Rattle.xti_base.specs.declared.kinds.State.TheVariants.{T_UNINIT}
use Rattle.xti_model.specs.declared.profile.Providers.{Providers}
use Rattle.xti_model.specs.Endpoint.{Endpoint, Target, Indication, Disconnect, Confirmation, Datagram, DatagramError, opened, without_number}
use Rattle.xti_model.specs.Profile.{usual}
use Rattle.xti_model.specs.Provider.{profile}
use Rattle.xti_model.specs.Calls.Datagrams.{with_datagram, with_error}
use Rattle.xti_model.specs.Spot.{spot_bytes}
use Rattle.xti_model.specs.Symbols as waiting
use Rattle.xti_model.specs.World.{World, Cell, endpoint_cell, generation_of, place_of, closed_places}
use Rattle.xti_queue.specs.Queue.{frames, symbols}
use Rattle.xti_end.specs.declared.parts.Parts.{Parts}
use Rattle.xti_end.specs.declared.parts.Waiting.{Waiting}
use Rattle.xti_end.specs.Frames.{datagram_of, error_in, indication_of, disconnect_in, confirmation_in, release_in}

-- the place and how often it was closed; the endpoint that is open there; and how many more members its lists take with no memory
pub record Held : Type 0 where
  pub place : ℕ
  pub generation : ℕ
  pub body : Option Endpoint
  pub spare_pending : ℕ
  pub spare_outstanding : ℕ
  pub spare_disconnects : ℕ
  pub spare_normal : ℕ
  pub spare_expedited : ℕ
  pub spare_datagrams : ℕ
  pub spare_datagram_errors : ℕ

abbrev pub cell : Held → Cell
cell h = endpoint_cell h.generation h.body

-- the world of this cell alone
abbrev pub alone : Held → World
alone h = record { number = h.place; cell = cell h } ∷ []

abbrev pub is_open : Held → Bool
is_open h = is_some h.body

-- an endpoint of which each part is empty
abbrev pub empty_endpoint : Endpoint
empty_endpoint = record (opened usual.ticlts Ticlts false) { state = T_UNINIT; sndbuf = 0; rcvbuf = 0 }

-- the open endpoint; of a closed one nothing is meant
abbrev pub parts_of : Option Endpoint → Endpoint
parts_of o = unwrap_or o empty_endpoint

abbrev pub parts : Held → Endpoint
parts h = parts_of h.body

-- the open endpoint changes, and no spare does
abbrev pub with_parts : (Endpoint → Endpoint) → Held → Held
with_parts f h = record h { body = option_map f h.body }

-- an endpoint of the provider opens at the place
abbrev pub with_opened : Providers → Prov → Bool → Held → Held
with_opened p prov nonblock h = record h { body = Some (opened (profile p prov) prov nonblock) }

-- the descriptor stands for this place and generation, and an endpoint is open
abbrev pub is_open_as : Providers → ℕ → Held → Bool
is_open_as p fd h = is_open h && (h.generation == generation_of p fd) && (h.place == place_of p fd)

-- the datagrams of the endpoint that is open; a closed one has none
abbrev pub datagrams_at : Option Endpoint → List Datagram
datagrams_at None = []
datagrams_at (Some e) = e.datagrams

-- the datagram flow mark
abbrev pub mark_at : Option Endpoint → Option (List ℕ)
mark_at o = option_and_then (λ (e : Endpoint). e.flow_datagram) o

-- the errors of datagrams
abbrev pub errors_at : Option Endpoint → List DatagramError
errors_at None = []
errors_at (Some e) = e.datagram_errors

-- the normal and the expedited symbols that wait
abbrev pub normal_at : Option Endpoint → List ℕ
normal_at None = []
normal_at (Some e) = e.normal

abbrev pub expedited_at : Option Endpoint → List ℕ
expedited_at None = []
expedited_at (Some e) = e.expedited

-- the descriptors of the other side of the connection, and of the listener that is asked for one
abbrev pub peer_at : Option Endpoint → Option ℕ
peer_at o = option_and_then (λ (e : Endpoint). e.peer) o

abbrev pub target_at : Option Endpoint → Option ℕ
target_at o = option_and_then (λ (e : Endpoint). option_map (λ t. t.listener) e.target) o

-- the number of the request to it
abbrev pub target_number_at : Option Endpoint → Option ℕ
target_number_at o = option_and_then (λ (e : Endpoint). option_map (λ t. t.number) e.target) o

-- an endpoint's place where nothing was open yet
abbrev pub IsUnused : ℕ → Held → Type 0
IsUnused place h = alone h ≡ closed_places place 1

-- a descriptor and the number of a request
abbrev pub target_of : Fd × Seq → Target
target_of t = record { listener = t.0.0; number = t.1.0 }

-- the open endpoint that the parts, and what waits, stand for
abbrev pub endpoint_of : Parts → Waiting → Endpoint
endpoint_of e w = record {
  prov = e.prov;
  nonblock = e.nonblock;
  state = e.state;
  address = e.address;
  qlen = e.qlen;
  last_number = e.connection.last_number.0;
  pending = map indication_of w.pending.items;
  outstanding = map indication_of w.outstanding.items;
  disconnects = map disconnect_in w.disconnects.items;
  target = option_map target_of e.connection.target;
  peer = option_map (λ (fd : Fd). fd.0) e.connection.peer;
  peer_address = e.connection.peer_address;
  confirmation = option_map confirmation_in e.connection.confirmation;
  normal = symbols w.normal;
  expedited = symbols w.expedited;
  mid_expedited = e.connection.mid_expedited;
  release = option_map release_in e.connection.release;
  datagrams = map datagram_of (frames w.datagrams);
  begun = e.begun;
  datagram_errors = map error_in w.datagram_errors.items;
  unfinished_normal = e.connection.unfinished_normal;
  unfinished_expedited = e.connection.unfinished_expedited;
  flow_normal = e.connection.flow_normal;
  flow_expedited = e.connection.flow_expedited;
  flow_datagram = option_map spot_bytes e.flow_datagram;
  sndbuf = e.sndbuf;
  rcvbuf = e.rcvbuf;
}

abbrev pub body_of : Option Parts → Waiting → Option Endpoint
body_of o w = option_map (λ (e : Parts). endpoint_of e w) o

-- the open endpoint is made of these parts, and of what waits
abbrev pub IsMadeOf : Held → Parts → Type 0
IsMadeOf h parts = (w : Waiting) × (h.body ≡ Some (endpoint_of parts w))

-- another datagram flow mark, listener that is asked, other side, confirmation or release
abbrev pub with_mark : Option (List ℕ) → Endpoint → Endpoint
with_mark mark e = record e { flow_datagram = mark }

abbrev pub with_target : Option Target → Endpoint → Endpoint
with_target target e = record e { target = target }

abbrev pub with_peer : Option ℕ → Endpoint → Endpoint
with_peer peer e = record e { peer = peer }

abbrev pub with_confirmation : Confirmation → Endpoint → Endpoint
with_confirmation confirmation e = record e { confirmation = Some confirmation }

abbrev pub with_release : Option (List ℕ) → Endpoint → Endpoint
with_release release e = record e { release = release }

-- one more indication, disconnect or run of symbols after the others
abbrev pub with_pending : Indication → Endpoint → Endpoint
with_pending i e = record e { pending = e.pending ++ i ∷ [] }

abbrev pub with_outstanding : Indication → Endpoint → Endpoint
with_outstanding i e = record e { outstanding = e.outstanding ++ i ∷ [] }

abbrev pub with_disconnect : Disconnect → Endpoint → Endpoint
with_disconnect d e = record e { disconnects = e.disconnects ++ d ∷ [] }

abbrev pub with_normal : List ℕ → Endpoint → Endpoint
with_normal symbols e = record e { normal = e.normal ++ symbols }

abbrev pub with_expedited : List ℕ → Endpoint → Endpoint
with_expedited symbols e = record e { expedited = e.expedited ++ symbols }

-- the place stays, and no room is lost
pub record SameRoom (old new : Held) : Type 0 where
  pub place : new.place ≡ old.place
  pub generation : new.generation ≡ old.generation
  pub pending : new.spare_pending ≡ old.spare_pending
  pub outstanding : new.spare_outstanding ≡ old.spare_outstanding
  pub disconnects : new.spare_disconnects ≡ old.spare_disconnects
  pub normal : new.spare_normal ≡ old.spare_normal
  pub expedited : new.spare_expedited ≡ old.spare_expedited
  pub datagrams : new.spare_datagrams ≡ old.spare_datagrams
  pub datagram_errors : new.spare_datagram_errors ≡ old.spare_datagram_errors

-- only how many more of one kind are taken with no memory may differ
abbrev pub OnlyRoomForDisconnects : Held → Held → Type 0
OnlyRoomForDisconnects old new = new ≡ record old { spare_disconnects = new.spare_disconnects }

abbrev pub OnlyRoomForErrors : Held → Held → Type 0
OnlyRoomForErrors old new = new ≡ record old { spare_datagram_errors = new.spare_datagram_errors }

-- one more waits after the others; how many more are taken with no memory is said apart
abbrev pub AddsPending : Indication → Held → Held → Type 0
AddsPending i old new = new ≡ record (with_parts (with_pending i) old) { spare_pending = new.spare_pending }

abbrev pub AddsOutstanding : Indication → Held → Held → Type 0
AddsOutstanding i old new = new ≡ record (with_parts (with_outstanding i) old) { spare_outstanding = new.spare_outstanding }

abbrev pub AddsDisconnect : Disconnect → Held → Held → Type 0
AddsDisconnect d old new = new ≡ record (with_parts (with_disconnect d) old) { spare_disconnects = new.spare_disconnects }

abbrev pub AddsNormal : List ℕ → Held → Held → Type 0
AddsNormal symbols old new = new ≡ record (with_parts (with_normal symbols) old) { spare_normal = new.spare_normal }

abbrev pub AddsExpedited : List ℕ → Held → Held → Type 0
AddsExpedited symbols old new = new ≡ record (with_parts (with_expedited symbols) old) { spare_expedited = new.spare_expedited }

abbrev pub AddsDatagram : Datagram → Held → Held → Type 0
AddsDatagram d old new = new ≡ record (with_parts (with_datagram d) old) { spare_datagrams = new.spare_datagrams }

abbrev pub AddsError : DatagramError → Held → Held → Type 0
AddsError d old new = new ≡ record (with_parts (with_error d) old) { spare_datagram_errors = new.spare_datagram_errors }

-- the member at a place is gone; the others stay in their order
abbrev pub without_pending_at : ℕ → Endpoint → Endpoint
without_pending_at place e = record e { pending = remove e.pending place }

abbrev pub without_outstanding_at : ℕ → Endpoint → Endpoint
without_outstanding_at place e = record e { outstanding = remove e.outstanding place }

-- the pending request with the number is gone
abbrev pub without_pending : ℕ → Endpoint → Endpoint
without_pending number e = record e { pending = without_number number e.pending }

-- the outstanding request with the number is gone
abbrev pub without_outstanding : ℕ → Endpoint → Endpoint
without_outstanding number e = record e { outstanding = without_number number e.outstanding }

abbrev pub without_disconnect_at : ℕ → Endpoint → Endpoint
without_disconnect_at place e = record e { disconnects = remove e.disconnects place }

abbrev pub without_error_at : ℕ → Endpoint → Endpoint
without_error_at place e = record e { datagram_errors = remove e.datagram_errors place }

-- the members at a place of what waits
abbrev pub pending_at : Held → ℕ → Option Indication
pending_at h place = slice_get (parts h).pending place

abbrev pub outstanding_at : Held → ℕ → Option Indication
outstanding_at h place = slice_get (parts h).outstanding place

abbrev pub disconnect_at : Held → ℕ → Option Disconnect
disconnect_at h place = slice_get (parts h).disconnects place

abbrev pub error_at : Held → ℕ → Option DatagramError
error_at h place = slice_get (errors_at h.body) place

-- so many bytes were taken of the first normal or expedited message
abbrev pub without_normal : ℕ → Endpoint → Endpoint
without_normal max e = record e { normal = waiting.rest max e.normal }

abbrev pub without_expedited : ℕ → Endpoint → Endpoint
without_expedited max e = record e { expedited = waiting.rest max e.expedited }
