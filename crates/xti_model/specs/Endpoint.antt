-- The parts of an open endpoint.
use Rattle.std.specs.Prelude.{ℕ, Bool, false, ◌==◌, ◌&&◌, List, [], ◌∷◌, ◌++◌, length, Option, Some, None, unwrap_or, if◌then◌else◌, find}
use Rattle.xti_base.specs.declared.kinds.Prov.{Prov}
use Rattle.xti_base.specs.declared.kinds.State.{State}
use Rattle.xti_base.specs.declared.kinds.State.TheVariants.{T_UNBND}
use Rattle.xti_model.specs.declared.profile.Profile.{Profile}

-- a request to connect, at the listener
pub record Indication : Type 0 where
  pub number : ℕ
  pub caller : ℕ
  pub address : List ℕ
  pub options : List ℕ
  pub udata : List ℕ

-- a disconnect that waits: why, the number of the request if it was one, and data
pub record Disconnect : Type 0 where
  pub reason : ℕ
  pub number : ℕ
  pub udata : List ℕ

-- the listener and the number of a request that is not answered
pub record Target : Type 0 where
  pub listener : ℕ
  pub number : ℕ

-- the answer to a request that was accepted
pub record Confirmation : Type 0 where
  pub address : List ℕ
  pub options : List ℕ
  pub udata : List ℕ

-- a datagram that waits
pub record Datagram : Type 0 where
  pub source : List ℕ
  pub options : List ℕ
  pub bytes : List ℕ

-- a datagram that was not delivered: to where, and the code
pub record DatagramError : Type 0 where
  pub destination : List ℕ
  pub options : List ℕ
  pub code : ℕ

-- an endpoint that is open
pub record Endpoint : Type 0 where
  pub prov : Prov
  pub nonblock : Bool
  pub state : State
  pub address : Option (List ℕ)
  pub qlen : ℕ
  pub last_number : ℕ
  pub pending : List Indication
  pub outstanding : List Indication
  pub disconnects : List Disconnect
  pub target : Option Target
  pub peer : Option ℕ
  pub peer_address : Option (List ℕ)
  pub confirmation : Option Confirmation
  pub normal : List ℕ
  pub expedited : List ℕ
  pub mid_expedited : Bool
  pub release : Option (List ℕ)
  pub datagrams : List Datagram
  pub begun : Bool
  pub datagram_errors : List DatagramError
  pub unfinished_normal : ℕ
  pub unfinished_expedited : ℕ
  pub flow_normal : Bool
  pub flow_expedited : Bool
  pub flow_datagram : Option (List ℕ)
  pub sndbuf : ℕ
  pub rcvbuf : ℕ

-- an endpoint that was just opened
abbrev pub opened : Profile → Prov → Bool → Endpoint
opened profile prov nonblock = record {
  prov = prov;
  nonblock = nonblock;
  state = T_UNBND;
  address = None;
  qlen = 0;
  last_number = 0;
  pending = [];
  outstanding = [];
  disconnects = [];
  target = None;
  peer = None;
  peer_address = None;
  confirmation = None;
  normal = [];
  expedited = [];
  mid_expedited = false;
  release = None;
  datagrams = [];
  begun = false;
  datagram_errors = [];
  unfinished_normal = 0;
  unfinished_expedited = 0;
  flow_normal = false;
  flow_expedited = false;
  flow_datagram = None;
  sndbuf = profile.sndbuf;
  rcvbuf = profile.rcvbuf;
}

-- nothing of a connection is left
abbrev pub reset : Endpoint → Endpoint
reset e = record e {
  disconnects = [];
  target = None;
  peer = None;
  peer_address = None;
  confirmation = None;
  normal = [];
  expedited = [];
  mid_expedited = false;
  release = None;
  unfinished_normal = 0;
  unfinished_expedited = 0;
  flow_normal = false;
  flow_expedited = false;
  flow_datagram = None;
}

-- only the state changes
abbrev pub in_state : State → Endpoint → Endpoint
in_state state e = record e { state = state }

-- one disconnect more waits
abbrev pub disconnected : ℕ → ℕ → List ℕ → Endpoint → Endpoint
disconnected reason number udata e = record e { disconnects = e.disconnects ++ record { reason = reason; number = number; udata = udata } ∷ [] }

-- how many indications are outstanding
abbrev pub ocnt : Endpoint → ℕ
ocnt e = length e.outstanding

-- the indication has this sequence number
abbrev pub has_number : ℕ → Indication → Bool
has_number number i = i.number == number

-- the indication with this sequence number
abbrev pub find_number : ℕ → List Indication → Option Indication
find_number number is = find (has_number number) is

-- the first indication with the number is taken out
abbrev pub without_number : ℕ → List Indication → List Indication
without_number number [] = []
without_number number (i ∷ is) = if has_number number i then is else i ∷ without_number number is

-- the request is to this listener, with this number
abbrev pub is_target : ℕ → ℕ → Option Target → Bool
is_target listener number None = false
is_target listener number (Some t) = (t.listener == listener) && (t.number == number)

-- no bytes where it is not bound
abbrev pub address_of : Endpoint → List ℕ
address_of e = unwrap_or e.address []
