-- What holds of every open endpoint by itself, after any calls.
use Rattle.std.specs.Prelude.{ℕ, Bool, true, false, ◌+◌, ◌*◌, ◌<◌, ◌≤◌, ◌≡◌, List, [], ◌∷◌, length, Option, Some, None, is_some, is_none}
use Rattle.std.specs.List.{All}
use Rattle.xti_base.specs.declared.kinds.Prov.{Prov}
use Rattle.xti_base.specs.declared.kinds.State.{State}
use Rattle.xti_base.specs.declared.kinds.State.TheVariants.{T_UNBND, T_IDLE, T_OUTCON, T_INCON}
use Rattle.xti_model.specs.Profile.{is_size}
use Rattle.xti_model.specs.Provider.{has_datagrams}
use Rattle.xti_model.specs.Endpoint.{Endpoint, Indication, Disconnect, Target, Confirmation, Datagram, DatagramError}
use Rattle.xti_model.specs.Symbols.{bytes_waiting}
use Rattle.xti_model.specs.Sending.{datagram_limit}
use Rattle.xti_base.specs.declared.limits.TheConstants.{LAST_SEQUENCE, MOST_ADDRESS, MOST_OPTIONS, MOST_CONNECT_DATA, MOST_SIZE, MOST_QUEUE, MOST_EXPEDITED, MOST_EXPEDITED_MESSAGE}
use Rattle.xti_laws.specs.Requests.{is_one_of, is_connected}

-- Addresses, options, data that go with a connection, and datagrams have at most as many bytes as the profile allows.
abbrev pub ShortAddress : Option (List ℕ) → Type 0
ShortAddress None = Unit
ShortAddress (Some address) = length address ≤ MOST_ADDRESS

abbrev pub ShortIndication : Indication → Type 0
ShortIndication i = (length i.address ≤ MOST_ADDRESS) × (length i.options ≤ MOST_OPTIONS) × (length i.udata ≤ MOST_CONNECT_DATA)

abbrev pub ShortDisconnect : Disconnect → Type 0
ShortDisconnect d = length d.udata ≤ MOST_CONNECT_DATA

abbrev pub ShortConfirmation : Option Confirmation → Type 0
ShortConfirmation None = Unit
ShortConfirmation (Some c) = (length c.address ≤ MOST_ADDRESS) × (length c.options ≤ MOST_OPTIONS) × (length c.udata ≤ MOST_CONNECT_DATA)

abbrev pub ShortRelease : Option (List ℕ) → Type 0
ShortRelease None = Unit
ShortRelease (Some udata) = length udata ≤ MOST_CONNECT_DATA

abbrev pub ShortDatagram : Datagram → Type 0
ShortDatagram d = (length d.source ≤ MOST_ADDRESS) × (length d.options ≤ MOST_OPTIONS) × (length d.bytes ≤ MOST_SIZE)

abbrev pub ShortError : DatagramError → Type 0
ShortError d = (length d.destination ≤ MOST_ADDRESS) × (length d.options ≤ MOST_OPTIONS)

-- its address and its queue of requests: it has an address in every state but T_UNBND, and no queue there; no more requests than the queue takes;
-- requests are pending in T_IDLE and T_INCON alone, and in T_INCON one is outstanding
pub record Listening (state : State) (address : Option (List ℕ)) (qlen : ℕ) (pending outstanding : List Indication) : Type 0 where
  pub queue : qlen ≤ MOST_QUEUE
  pub short : ShortAddress address
  pub bound : is_none address ≡ is_one_of (T_UNBND ∷ []) state
  pub unbound : is_one_of (T_UNBND ∷ []) state ≡ true → qlen ≡ 0
  pub few : length pending + length outstanding ≤ qlen
  pub heard : is_one_of (T_IDLE ∷ T_INCON ∷ []) state ≡ false → pending ≡ []
  pub held : is_one_of (T_INCON ∷ []) state ≡ true → 0 < length outstanding

-- its request to connect, its peer and its disconnects: it asks in T_OUTCON alone and without a peer, and has no disconnect then, nor with a peer, nor in T_UNBND and T_IDLE;
-- at most one in any state but T_INCON, and one where its connection is broken
pub record Disconnecting (state : State) (target : Option Target) (peer : Option ℕ) (disconnects : List Disconnect) : Type 0 where
  pub asking : is_some target ≡ true → is_one_of (T_OUTCON ∷ []) state ≡ true
  pub none : is_some target ≡ true → disconnects ≡ []
  pub with_peer : is_some peer ≡ true → (target ≡ None) × (disconnects ≡ [])
  pub rest : is_one_of (T_UNBND ∷ T_IDLE ∷ []) state ≡ true → disconnects ≡ []
  pub one : is_one_of (T_INCON ∷ []) state ≡ false → length disconnects ≤ 1
  pub broken : is_connected state ≡ true → target ≡ None → peer ≡ None → 0 < length disconnects
  pub short : All ShortDisconnect disconnects

-- its requests, and what is kept of a connection's other end
pub record RequestFields (pending outstanding : List Indication) (last_number : ℕ) (peer_address : Option (List ℕ)) (confirmation : Option Confirmation) : Type 0 where
  pub pending_short : All ShortIndication pending
  pub outstanding_short : All ShortIndication outstanding
  pub numbered : last_number ≤ LAST_SEQUENCE
  pub peer : ShortAddress peer_address
  pub confirmed : ShortConfirmation confirmation

-- the bytes of the sender's buffer and the receiver's, at most
abbrev pub two_buffers : ℕ
two_buffers = 2 * MOST_SIZE

-- its data of a connection: the bytes that wait, and those of an unfinished message
pub record StreamData (normal expedited : List ℕ) (unfinished_normal unfinished_expedited : ℕ) : Type 0 where
  pub normal_few : bytes_waiting normal ≤ two_buffers
  pub expedited_few : bytes_waiting expedited ≤ MOST_EXPEDITED
  pub unfinished : unfinished_normal ≤ MOST_SIZE
  pub expedited_unfinished : unfinished_expedited ≤ MOST_EXPEDITED_MESSAGE

-- its datagrams, and at least one where one is begun; and its errors: at most one
pub record WaitingDatagrams (datagrams : List Datagram) (begun : Bool) (datagram_errors : List DatagramError) (flow_datagram : Option (List ℕ)) : Type 0 where
  pub few : length datagrams ≤ datagram_limit
  pub short : All ShortDatagram datagrams
  pub begins : begun ≡ true → 0 < length datagrams
  pub one_error : length datagram_errors ≤ 1
  pub errors_short : All ShortError datagram_errors
  pub mark : ShortAddress flow_datagram

pub record Buffers (sndbuf rcvbuf : ℕ) : Type 0 where
  pub send : is_size sndbuf ≡ true
  pub receive : is_size rcvbuf ≡ true

-- in no connection nothing is left of one
pub record Unconnected (state : State) (peer_address : Option (List ℕ)) (mid_expedited : Bool) (unfinished_normal unfinished_expedited : ℕ) (flow_normal flow_expedited : Bool) : Type 0 where
  pub no_address : is_one_of (T_UNBND ∷ T_IDLE ∷ T_INCON ∷ []) state ≡ true → peer_address ≡ None
  pub not_mid : is_one_of (T_UNBND ∷ T_IDLE ∷ T_INCON ∷ []) state ≡ true → mid_expedited ≡ false
  pub finished : is_one_of (T_UNBND ∷ T_IDLE ∷ T_INCON ∷ []) state ≡ true → (unfinished_normal ≡ 0) × (unfinished_expedited ≡ 0)
  pub unmarked : is_one_of (T_UNBND ∷ T_IDLE ∷ T_INCON ∷ []) state ≡ true → (flow_normal ≡ false) × (flow_expedited ≡ false)

-- an endpoint of datagrams is bound or not, and has no queue; any other has no datagrams
pub record OfProvider (prov : Prov) (state : State) (qlen : ℕ) (datagrams : List Datagram) (begun : Bool) (datagram_errors : List DatagramError) (flow_datagram : Option (List ℕ)) : Type 0 where
  pub alone : has_datagrams prov ≡ true → (qlen ≡ 0) × (is_one_of (T_UNBND ∷ T_IDLE ∷ []) state ≡ true)
  pub without : has_datagrams prov ≡ false → (datagrams ≡ []) × (begun ≡ false) × (datagram_errors ≡ []) × (flow_datagram ≡ None)

-- an open endpoint
pub record SoundEndpoint (e : Endpoint) : Type 0 where
  pub listening : Listening e.state e.address e.qlen e.pending e.outstanding
  pub disconnecting : Disconnecting e.state e.target e.peer e.disconnects
  pub request_fields : RequestFields e.pending e.outstanding e.last_number e.peer_address e.confirmation
  pub released : ShortRelease e.release
  pub stream_data : StreamData e.normal e.expedited e.unfinished_normal e.unfinished_expedited
  pub datagrams : WaitingDatagrams e.datagrams e.begun e.datagram_errors e.flow_datagram
  pub buffers : Buffers e.sndbuf e.rcvbuf
  pub unconnected : Unconnected e.state e.peer_address e.mid_expedited e.unfinished_normal e.unfinished_expedited e.flow_normal e.flow_expedited
  pub of_provider : OfProvider e.prov e.state e.qlen e.datagrams e.begun e.datagram_errors e.flow_datagram
