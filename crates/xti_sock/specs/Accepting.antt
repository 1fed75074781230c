-- The script of accept.
use Rattle.std.specs.Prelude.{ℕ, zero, suc, Bool, false, List, [], ◌∷◌, ◌++◌, drop, Option, Some, None, Ok, Err}
use Rattle.xti_base.specs.declared.kinds.Fd.{Fd}
use Rattle.xti_base.specs.declared.kinds.Prov.TheVariants.{Ticotsord}
use Rattle.xti_base.specs.declared.kinds.Seq.{Seq}
use Rattle.xti_model.specs.declared.call.Call.TheVariants.{TOpen, TListen, TAccept, TRcvDis}
use Rattle.xti_sock.specs.declared.fail.SockFail.TheVariants.{Again}
use Rattle.xti_sock.specs.declared.heard.Heard.{Heard}
use Rattle.xti_sock.specs.declared.heard.Heard.TheVariants.{Done, Opened, Listened, Broken, Disconnect, Listen}
use Rattle.xti_sock.specs.declared.limits.TheConstants.{MOST_TURNS}
use Rattle.xti_sock.specs.declared.phase.Phase.{Phase}
use Rattle.xti_sock.specs.declared.phase.Phase.TheVariants as phase
use Rattle.xti_sock.specs.declared.sock.Sock.{Sock}
use Rattle.xti_sock.specs.Keeping.{oldest, without}
use Rattle.xti_sock.specs.Scripts.{Script, gives, asks, socket}
use Rattle.xti_sock.specs.Rows.{stops, wrong}

-- the listener, with the numbers that it keeps and its spare descriptor
abbrev pub listener : Fd → List Seq → Option Fd → Sock
listener fd kept spare = record { fd = fd; phase = phase.Listening kept spare }

-- a socket that is connected at this descriptor
abbrev pub open_sock : Fd → Sock
open_sock fd = record { fd = fd; phase = phase.Open false false }

-- how it goes on with other numbers and another spare descriptor
abbrev pub Next : Type 0
Next = List Seq → Option Fd → Script

-- rcvdis, after TLOOK by T_DISCONNECT: that number is forgotten, and it begins again
abbrev pub on_forget : Next → Fd → List Seq → Option Fd → Heard → Script
on_forget again fd kept spare (Broken reason seq) = again (without seq kept) spare
on_forget again fd kept spare h = stops h (listener fd kept spare)

abbrev pub forget : Next → Fd → List Seq → Option Fd → Script
forget again fd kept spare = asks (TRcvDis fd 0) (on_forget again fd kept spare)

-- one more request is taken, and kept as the newest
abbrev pub on_take : Next → Fd → List Seq → Option Fd → Heard → Script
on_take again fd kept spare (Listened seq) = again (kept ++ seq ∷ []) spare
on_take again fd kept spare Disconnect = forget again fd kept spare
on_take again fd kept spare h = stops h (listener fd kept spare)

abbrev pub take : Next → Fd → List Seq → Option Fd → Script
take again fd kept spare = asks (TListen fd 0 0 0) (on_take again fd kept spare)

-- the oldest is accepted at the spare descriptor
abbrev pub on_accept : Next → Fd → List Seq → Fd → Heard → Script
on_accept again fd kept resfd Done = gives (Ok (socket (open_sock resfd))) (listener fd (drop 1 kept) None)
on_accept again fd kept resfd Listen = take again fd kept (Some resfd)
on_accept again fd kept resfd Disconnect = forget again fd kept (Some resfd)
on_accept again fd kept resfd h = stops h (listener fd kept (Some resfd))

abbrev pub accept_at : Next → Fd → Seq → List Seq → Fd → Script
accept_at again fd seq kept resfd = asks (TAccept fd resfd seq [] []) (on_accept again fd kept resfd)

-- a spare descriptor is opened where there is none
abbrev pub on_spare : Next → Fd → Seq → List Seq → Heard → Script
on_spare again fd seq kept (Opened resfd) = accept_at again fd seq kept resfd
on_spare again fd seq kept h = stops h (listener fd kept None)

abbrev pub serve_one : Next → Bool → Fd → Seq → List Seq → Option Fd → Script
serve_one again nonblock fd seq kept None = asks (TOpen Ticotsord nonblock) (on_spare again fd seq kept)
serve_one again nonblock fd seq kept (Some resfd) = accept_at again fd seq kept resfd

-- the oldest is accepted, where there is one
abbrev pub serve_oldest : Option Seq → Next → Bool → Fd → List Seq → Option Fd → Script
serve_oldest None again nonblock fd kept spare = again kept spare
serve_oldest (Some seq) again nonblock fd kept spare = serve_one again nonblock fd seq kept spare

abbrev pub serve : Next → Bool → Fd → List Seq → Option Fd → Script
serve again nonblock fd kept spare = serve_oldest (oldest kept) again nonblock fd kept spare

-- it listens where it keeps no number
abbrev pub turn_by : Option Seq → Next → Bool → Fd → List Seq → Option Fd → Script
turn_by None again nonblock fd kept spare = take (serve again nonblock fd) fd kept spare
turn_by (Some seq) again nonblock fd kept spare = serve_one again nonblock fd seq kept spare

abbrev pub turn : Next → Bool → Fd → List Seq → Option Fd → Script
turn again nonblock fd kept spare = turn_by (oldest kept) again nonblock fd kept spare

-- with so many turns left
unfoldable pub accept_turns : ℕ → Bool → Fd → Next
accept_turns zero nonblock fd kept spare = gives (Err (Again MOST_TURNS)) (listener fd kept spare)
accept_turns (suc n) nonblock fd kept spare = turn (accept_turns n nonblock fd) nonblock fd kept spare

abbrev pub accept_in : Phase → Bool → Sock → Script
accept_in (phase.Listening kept spare) nonblock s = accept_turns MOST_TURNS nonblock s.fd kept spare
accept_in other nonblock s = wrong s

abbrev pub accept : Sock → Bool → Script
accept s nonblock = accept_in s.phase nonblock s
