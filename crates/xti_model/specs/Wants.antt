-- What of a call its waiting depends on, and when it is blocked.
use Rattle.std.specs.Prelude.{ℕ, ◌+◌, ◌-◌, ◌==◌, ◌<◌, ◌&&◌, ◌||◌, not, Bool, true, false, List, [], ◌∷◌, length, Option, Some, None, is_none, option_and_then}
use Rattle.std.specs.List.{concat}
use Rattle.xti_base.specs.declared.errno.Errno.TheVariants.{TBADFLAG, TBADDATA, TFLOW}
use Rattle.xti_base.specs.declared.kinds.State.TheVariants.{T_IDLE}
use Rattle.xti_model.specs.declared.call.Call.{Call}
use Rattle.xti_model.specs.declared.call.Call.TheVariants as call
use Rattle.xti_model.specs.declared.entry.Go.{Go}
use Rattle.xti_model.specs.declared.entry.Go.TheVariants as go
use Rattle.xti_model.specs.declared.profile.Profile.{Profile}
use Rattle.xti_model.specs.declared.profile.Providers.{Providers}
use Rattle.xti_model.specs.Provider.{profile}
use Rattle.xti_model.specs.Endpoint.{Endpoint}
use Rattle.xti_model.specs.World.{World, endpoint, the_switch}
use Rattle.xti_model.specs.Switch.{bound}
use Rattle.xti_model.specs.Links.{linked}
use Rattle.xti_model.specs.History.{taken_before}
use Rattle.xti_model.specs.Sending.{ready_for, takes_datagram, message_limit, unfinished}
use Rattle.xti_model.specs.Events.{sending, looks_data, looks_datagrams}
use Rattle.xti_model.specs.Arguments.{bad_address, bad_options, is_too_many, is_expedited, has_other_flags}
use Rattle.xti_model.specs.Plan.{Row, Refusal, waits, first, refuses, without_connections, without_datagrams, outside, looks, not_ready}
use Rattle.xti_model.specs.Calls.Connect as Connect
use Rattle.xti_model.specs.Calls.Listen as Listen
use Rattle.xti_model.specs.Calls.Send as Send
use Rattle.xti_model.specs.Calls.Receive as Receive
use Rattle.xti_model.specs.Calls.Datagrams as Datagrams

-- the calls that may wait; a connect waits as rcvconnect does, and a vector form as the plain one
pub data WantKind : Type 0 where
  for_rcvconnect for_listen for_snd for_rcv for_sndudata for_rcvudata : WantKind

-- the call, its descriptor, the bytes that are still to be sent, the flags of a send, and the destination of a datagram
pub record Want : Type 0 where
  pub kind : WantKind
  pub fd : ℕ
  pub left : ℕ
  pub flags : ℕ
  pub to : List ℕ

-- a wait of this kind, with nothing else told
abbrev pub want : WantKind → ℕ → Want
want kind fd = record { kind = kind; fd = fd; left = 0; flags = 0; to = [] }

-- how many bytes are left, and whether they are expedited
abbrev pub want_to_send : ℕ → List ℕ → ℕ → Go → Want
want_to_send fd bytes flags g = record (want for_snd fd) { left = length bytes - taken_before g; flags = flags }

-- the first step never waits
abbrev pub want_of_connect : ℕ → Go → Option Want
want_of_connect fd go.Begin = None
want_of_connect fd (go.More n) = Some (want for_rcvconnect fd)

-- what a step of a call waits for, where the call is one that may wait
abbrev pub want_of : Call → Go → Option Want
want_of (call.TConnect fd addr opt udata amax omax umax) g = want_of_connect fd.0 g
want_of (call.TRcvConnect fd amax omax umax) g = Some (want for_rcvconnect fd.0)
want_of (call.TListen fd amax omax umax) g = Some (want for_listen fd.0)
want_of (call.TSnd fd bytes flags) g = Some (want_to_send fd.0 bytes flags g)
want_of (call.TSndV fd parts flags) g = Some (want_to_send fd.0 (concat parts) flags g)
want_of (call.TRcv fd max) g = Some (want for_rcv fd.0)
want_of (call.TRcvV fd sizes) g = Some (want for_rcv fd.0)
want_of (call.TSndUData fd addr opt bytes) g = Some (record (want for_sndudata fd.0) { left = length bytes; to = addr })
want_of (call.TSndVUData fd addr opt parts) g = Some (record (want for_sndudata fd.0) { left = length (concat parts); to = addr })
want_of (call.TRcvUData fd max amax omax) g = Some (want for_rcvudata fd.0)
want_of (call.TRcvVUData fd sizes amax omax) g = Some (want for_rcvudata fd.0)
want_of other g = None

-- the rows of a call that may wait which look at its arguments alone
abbrev pub send_arguments : ℕ → List ℕ → ℕ → List Row
send_arguments parts bytes flags = refuses (has_other_flags flags) TBADFLAG ∷ refuses (Send.is_too_much parts bytes) TBADDATA ∷ []

-- the rows on the arguments of a datagram alone
abbrev pub datagram_arguments : List ℕ → List ℕ → ℕ → List Row
datagram_arguments address options parts = bad_address address ∷ bad_options options ∷ refuses (is_too_many parts) TBADDATA ∷ []

-- the rows on a call's arguments alone
abbrev pub argument_rows : Call → List Row
argument_rows (call.TSnd fd bytes flags) = send_arguments 1 bytes flags
argument_rows (call.TSndV fd parts flags) = send_arguments (length parts) (concat parts) flags
argument_rows (call.TRcvV fd sizes) = refuses (is_too_many (length sizes)) TBADDATA ∷ []
argument_rows (call.TSndUData fd addr opt bytes) = datagram_arguments addr opt 1
argument_rows (call.TSndVUData fd addr opt parts) = datagram_arguments addr opt (length parts)
argument_rows (call.TRcvVUData fd sizes amax omax) = refuses (is_too_many (length sizes)) TBADDATA ∷ []
argument_rows other = []

-- none of them holds
abbrev pub has_good_arguments : Call → Bool
has_good_arguments c = is_none (first (argument_rows c))

-- The other rows of each kind, up to "not ready", in their order.
abbrev pub is_bad_left : Providers → ℕ → Bool → Endpoint → Bool
is_bad_left p left expedited e = ((left == 0) && not (profile p e.prov).sendzero) || Send.is_over (message_limit p e expedited) (unfinished expedited e + left)

-- the other rows of a send
abbrev pub send_rows : Providers → ℕ → ℕ → Option Endpoint → Endpoint → List Row
send_rows p left flags peer e =
    without_connections e ∷
    outside sending e ∷
    refuses (is_bad_left p left (is_expedited flags) e) TBADDATA ∷
    looks looks_data e ∷
    not_ready (not (ready_for (is_expedited flags) e peer)) TFLOW ∷ []

-- no datagram of the provider has this length
abbrev pub is_bad_length : Profile → ℕ → Bool
is_bad_length profile left = Datagrams.is_over profile.tsdu left || ((left == 0) && not profile.sendzero)

-- the other rows of a datagram's send
abbrev pub datagram_rows : Providers → ℕ → Option Endpoint → Endpoint → List Row
datagram_rows p left there e =
    without_datagrams e ∷
    outside (T_IDLE ∷ []) e ∷
    refuses (is_bad_length (profile p e.prov) left) TBADDATA ∷
    looks looks_datagrams e ∷
    not_ready (not (takes_datagram there)) TFLOW ∷ []

-- where every field is taken, none is too long; one part or size is never too many
abbrev pub want_rows : Providers → World → Want → WantKind → Endpoint → List Row
want_rows p w v for_rcvconnect e = Connect.confirm_rows 0 0 0 e
want_rows p w v for_listen e = Listen.listen_rows 0 0 0 e
want_rows p w v for_snd e = send_rows p v.left v.flags (linked p w v.fd e) e
want_rows p w v for_rcv e = Receive.rows 1 e
want_rows p w v for_sndudata e = datagram_rows p v.left (option_and_then (endpoint p w) (bound (the_switch p w) e.prov v.to)) e
want_rows p w v for_rcvudata e = Datagrams.receive_rows 1 0 0 e

-- the caller waits
abbrev pub is_waiting : Option Refusal → Bool
is_waiting (Some (waits reply)) = true
is_waiting other = false

-- nobody waits at a closed place
abbrev pub is_waiting_at : Providers → World → Want → Option Endpoint → Bool
is_waiting_at p w v None = false
is_waiting_at p w v (Some e) = not e.nonblock && is_waiting (first (want_rows p w v v.kind e))

-- whether a want is blocked: its endpoint is in blocking mode, and "not ready" is the first of its rows that holds
abbrev pub is_want_blocked : Providers → World → Want → Bool
is_want_blocked p w v = is_waiting_at p w v (endpoint p w v.fd)

-- a send that goes on has bytes left
abbrev pub HasLeft : Call → Go → Type 0
HasLeft (call.TSnd fd bytes flags) (go.More n) = n < length bytes
HasLeft (call.TSndV fd parts flags) (go.More n) = n < length (concat parts)
HasLeft other g = Unit
