-- The script of each socket call.
use Rattle.std.specs.Prelude.{ℕ, zero, suc, Bool, true, false, List, [], ◌≡◌, None, Result, Ok, Err, if◌then◌else◌}
use Rattle.xti_base.specs.declared.errno.Errno.{Errno}
use Rattle.xti_base.specs.declared.errno.Errno.TheVariants.{TFLOW, TLOOK, TPROTO}
use Rattle.xti_base.specs.declared.kinds.Fd.{Fd}
use Rattle.xti_base.specs.declared.kinds.Prov.TheVariants.{Ticotsord}
use Rattle.xti_sock.specs.Sights.{Sight}
use Rattle.xti_model.specs.declared.call.Call.TheVariants.{TOpen, TClose, TBind, TConnect, TRcvConnect, TSnd, TRcv, TRcvDis, TSndRel}
use Rattle.xti_sock.specs.declared.fail.SockFail.{SockFail}
use Rattle.xti_sock.specs.declared.fail.SockFail.TheVariants.{Reset, WouldBlock, Xti, WrongPhase, Again, Ended as EndedBy}
use Rattle.xti_sock.specs.declared.heard.Heard.{Heard}
use Rattle.xti_sock.specs.declared.heard.Heard.TheVariants.{Done, Bound, Connected, Opened, Sent, Got, Urgent, Broken, Disconnect, Release, Listen, Waits, Refused, Ended}
use Rattle.xti_sock.specs.declared.phase.Phase.{Phase}
use Rattle.xti_sock.specs.declared.phase.Phase.TheVariants as phase
use Rattle.xti_sock.specs.declared.sock.Sock.{Sock}
use Rattle.xti_sock.specs.Socks.{in_phase, taking_release}
use Rattle.xti_sock.specs.declared.limits.TheConstants.{MOST_TURNS}
use Rattle.xti_sock.specs.Scripts.{Asked, Script, gives, asks, nothing, count, octets}

-- ---- what the rows share

-- what it is to the caller of a socket that a call is refused so
abbrev pub fail_by : Errno → SockFail
fail_by TFLOW = WouldBlock
fail_by errno = Xti errno

-- why a socket call ends that has no rule for what it heard; what isn't an error never comes there
abbrev pub fail_of : Heard → SockFail
fail_of Waits = WouldBlock
fail_of (Refused errno) = fail_by errno
fail_of Disconnect = Xti TLOOK
fail_of Release = Xti TLOOK
fail_of Listen = Xti TLOOK
fail_of (Ended e) = EndedBy e
fail_of other = Xti TPROTO

-- a socket whose call stopped half way is of no more use
abbrev pub sock_after : Heard → Sock → Sock
sock_after (Ended e) s = in_phase s phase.Dead
sock_after other s = s

-- what no rule names ends the call
abbrev pub stops : Heard → Sock → Script
stops h s = gives (Err (fail_of h)) (sock_after h s)

abbrev pub wrong : Sock → Script
wrong s = gives (Err WrongPhase) s

-- rcvdis, after TLOOK by T_DISCONNECT
abbrev pub on_disconnect : Sock → Heard → Script
on_disconnect s (Broken reason seq) = gives (Err (Reset reason)) (in_phase s phase.Failed)
on_disconnect s other = stops other s

abbrev pub reset : Sock → Script
reset s = asks (TRcvDis s.fd 0) (on_disconnect s)

-- the input of an open socket has ended
abbrev pub ended_in : Phase → Phase
ended_in (phase.Open shut ended) = phase.Open shut true
ended_in other = other

abbrev pub with_end : Sock → Sock
with_end s = in_phase s (ended_in s.phase)

-- the release is taken, after TLOOK by T_ORDREL
abbrev pub on_release : Script → Sock → Heard → Script
on_release next s Done = next
on_release next s other = stops other s

abbrev pub release : Script → Sock → Script
release next s = asks (taking_release s.fd) (on_release next s)

-- ---- send

-- once more, after a release
abbrev pub on_send_again : Sock → Heard → Script
on_send_again s (Sent n) = gives (Ok (count n)) s
on_send_again s Disconnect = reset s
on_send_again s other = stops other s

abbrev pub send_again : List ℕ → Sock → Script
send_again bytes s = asks (TSnd s.fd bytes 0) (on_send_again s)

abbrev pub on_send : List ℕ → Sock → Heard → Script
on_send bytes s (Sent n) = gives (Ok (count n)) s
on_send bytes s Disconnect = reset s
on_send bytes s Release = release (send_again bytes (with_end s)) s
on_send bytes s other = stops other s

abbrev pub send_made : List ℕ → Sock → Script
send_made bytes s = asks (TSnd s.fd bytes 0) (on_send bytes s)

abbrev pub send_in : Phase → List ℕ → Sock → Script
send_in (phase.Open false ended) bytes s = send_made bytes s
send_in other bytes s = wrong s

abbrev pub send : Sock → List ℕ → Script
send s bytes = send_in s.phase bytes s

-- ---- recv

abbrev pub on_recv : Script → Sock → Heard → Script
on_recv again s (Got bytes) = gives (Ok (octets bytes)) s
on_recv again s Urgent = again
on_recv again s Disconnect = reset s
on_recv again s Release = release (gives (Ok (octets [])) (with_end s)) s
on_recv again s other = stops other s

abbrev pub recv_turn : Sock → ℕ → Script → Script
recv_turn s max again = asks (TRcv s.fd max) (on_recv again s)

-- with so many turns left
unfoldable pub recv_turns : ℕ → Sock → ℕ → Script
recv_turns zero s max = gives (Err (Again MOST_TURNS)) s
recv_turns (suc n) s max = recv_turn s max (recv_turns n s max)

abbrev pub recv_in : Phase → Sock → ℕ → Script
recv_in (phase.Open shut false) s max = recv_turns MOST_TURNS s max
recv_in (phase.Open shut true) s max = gives (Ok (octets [])) s
recv_in other s max = wrong s

abbrev pub recv : Sock → ℕ → Script
recv s max = recv_in s.phase s max

-- ---- socket

abbrev pub new_sock : Fd → Sock
new_sock fd = record { fd = fd; phase = phase.New }

abbrev pub opened : Heard → Result Sock SockFail
opened (Opened fd) = Ok (new_sock fd)
opened h = Err (fail_of h)

-- one endpoint of ticotsord was opened; no socket is there before
pub record OpensOne (nonblock : Bool) (s t : Sight) (result : Result Sock SockFail) : Type 0 where
  pub heard : Heard
  pub asked : Asked s (TOpen Ticotsord nonblock) heard t
  pub result_is : result ≡ opened heard

-- ---- bind

abbrev pub bind_in : Phase → List ℕ → Sock → Script
bind_in phase.New address s = gives (Ok nothing) (in_phase s (phase.Named address false))
bind_in other address s = wrong s

abbrev pub bind : Sock → List ℕ → Script
bind s address = bind_in s.phase address s

-- ---- listen

abbrev pub on_listen : Sock → Heard → Script
on_listen s Bound = gives (Ok nothing) (in_phase s (phase.Listening [] None))
on_listen s h = stops h s

abbrev pub listen_in : Phase → ℕ → Sock → Script
listen_in (phase.Named address bound) backlog s = asks (TBind s.fd address backlog 0) (on_listen s)
listen_in other backlog s = wrong s

abbrev pub listen : Sock → ℕ → Script
listen s backlog = listen_in s.phase backlog s

-- ---- connect and finish

abbrev pub connected : Sock → Sock
connected s = in_phase s (phase.Open false false)

abbrev pub on_connect : Sock → Heard → Script
on_connect s Connected = gives (Ok nothing) (connected s)
on_connect s Waits = gives (Err WouldBlock) (in_phase s phase.Connecting)
on_connect s Disconnect = reset s
on_connect s h = stops h s

abbrev pub request : List ℕ → Sock → Script
request to s = asks (TConnect s.fd to [] [] 0 0 0) (on_connect s)

abbrev pub on_bound : Script → Sock → Heard → Script
on_bound next s Bound = next
on_bound next s h = stops h s

-- its endpoint is bound
abbrev pub bound_in : Phase → Phase
bound_in phase.New = phase.Named [] true
bound_in (phase.Named address bound) = phase.Named address true
bound_in other = other

-- bound to this address, and then no second time
abbrev pub bound_request : List ℕ → List ℕ → Sock → Script
bound_request address to s = asks (TBind s.fd address 0 0) (on_bound (request to (in_phase s (bound_in s.phase))) s)

-- a new socket, or one that has an address
abbrev pub may_connect : Phase → Bool
may_connect phase.New = true
may_connect (phase.Named address bound) = true
may_connect other = false

abbrev pub connect_in : Phase → List ℕ → Sock → Script
connect_in phase.New to s = bound_request [] to s
connect_in (phase.Named address false) to s = bound_request address to s
connect_in (phase.Named address true) to s = request to s
connect_in other to s = wrong s

abbrev pub connect : Sock → List ℕ → Script
connect s to = connect_in s.phase to s

abbrev pub on_finish : Sock → Heard → Script
on_finish s Connected = gives (Ok nothing) (connected s)
on_finish s Disconnect = reset s
on_finish s h = stops h s

abbrev pub finish_in : Phase → Sock → Script
finish_in phase.Connecting s = asks (TRcvConnect s.fd 0 0 0) (on_finish s)
finish_in other s = wrong s

abbrev pub finish : Sock → Script
finish s = finish_in s.phase s

-- ---- shutdown and close

abbrev pub shut_in : Phase → Phase
shut_in (phase.Open shut ended) = phase.Open true ended
shut_in other = other

abbrev pub on_shutdown : Sock → Heard → Script
on_shutdown s Done = gives (Ok nothing) (in_phase s (shut_in s.phase))
on_shutdown s Disconnect = reset s
on_shutdown s h = stops h s

abbrev pub shutdown_in : Phase → Sock → Script
shutdown_in (phase.Open false ended) s = asks (TSndRel s.fd) (on_shutdown s)
shutdown_in other s = wrong s

abbrev pub shutdown : Sock → Script
shutdown s = shutdown_in s.phase s

abbrev pub on_close : Sock → Heard → Script
on_close s Done = gives (Ok nothing) (in_phase s phase.Dead)
on_close s h = stops h s

abbrev pub is_dead : Phase → Bool
is_dead phase.Dead = true
is_dead other = false

abbrev pub close : Sock → Script
close s = if is_dead s.phase then wrong s else asks (TClose s.fd) (on_close s)
