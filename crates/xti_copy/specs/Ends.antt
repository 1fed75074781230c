-- The sockets of a copy, and the parts of its entries.
use Rattle.std.specs.Prelude.{◌≡◌, Bool, true, false, List, [], ◌∷◌, ◌++◌, None, take, drop, if◌then◌else◌}
use Rattle.xti_base.specs.declared.kinds.Event.TheVariants.{T_ORDREL}
use Rattle.xti_base.specs.declared.kinds.Fd.{Fd}
use Rattle.xti_base.specs.declared.kinds.State.TheVariants.{T_DATAXFER, T_IDLE, T_INREL, T_OUTREL}
use Rattle.xti_model.specs.declared.call.Call.TheVariants as call
use Rattle.xti_model.specs.declared.entry.Entry.{Entry}
use Rattle.xti_model.specs.declared.entry.Reply.TheVariants as reply
use Rattle.xti_laws_streams.specs.Copying.{answered, before, ending, listener, client, receiver}
use Rattle.xti_laws_streams.specs.declared.copies.TheConstants.{PIECE}
use Rattle.xti_sock.specs.declared.phase.Phase.TheVariants.{Connecting, Open}
use Rattle.xti_sock.specs.declared.sock.Sock.{Sock}
use Rattle.xti_sock.specs.Accepting.{listener as listener_with, open_sock}
use Rattle.xti_sock.specs.Rows.{new_sock}
use Rattle.xti_sock.specs.Socks.{IsInStep, has_ended, in_phase, taking_release, was_released}
use Rattle.xti_copy.specs.declared.connecting.Ends.{Ends}
use Rattle.xti_copy.specs.Going.{Comes, IsAt}
use Rattle.xti_copy.specs.Rides.{Ride}

-- ---- the parts of the entries

-- those of the listener, of the client until it has asked, and of both until they are connected
abbrev pub listening : List Entry
listening = take 2 before

abbrev pub asking : List Entry
asking = take 3 (drop 2 before)

abbrev pub accepting : List Entry
accepting = drop 5 before

-- the release of one end, which the other takes; the last of two, or the first
abbrev pub releasing : Bool → Fd → Fd → List Entry
releasing last one other =
    answered (call.TSndRel one) reply.Plain (if last then T_IDLE else T_OUTREL) ∷
    answered (call.TRcv other PIECE) (reply.Look T_ORDREL) (if last then T_OUTREL else T_DATAXFER) ∷
    answered (taking_release other) reply.Plain (if last then T_IDLE else T_INREL) ∷
    []

-- the closes
abbrev pub closing : List Entry
closing = drop 6 ending

-- ---- the sockets

abbrev pub listening_sock : Sock
listening_sock = listener_with listener [] None

abbrev pub asking_sock : Sock
asking_sock = in_phase (new_sock client) Connecting

abbrev pub client_sock : Sock
client_sock = open_sock client

abbrev pub receiver_sock : Sock
receiver_sock = open_sock receiver

abbrev pub ends : Sock → Sock → Ends
ends c r = record { listener = listening_sock; client = c; receiver = r }

-- both are connected
abbrev pub connected : Ends
connected = ends client_sock receiver_sock

-- each has released it, and taken the other's release
abbrev pub released : Ends
released = ends (in_phase client_sock (Open true true)) (in_phase receiver_sock (Open true true))

-- each socket is in step with the entries
pub record AreInStep (e : Ends) (mine : List Entry) : Type 0 where
  pub listener : IsInStep e.listener mine
  pub client : IsInStep e.client mine
  pub receiver : IsInStep e.receiver mine

-- one end may release the connection, and the other take that, as the entries go on
pub record MayRelease (s k : Sock) (mine : List Entry) : Type 0 where
  pub one : s ≡ in_phase s (Open false (has_ended s.phase))
  pub other : k ≡ in_phase k (Open (has_ended s.phase) false)
  pub apart : was_released s.fd (releasing (has_ended s.phase) s.fd k.fd) ≡ false
  pub one_step : IsInStep s mine
  pub other_step : IsInStep k mine
  pub comes : Comes mine (releasing (has_ended s.phase) s.fd k.fd)

-- the one has released it, the other has taken that, and those entries were made
pub record HasReleased (s k s' k' : Sock) (mine : List Entry) (r : Ride) : Type 0 where
  pub one : s' ≡ in_phase s (Open true (has_ended s.phase))
  pub other : k' ≡ in_phase k (Open (has_ended s.phase) true)
  pub one_step : IsInStep s' r.entries
  pub other_step : IsInStep k' r.entries
  pub at : IsAt (mine ++ releasing (has_ended s.phase) s.fd k.fd) r
