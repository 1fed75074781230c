-- snddis and rcvdis
use Rattle.std.specs.Prelude.{ℕ, ◌&&◌, not, is_none, Bool, List, [], ◌∷◌, ◌++◌, drop, slice_get, Option, Some, None, if◌then◌else◌}
use Rattle.xti_base.specs.declared.reasons.TheConstants.{REJECTED, ABORTED}
use Rattle.xti_base.specs.declared.kinds.State.TheVariants.{T_IDLE, T_INCON}
use Rattle.xti_base.specs.declared.errno.Errno.TheVariants.{TBADSEQ, TNODIS}
use Rattle.xti_model.specs.declared.profile.Providers.{Providers}
use Rattle.xti_model.specs.declared.entry.Outcome.TheVariants.{Done}
use Rattle.xti_model.specs.declared.entry.Reply.{Reply}
use Rattle.xti_model.specs.declared.entry.Reply.TheVariants.{Plain, Discon}
use Rattle.xti_model.specs.Endpoint.{Endpoint, Indication, Disconnect, in_state, reset, disconnected, find_number}
use Rattle.xti_model.specs.World.{World, Change, at_endpoint}
use Rattle.xti_model.specs.Links.{break}
use Rattle.xti_model.specs.Events.{is_state, some_wait, connected_or_asking, looks_disconnect}
use Rattle.xti_model.specs.Arguments.{bad_udata}
use Rattle.xti_model.specs.Plan.{Row, Plan, refuses, without_connections, outside, looks, overflows, field, trimmed, plan_of, on_open}
use Rattle.xti_model.specs.Calls.Listen.{taken_out}

-- a listener with requests that wait for its answer
abbrev pub is_asked : Endpoint → Bool
is_asked e = is_state (T_INCON ∷ []) e

-- when snddis is refused, in order
abbrev pub send_rows : ℕ → List ℕ → Endpoint → List Row
send_rows number udata e =
    without_connections e ∷
    outside connected_or_asking e ∷
    refuses (is_asked e && is_none (find_number number e.outstanding)) TBADSEQ ∷
    bad_udata udata ∷
    looks looks_disconnect e ∷ []

-- the caller hears that its request was rejected
abbrev pub rejected : List ℕ → Endpoint → Endpoint
rejected udata c = record (disconnected REJECTED 0 udata c) { target = None }

-- the indication is taken out, and its caller is told
abbrev pub reject : ℕ → List ℕ → Option Indication → List Change
reject fd udata None = []
reject fd udata (Some i) = at_endpoint fd (taken_out i.number) ∷ at_endpoint i.caller (rejected udata) ∷ []

-- all of the connection is cleared
abbrev pub idle : Endpoint → Endpoint
idle e = in_state T_IDLE (reset e)

-- a request is rejected, or the connection is broken
abbrev pub send_changes : ℕ → ℕ → List ℕ → Endpoint → List Change
send_changes fd number udata e =
    if is_asked e then reject fd udata (find_number number e.outstanding) else break fd e ABORTED udata ++ at_endpoint fd idle ∷ []

-- snddis
abbrev pub send_plan : Providers → World → ℕ → ℕ → List ℕ → Plan
send_plan p w fd number udata = on_open p w fd (λ e. plan_of fd e (send_rows number udata e) (send_changes fd number udata e) (Done Plain))

-- nothing is meant where none waits
abbrev pub disconnect_or : Option Disconnect → Disconnect
disconnect_or None = record { reason = 0; number = 0; udata = [] }
disconnect_or (Some d) = d

-- disconnects are told in their order
abbrev pub oldest : Endpoint → Disconnect
oldest e = disconnect_or (slice_get e.disconnects 0)

-- when rcvdis is refused, in order
abbrev pub receive_rows : ℕ → Endpoint → List Row
receive_rows umax e =
    without_connections e ∷
    outside connected_or_asking e ∷
    refuses (not (some_wait e.disconnects)) TNODIS ∷
    overflows (field (oldest e).udata umax ∷ []) ∷ []

-- the oldest disconnect is taken; a listener loses its indication, and others what is left of the connection
abbrev pub received : Endpoint → Endpoint
received e = if is_asked e then record (taken_out (oldest e).number e) { disconnects = drop 1 e.disconnects } else idle e

-- what the caller is told
abbrev pub receive_reply : Disconnect → ℕ → Reply
receive_reply d umax = Discon d.reason (record { 0 = d.number }) (trimmed d.udata umax)

-- rcvdis
abbrev pub receive_plan : Providers → World → ℕ → ℕ → Plan
receive_plan p w fd umax = on_open p w fd (λ e. plan_of fd e (receive_rows umax e) (at_endpoint fd received ∷ []) (Done (receive_reply (oldest e) umax)))
