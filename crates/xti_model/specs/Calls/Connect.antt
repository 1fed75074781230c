-- connect, its second step, and rcvconnect
use Rattle.std.specs.Prelude.{ℕ, ◌+◌, ◌==◌, ◌||◌, not, is_none, Bool, List, [], ◌∷◌, ◌++◌, length, option_map, Option, Some, None, if◌then◌else◌}
use Rattle.xti_base.specs.declared.reasons.TheConstants.{NO_LISTENER, QUEUE_FULL}
use Rattle.xti_base.specs.declared.limits.TheConstants.{LAST_SEQUENCE}
use Rattle.xti_base.specs.declared.kinds.State.TheVariants.{T_IDLE, T_OUTCON, T_INCON, T_DATAXFER}
use Rattle.xti_base.specs.declared.errno.Errno.TheVariants.{TNODATA}
use Rattle.xti_model.specs.declared.profile.Providers.{Providers}
use Rattle.xti_model.specs.declared.entry.Outcome.{Outcome}
use Rattle.xti_model.specs.declared.entry.Outcome.TheVariants.{Done, Part}
use Rattle.xti_model.specs.declared.entry.Reply.{Reply}
use Rattle.xti_model.specs.declared.entry.Reply.TheVariants.{Refused, Connected}
use Rattle.xti_model.specs.Endpoint.{Endpoint, Confirmation, in_state, disconnected, ocnt, address_of}
use Rattle.xti_model.specs.World.{World, Change, endpoint, the_switch, at_endpoint}
use Rattle.xti_model.specs.Switch.{listener}
use Rattle.xti_model.specs.Events.{is_state, looks_connecting, looks_disconnect}
use Rattle.xti_model.specs.Arguments.{bad_address, bad_options, bad_udata}
use Rattle.xti_model.specs.Plan.{Row, Plan, Field, without_connections, outside, looks, not_ready, overflows, field, trimmed, plan_of, on_open}

-- when connect is refused, in order
abbrev pub rows : List ℕ → List ℕ → List ℕ → Endpoint → List Row
rows address options udata e =
    without_connections e ∷
    outside (T_IDLE ∷ []) e ∷
    bad_address address ∷
    bad_options options ∷
    bad_udata udata ∷
    looks looks_connecting e ∷ []

-- whether the listener's queue is full, or its numbers are used up
abbrev pub is_full : Endpoint → Bool
is_full l = (length l.pending + ocnt l == l.qlen) || (l.last_number == LAST_SEQUENCE)

-- only in T_IDLE and T_INCON does a listener take requests
abbrev pub is_listening : Endpoint → Bool
is_listening l = is_state (T_IDLE ∷ T_INCON ∷ []) l

-- an indication with the next number is pending
abbrev pub asked : ℕ → List ℕ → List ℕ → List ℕ → Endpoint → Endpoint
asked caller address options udata l = record l {
  last_number = l.last_number + 1;
  pending = l.pending ++ record { number = l.last_number + 1; caller = caller; address = address; options = options; udata = udata } ∷ [];
}

-- the caller has its target
abbrev pub asking : ℕ → ℕ → Endpoint → Endpoint
asking listener number e = record e { state = T_OUTCON; target = Some (record { listener = listener; number = number }) }

-- the caller has a disconnect with the reason in place of a target
abbrev pub turned_away : ℕ → Endpoint → Endpoint
turned_away reason e = in_state T_OUTCON (disconnected reason 0 [] e)

-- the request reaches an endpoint that is open
abbrev pub reach : ℕ → ℕ → List ℕ → List ℕ → Endpoint → Endpoint → List Change
reach fd l options udata e le =
    if not (is_listening le) then at_endpoint fd (turned_away NO_LISTENER) ∷ [] else
    if is_full le then at_endpoint fd (turned_away QUEUE_FULL) ∷ [] else
    at_endpoint l (asked fd (address_of e) options udata) ∷ at_endpoint fd (asking l (le.last_number + 1)) ∷ []

-- the listener, and the endpoint that is open there
pub record Found : Type 0 where
  pub fd : ℕ
  pub endpoint : Endpoint

-- with nobody at the address, the request is answered by a disconnect
abbrev pub request : ℕ → List ℕ → List ℕ → Endpoint → Option Found → List Change
request fd options udata e None = at_endpoint fd (turned_away NO_LISTENER) ∷ []
request fd options udata e (Some l) = reach fd l.fd options udata e l.endpoint

-- the endpoint of that descriptor, if it is open
abbrev pub found_at : Providers → World → Option ℕ → Option Found
found_at p w None = None
found_at p w (Some l) = option_map (λ e. record { fd = l; endpoint = e }) (endpoint p w l)

-- the listener at the address, which is never the caller itself
abbrev pub found : Providers → World → ℕ → List ℕ → Endpoint → Option Found
found p w fd address e = found_at p w (listener (the_switch p w) e.prov address fd)

-- a caller that waits goes on with a second step
abbrev pub outcome : Endpoint → Outcome
outcome e = if e.nonblock then Done (Refused TNODATA) else Part 0

-- connect, with what was found at the address
abbrev pub plan_to : ℕ → List ℕ → List ℕ → List ℕ → Endpoint → Option Found → Plan
plan_to fd address options udata e l = plan_of fd e (rows address options udata e) (request fd options udata e l) (outcome e)

-- the first step of connect
abbrev pub plan : Providers → World → ℕ → List ℕ → List ℕ → List ℕ → Plan
plan p w fd address options udata = on_open p w fd (λ e. plan_to fd address options udata e (found p w fd address e))

-- the confirmation, or an empty one
abbrev pub confirmation_or : Option Confirmation → Confirmation
confirmation_or None = record { address = []; options = []; udata = [] }
confirmation_or (Some c) = c

-- what the caller is told, and how much of each it has room for
abbrev pub fields : Confirmation → ℕ → ℕ → ℕ → List Field
fields c amax omax umax = field c.address amax ∷ field c.options omax ∷ field c.udata umax ∷ []

-- when rcvconnect is refused, in order
abbrev pub confirm_rows : ℕ → ℕ → ℕ → Endpoint → List Row
confirm_rows amax omax umax e =
    without_connections e ∷
    outside (T_OUTCON ∷ []) e ∷
    looks looks_disconnect e ∷
    not_ready (is_none e.confirmation) TNODATA ∷
    overflows (fields (confirmation_or e.confirmation) amax omax umax) ∷ []

-- the confirmation is taken
abbrev pub confirmed : Endpoint → Endpoint
confirmed e = record e { confirmation = None; state = T_DATAXFER }

-- what the caller is told
abbrev pub connected : Confirmation → ℕ → ℕ → ℕ → Reply
connected c amax omax umax = Connected (trimmed c.address amax) (trimmed c.options omax) (trimmed c.udata umax)

-- rcvconnect, and the second step of connect
abbrev pub confirm_plan : Providers → World → ℕ → ℕ → ℕ → ℕ → Plan
confirm_plan p w fd amax omax umax = on_open p w fd (λ e. plan_of fd e (confirm_rows amax omax umax e) (at_endpoint fd confirmed ∷ []) (Done (connected (confirmation_or e.confirmation) amax omax umax)))
