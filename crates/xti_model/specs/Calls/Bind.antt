-- bind and unbind
use Rattle.std.specs.Prelude.{ℕ, ◌&&◌, nat_lt, min, false, Bool, List, [], ◌∷◌, length, Some, None, is_some, if◌then◌else◌}
use Rattle.xti_base.specs.declared.limits.TheConstants.{MOST_QUEUE, MOST_ADDRESS}
use Rattle.xti_base.specs.declared.kinds.Prov.{Prov}
use Rattle.xti_base.specs.declared.kinds.State.TheVariants.{T_UNBND, T_IDLE}
use Rattle.xti_base.specs.declared.errno.Errno.TheVariants.{TBADADDR, TADDRBUSY}
use Rattle.xti_model.specs.declared.profile.Providers.{Providers}
use Rattle.xti_model.specs.declared.entry.Outcome.TheVariants.{Done}
use Rattle.xti_model.specs.declared.entry.Reply.{Reply}
use Rattle.xti_model.specs.declared.entry.Reply.TheVariants.{Plain, Bound}
use Rattle.xti_model.specs.Provider.{has_datagrams}
use Rattle.xti_model.specs.Endpoint.{Endpoint}
use Rattle.xti_model.specs.World.{World, Change, Switch, the_switch, at_endpoint, at_switch}
use Rattle.xti_model.specs.Switch.{bound, has_listener, chosen, give_address, give_up_address}
use Rattle.xti_model.specs.Events.{looks_unbind}
use Rattle.xti_model.specs.Plan.{Row, Plan, refuses, outside, looks, overflows, field, trimmed, plan_of, on_open}

-- an address is given once among datagram endpoints, and to one listener among the others
abbrev pub is_busy : Switch → Prov → List ℕ → ℕ → Bool
is_busy s prov address qlen =
    if has_datagrams prov then is_some (bound s prov address) else (nat_lt 0 qlen && has_listener s prov address)

-- the queue that is given: at most MOST_QUEUE indications, and none where there are no connections
abbrev pub queue : Prov → ℕ → ℕ
queue prov qlen = if has_datagrams prov then 0 else min qlen MOST_QUEUE

-- when bind is refused, in order
abbrev pub rows : Switch → List ℕ → ℕ → ℕ → Endpoint → List Row
rows s address qlen amax e =
    outside (T_UNBND ∷ []) e ∷
    refuses (nat_lt MOST_ADDRESS (length address)) TBADADDR ∷
    refuses (is_busy s e.prov address qlen) TADDRBUSY ∷
    overflows (field (chosen s e.prov address) amax ∷ []) ∷ []

-- the endpoint has the address and the queue
abbrev pub bound_to : List ℕ → ℕ → Endpoint → Endpoint
bound_to address qlen e = record e { state = T_IDLE; address = Some address; qlen = qlen }

-- the endpoint and the switch are changed together
abbrev pub changes : ℕ → Prov → List ℕ → ℕ → List Change
changes fd prov address qlen = at_endpoint fd (bound_to address qlen) ∷ at_switch (give_address prov address fd (nat_lt 0 qlen)) ∷ []

-- the address that was given, and the queue
abbrev pub reply : List ℕ → ℕ → ℕ → Reply
reply address qlen amax = Bound (trimmed address amax) qlen

-- with the address and the queue that are given
abbrev pub bind_plan : ℕ → List Row → List ℕ → ℕ → ℕ → Endpoint → Plan
bind_plan fd rows address qlen amax e = plan_of fd e rows (changes fd e.prov address qlen) (Done (reply address qlen amax))

-- with the address that the caller asks for, or one of the provider's own choice
abbrev pub plan_in : Switch → ℕ → List ℕ → ℕ → ℕ → Endpoint → Plan
plan_in s fd address qlen amax e = bind_plan fd (rows s address qlen amax e) (chosen s e.prov address) (queue e.prov qlen) amax e

-- bind
abbrev pub plan : Providers → World → ℕ → List ℕ → ℕ → ℕ → Plan
plan p w fd address qlen amax = on_open p w fd (plan_in (the_switch p w) fd address qlen amax)

-- what waited for an address is gone
abbrev pub unbound : Endpoint → Endpoint
unbound e = record e { state = T_UNBND; address = None; qlen = 0; datagram_errors = []; flow_normal = false; flow_expedited = false; flow_datagram = None }

-- unbind
abbrev pub unbind_plan : Providers → World → ℕ → Plan
unbind_plan p w fd = on_open p w fd (λ e. plan_of fd e (outside (T_IDLE ∷ []) e ∷ looks looks_unbind e ∷ [])
    (at_endpoint fd unbound ∷ at_switch (give_up_address fd) ∷ []) (Done Plain))
