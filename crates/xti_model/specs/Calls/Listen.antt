-- listen and accept
use Rattle.std.specs.Prelude.{ℕ, ◌==◌, ◌&&◌, not, nat_lt, is_none, Bool, true, false, List, [], ◌∷◌, ◌++◌, drop, slice_get, Option, Some, None, if◌then◌else◌, bytes_eq}
use Rattle.xti_base.specs.Kinds.{same_prov}
use Rattle.xti_base.specs.declared.kinds.State.TheVariants.{T_UNBND, T_IDLE, T_INCON, T_DATAXFER}
use Rattle.xti_base.specs.declared.errno.Errno.TheVariants.{TBADF, TOUTSTATE, TBADQLEN, TQFULL, TNODATA, TPROVMISMATCH, TBADSEQ, TINDOUT, TRESQLEN, TRESADDR}
use Rattle.xti_model.specs.declared.profile.Providers.{Providers}
use Rattle.xti_model.specs.declared.entry.Outcome.TheVariants.{Done}
use Rattle.xti_model.specs.declared.entry.Reply.{Reply}
use Rattle.xti_model.specs.declared.entry.Reply.TheVariants.{Plain, Listened}
use Rattle.xti_model.specs.Provider.{profile}
use Rattle.xti_model.specs.Endpoint.{Endpoint, Indication, ocnt, address_of, find_number, without_number}
use Rattle.xti_model.specs.World.{World, Change, endpoint, at_endpoint, at_switch}
use Rattle.xti_model.specs.Switch.{give_address}
use Rattle.xti_model.specs.Events.{is_state, some_wait, looks_connecting, looks_disconnect}
use Rattle.xti_model.specs.Arguments.{bad_options, bad_udata}
use Rattle.xti_model.specs.Plan.{Row, Plan, Field, refuses, without_connections, outside, looks, not_ready, overflows, field, trimmed, plan_of, on_open}

-- nothing is meant by it
abbrev pub no_indication : Indication
no_indication = record { number = 0; caller = 0; address = []; options = []; udata = [] }

-- nothing is meant where none waits
abbrev pub indication_or : Option Indication → Indication
indication_or None = no_indication
indication_or (Some i) = i

-- indications are told in their order
abbrev pub oldest : Endpoint → Indication
oldest e = indication_or (slice_get e.pending 0)

-- what the listener is told, and how much of each it has room for
abbrev pub fields : Indication → ℕ → ℕ → ℕ → List Field
fields i amax omax umax = field i.address amax ∷ field i.options omax ∷ field i.udata umax ∷ []

-- when listen is refused, in order
abbrev pub listen_rows : ℕ → ℕ → ℕ → Endpoint → List Row
listen_rows amax omax umax e =
    without_connections e ∷
    outside (T_IDLE ∷ T_INCON ∷ []) e ∷
    refuses (e.qlen == 0) TBADQLEN ∷
    refuses (ocnt e == e.qlen) TQFULL ∷
    looks looks_disconnect e ∷
    not_ready (not (some_wait e.pending)) TNODATA ∷
    overflows (fields (oldest e) amax omax umax) ∷ []

-- the oldest pending indication is outstanding
abbrev pub listened : Endpoint → Endpoint
listened e = record e { pending = drop 1 e.pending; outstanding = e.outstanding ++ oldest e ∷ []; state = T_INCON }

-- what the listener is told
abbrev pub listen_reply : Indication → ℕ → ℕ → ℕ → Reply
listen_reply i amax omax umax = Listened (record { 0 = i.number }) (trimmed i.address amax) (trimmed i.options omax) (trimmed i.udata umax)

-- listen; with too little room for a field the number alone is told
abbrev pub listen_plan : Providers → World → ℕ → ℕ → ℕ → ℕ → Plan
listen_plan p w fd amax omax umax = on_open p w fd (λ e. record (plan_of fd e (listen_rows amax omax umax e) (at_endpoint fd listened ∷ []) (Done (listen_reply (oldest e) amax omax umax))) { lost_number = (oldest e).number })

-- whether both have an address and the addresses differ
abbrev pub is_elsewhere : Endpoint → Option (List ℕ) → Bool
is_elsewhere e None = false
is_elsewhere e (Some address) = not (bytes_eq address (address_of e))

-- the rows that speak of the responding endpoint
abbrev pub accept_rows : Providers → ℕ → ℕ → ℕ → List ℕ → List ℕ → Endpoint → Endpoint → List Row
accept_rows p fd resfd number options udata e r =
    without_connections e ∷
    outside (T_INCON ∷ []) e ∷
    refuses (not (same_prov e.prov r.prov)) TPROVMISMATCH ∷
    refuses (not (fd == resfd) && not (is_state (T_UNBND ∷ T_IDLE ∷ []) r)) TOUTSTATE ∷
    refuses (is_none (find_number number e.outstanding)) TBADSEQ ∷
    refuses ((fd == resfd) && nat_lt 1 (ocnt e)) TINDOUT ∷
    refuses (not (fd == resfd) && nat_lt 0 r.qlen) TRESQLEN ∷
    refuses ((profile p e.prov).same_addr && is_elsewhere e r.address) TRESADDR ∷
    bad_options options ∷
    bad_udata udata ∷
    looks looks_connecting e ∷ []

-- an endpoint without an address is bound to the listener's
abbrev pub bound_like : Endpoint → Endpoint → Endpoint
bound_like e r = if is_state (T_UNBND ∷ []) r then record r { address = Some (address_of e); qlen = 0 } else r

-- an endpoint without an address takes that of the listener
abbrev pub bind_like : Endpoint → ℕ → Endpoint → List Change
bind_like e resfd r = if is_state (T_UNBND ∷ []) r then at_endpoint resfd (bound_like e) ∷ at_switch (give_address r.prov (address_of e) resfd false) ∷ [] else []

-- the responding endpoint is connected with the caller
abbrev pub responding : Indication → Endpoint → Endpoint
responding i r = record r { state = T_DATAXFER; peer = Some i.caller; peer_address = Some i.address }

-- the caller is connected, and its confirmation waits
abbrev pub accepted : ℕ → List ℕ → List ℕ → List ℕ → Endpoint → Endpoint
accepted resfd address options udata c = record c {
  target = None;
  peer = Some resfd;
  peer_address = Some address;
  confirmation = Some (record { address = address; options = options; udata = udata });
}

-- the indication is taken out; where it was the last one the listener is idle
abbrev pub taken_out : ℕ → Endpoint → Endpoint
taken_out number e = record e { outstanding = without_number number e.outstanding; state = if ocnt e == 1 then T_IDLE else e.state }

-- both ends of the connection
abbrev pub linking : ℕ → Indication → List ℕ → List ℕ → List ℕ → List Change
linking resfd i address options udata = at_endpoint resfd (responding i) ∷ at_endpoint i.caller (accepted resfd address options udata) ∷ []

-- the indication is taken out, and the two are connected
abbrev pub accept_changes : ℕ → ℕ → Indication → List ℕ → List ℕ → Endpoint → Endpoint → List Change
accept_changes fd resfd i options udata e r =
    at_endpoint fd (taken_out i.number) ∷ bind_like e resfd r ++ linking resfd i (address_of (bound_like e r)) options udata

-- where the indication is not there, nothing changes, and a row refuses
abbrev pub accept_found : ℕ → ℕ → Option Indication → List ℕ → List ℕ → Endpoint → Endpoint → List Change
accept_found fd resfd None options udata e r = []
accept_found fd resfd (Some i) options udata e r = accept_changes fd resfd i options udata e r

-- accept, on the responding endpoint
abbrev pub accept_with : Providers → ℕ → ℕ → ℕ → List ℕ → List ℕ → Endpoint → Option Endpoint → Plan
accept_with p fd resfd number options udata e None = plan_of fd e (refuses true TBADF ∷ []) [] (Done Plain)
accept_with p fd resfd number options udata e (Some r) = plan_of fd e (accept_rows p fd resfd number options udata e r)
    (accept_found fd resfd (find_number number e.outstanding) options udata e r) (Done Plain)

-- accept
abbrev pub accept_plan : Providers → World → ℕ → ℕ → ℕ → List ℕ → List ℕ → Plan
accept_plan p w fd resfd number options udata = on_open p w fd (λ e. accept_with p fd resfd number options udata e (endpoint p w resfd))
