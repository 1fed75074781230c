-- The calls that show, and those that set options and the mode.
use Rattle.std.specs.Prelude.{ℕ, ◌||◌, not, nat_lt, Bool, false, List, [], ◌∷◌, length, unwrap_or, slice_get, Option, Some, None, if◌then◌else◌}
use Rattle.xti_base.specs.declared.limits.TheConstants.{MOST_OPTIONS}
use Rattle.xti_base.specs.declared.kinds.State.TheVariants.{T_OUTCON, T_DATAXFER, T_OUTREL, T_INREL}
use Rattle.xti_base.specs.declared.kinds.Event.{Event}
use Rattle.xti_base.specs.declared.kinds.Event.TheVariants.{T_GODATA, T_GOEXDATA}
use Rattle.xti_base.specs.declared.errno.Errno.TheVariants.{TBADFLAG, TBADOPT}
use Rattle.xti_model.specs.declared.profile.Profile.{Profile}
use Rattle.xti_model.specs.declared.profile.Providers.{Providers}
use Rattle.xti_model.specs.declared.entry.Outcome.TheVariants.{Done}
use Rattle.xti_model.specs.declared.entry.Reply.TheVariants.{Plain, Seen, Stands, Limits, Addresses, Options}
use Rattle.xti_model.specs.Provider.{profile, info}
use Rattle.xti_base.specs.Options.{is_option_list, the_options, options_bytes}
use Rattle.xti_base.specs.Negotiation.{Settings, Negotiated, is_action, is_one_level, negotiate}
use Rattle.xti_model.specs.Endpoint.{Endpoint, address_of}
use Rattle.xti_model.specs.World.{World, at_endpoint}
use Rattle.xti_model.specs.Events.{Around, around, is_state, pending}
use Rattle.xti_model.specs.Plan.{Row, Plan, Field, refuses, overflows, field, trimmed, plan_of, on_open}

-- what is shown may be shown again, but for the flow events
abbrev pub shown : Option Event → Endpoint → Endpoint
shown (Some T_GODATA) e = record e { flow_normal = false; flow_datagram = None }
shown (Some T_GOEXDATA) e = record e { flow_expedited = false }
shown other e = e

-- events are told in the order of the list
abbrev pub first_pending : Around → Endpoint → Option Event
first_pending a e = slice_get (pending a e) 0

-- a look tells one event, and clears it if it is a flow event
abbrev pub look_in : ℕ → Endpoint → Around → Plan
look_in fd e a = plan_of fd e [] (at_endpoint fd (shown (first_pending a e)) ∷ []) (Done (Seen (first_pending a e)))

-- look
abbrev pub look_plan : Providers → World → ℕ → Plan
look_plan p w fd = on_open p w fd (λ e. look_in fd e (around p w fd e))

-- getstate, and sync
abbrev pub state_plan : Providers → World → ℕ → Plan
state_plan p w fd = on_open p w fd (λ e. plan_of fd e [] [] (Done (Stands e.state)))

-- getinfo
abbrev pub info_plan : Providers → World → ℕ → Plan
info_plan p w fd = on_open p w fd (λ e. plan_of fd e [] [] (Done (Limits (info p e.prov))))

-- the peer's address, in the states that may have one
abbrev pub shown_peer : Endpoint → List ℕ
shown_peer e = if is_state (T_OUTCON ∷ T_DATAXFER ∷ T_OUTREL ∷ T_INREL ∷ []) e then unwrap_or e.peer_address [] else []

-- what is told, and how much of each there is room for
abbrev pub address_fields : Endpoint → ℕ → ℕ → List Field
address_fields e amax pmax = field (address_of e) amax ∷ field (shown_peer e) pmax ∷ []

-- getprotaddr
abbrev pub addresses_plan : Providers → World → ℕ → ℕ → ℕ → Plan
addresses_plan p w fd amax pmax = on_open p w fd (λ e. plan_of fd e (overflows (address_fields e amax pmax) ∷ []) []
    (Done (Addresses (trimmed (address_of e) amax) (trimmed (shown_peer e) pmax))))

-- O_NONBLOCK, or not
abbrev pub in_mode : Bool → Endpoint → Endpoint
in_mode nonblock e = record e { nonblock = nonblock }

-- the change of the mode
abbrev pub mode_plan : Providers → World → ℕ → Bool → Plan
mode_plan p w fd nonblock = on_open p w fd (λ e. plan_of fd e [] (at_endpoint fd (in_mode nonblock) ∷ []) (Done Plain))

-- what the endpoint negotiates
abbrev pub settings : Profile → Endpoint → Settings
settings profile e = record { sndbuf = e.sndbuf; rcvbuf = e.rcvbuf; start_sndbuf = profile.sndbuf; start_rcvbuf = profile.rcvbuf }

-- what the negotiation of these options gives
abbrev pub negotiated : Providers → ℕ → List ℕ → Endpoint → Negotiated
negotiated p action options e = negotiate (settings (profile p e.prov) e) action (the_options options)

-- when optmgmt is refused, in order
abbrev pub option_rows : Negotiated → ℕ → List ℕ → ℕ → List Row
option_rows n action options omax =
    refuses (not (is_action action)) TBADFLAG ∷
    refuses (nat_lt MOST_OPTIONS (length options) || not (is_option_list options) || not (is_one_level (the_options options))) TBADOPT ∷
    overflows (field (options_bytes n.options) omax ∷ []) ∷ []

-- the sizes that were negotiated are set
abbrev pub with_settings : Settings → Endpoint → Endpoint
with_settings s e = record e { sndbuf = s.sndbuf; rcvbuf = s.rcvbuf }

-- with what the negotiation gives
abbrev pub option_plan_of : ℕ → Negotiated → ℕ → List ℕ → ℕ → Endpoint → Plan
option_plan_of fd n action options omax e = plan_of fd e (option_rows n action options omax) (at_endpoint fd (with_settings n.settings) ∷ []) (Done (Options n.result (trimmed (options_bytes n.options) omax)))

-- optmgmt
abbrev pub option_plan : Providers → World → ℕ → ℕ → List ℕ → ℕ → Plan
option_plan p w fd action options omax = on_open p w fd (λ e. option_plan_of fd (negotiated p action options e) action options omax e)
