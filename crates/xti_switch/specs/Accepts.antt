-- How a connection is accepted, and what is made of lent cells.
use Rattle.std.specs.Prelude.{◌≡◌, ◌≤◌, ◌==◌, ◌&&◌, ℕ, Bool, false, not, List, [], ◌∷◌, ◌++◌, Option, Some, None, IfSome, Result, if◌then◌else◌}
use Rattle.tpi_grammar.specs.declared.kind.Kind.TheVariants.{T_CONN_CON}
use Rattle.tpi_prim.specs.Fields.{kind_in}
use Rattle.xti_base.specs.declared.kinds.State.TheVariants.{T_UNBND, T_IDLE, T_DATAXFER}
use Rattle.xti_model.specs.declared.entry.Applied.{Applied}
use Rattle.xti_model.specs.declared.entry.Reply.{Reply}
use Rattle.xti_model.specs.declared.profile.Providers.{Providers}
use Rattle.xti_model.specs.Endpoint.{Endpoint, Indication, Confirmation, address_of, find_number}
use Rattle.xti_model.specs.Events.{is_state}
use Rattle.xti_model.specs.Plan.{Plan, first}
use Rattle.xti_model.specs.Provider.{profile}
use Rattle.xti_model.specs.Switch.{give_address}
use Rattle.xti_model.specs.World.{Change, at_endpoint, at_switch}
use Rattle.xti_model.specs.Calls.Listen as Listen
use Rattle.xti_registry.specs.Known.{Known}
use Rattle.xti_end.specs.Frames.{confirmation_in}
use Rattle.xti_end.specs.Taken.{answered}
use Rattle.xti_lent.specs.Answers.{MakesBy}
use Rattle.xti_lent.specs.Lending.{Lending, cells}
use Rattle.xti_switch.specs.declared.accept.Acceptance.{Acceptance}
use Rattle.xti_switch.specs.declared.links.Given.{Given}
use Rattle.xti_switch.specs.declared.refusals.Answering.{Answering}

-- how a request is accepted
abbrev pub accepting : Lending → ℕ → ℕ → ℕ → List ℕ → List ℕ → Plan
accepting l fd resfd number options udata = Listen.accept_plan l.providers (cells l) fd resfd number options udata

-- the answer, if there is one, is that of accepting it
abbrev pub IsAccepted : {E : Type 0} → Lending → Lending → ℕ → ℕ → ℕ → List ℕ → List ℕ → Result Applied E → Type 0
IsAccepted old new fd resfd number options udata r = MakesBy (accepting old fd resfd number options udata) old new r

-- another endpoint than the listener isn't in a state to answer
abbrev pub is_engaged : Bool → Endpoint → Bool
is_engaged is_same r = not is_same && not (is_state (T_UNBND ∷ T_IDLE ∷ []) r)

-- the provider doesn't let an endpoint answer from its address
abbrev pub is_at_bad_address : Providers → Endpoint → Endpoint → Bool
is_at_bad_address p e r = (profile p e.prov).same_addr && Listen.is_elsewhere e r.address

-- the reply is what refuses to answer so at the listener and the responding endpoint
abbrev pub RefusesAccept : Providers → Answering → List ℕ → List ℕ → Endpoint → Endpoint → Option Reply → Type 0
RefusesAccept p a options udata e r reply =
    (fd resfd : ℕ) → a.is_same ≡ (fd == resfd) → answered reply ≡ first (Listen.accept_rows p fd resfd a.seq.0 options udata e r)

-- an endpoint that isn't bound has this address, and queues nothing
abbrev pub with_address : List ℕ → Endpoint → Endpoint
with_address address r = if is_state (T_UNBND ∷ []) r then record r { address = Some address; qlen = 0 } else r

-- the endpoint is connected with this one, whose address is given
abbrev pub responding_to : ℕ → List ℕ → Endpoint → Endpoint
responding_to caller source r = record r { state = T_DATAXFER; peer = Some caller; peer_address = Some source }

-- its request was accepted by this endpoint
abbrev pub accepted_by : ℕ → List ℕ → Confirmation → Endpoint → Endpoint
accepted_by resfd address confirmation c = record c { target = None; peer = Some resfd; peer_address = Some address; confirmation = Some confirmation }

-- by what the frame confirms
abbrev pub confirmed_by : ℕ → List ℕ → List ℕ → Endpoint → Endpoint
confirmed_by resfd address frame = accepted_by resfd address (confirmation_in frame)

-- so the caller changes, and the responding endpoint
abbrev pub confirming : ℕ → ℕ → List ℕ → List ℕ → List Change
confirming caller resfd address frame = at_endpoint caller (confirmed_by resfd address frame) ∷ []

abbrev pub responding : ℕ → ℕ → List ℕ → List Change
responding resfd caller source = at_endpoint resfd (responding_to caller source) ∷ []

-- the address is given to the endpoint and to the switch
abbrev pub giving : ℕ → Given → List Change
giving resfd g = at_endpoint resfd (with_address g.address) ∷ at_switch (give_address g.prov g.known resfd false) ∷ []

-- where one is given
abbrev pub giving_if : ℕ → Option Given → List Change
giving_if resfd None = []
giving_if resfd (Some g) = giving resfd g

-- the switch's table is lent, and takes one more address with no memory
abbrev pub TakesOne : Option Known → Type 0
TakesOne None = ⊥
TakesOne (Some k) = 1 ≤ k.spare

-- there is room for the address, where one is given
abbrev pub HasRoomFor : Option Given → Lending → Type 0
HasRoomFor given l = IfSome given (λ g. TakesOne l.registry)

-- both ends are connected, and the request is taken out
abbrev pub linking : ℕ → ℕ → ℕ → Acceptance → List Change
linking fd resfd number a =
    at_endpoint fd (Listen.taken_out number) ∷ giving_if resfd a.given
    ++ at_endpoint resfd (responding_to a.caller.0 a.source) ∷ at_endpoint a.caller.0 (accepted_by resfd a.address (confirmation_in a.confirmation)) ∷ []

-- what the responding endpoint is given
abbrev pub IsGiven : Endpoint → Endpoint → Option Given → Type 0
IsGiven e r given = (resfd : ℕ) → giving_if resfd given ≡ Listen.bind_like e resfd r

-- these are the parts of an accept of the request, at the listener and the responding endpoint
pub record IsAcceptance (e r : Endpoint) (i : Indication) (options udata : List ℕ) (a : Acceptance) : Type 0 where
  pub caller : a.caller.0 ≡ i.caller
  pub source : a.source ≡ i.address
  pub address : a.address ≡ address_of (Listen.bound_like e r)
  pub kind : kind_in a.confirmation ≡ T_CONN_CON
  pub confirmation : confirmation_in a.confirmation ≡ record { address = address_of (Listen.bound_like e r); options = options; udata = udata }
  pub given : IsGiven e r a.given

-- of the request with this number
abbrev pub Accepts : Endpoint → Endpoint → Option Indication → List ℕ → List ℕ → Acceptance → Type 0
Accepts e r i options udata a = IfSome i (λ i. IsAcceptance e r i options udata a)

-- of the outstanding request of the listener with this number
abbrev pub AcceptsAt : Endpoint → Endpoint → ℕ → List ℕ → List ℕ → Acceptance → Type 0
AcceptsAt e r number options udata a = Accepts e r (find_number number e.outstanding) options udata a
