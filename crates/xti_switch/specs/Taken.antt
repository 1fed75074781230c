-- What a call answers that is not refused, and the world that it leaves.
use Rattle.std.specs.Prelude.{◌≡◌, ℕ, Bool, true, List, [], ◌∷◌, Option, None, is_some, if◌then◌else◌}
use Rattle.xti_base.specs.declared.kinds.Prov.{Prov}
use Rattle.xti_model.specs.declared.entry.Applied.{Applied}
use Rattle.xti_model.specs.declared.entry.Reply.{Reply}
use Rattle.xti_model.specs.declared.entry.Reply.TheVariants.{Overflow}
use Rattle.xti_model.specs.World.{Change, endpoint, the_switch, at_endpoint, at_switch}
use Rattle.xti_model.specs.Switch.{give_up_address, is_free, place_at}
use Rattle.xti_model.specs.Plan.{Plan, field, is_too_long}
use Rattle.xti_model.specs.Calls.Bind as Bind
use Rattle.xti_model.specs.Calls.Open as Open
use Rattle.xti_model.specs.Step.{Step, step_by}
use Rattle.xti_lent.specs.Answers.{IsDoneAfter}
use Rattle.xti_lent.specs.Lending.{Lending, cells}

-- an endpoint is open with the descriptor
abbrev pub IsOpen : Lending → ℕ → Type 0
IsOpen l fd = is_some (endpoint l.providers (cells l) fd) ≡ true

-- the place can be opened, as the switch knows it
abbrev pub IsFreeAt : Lending → ℕ → Type 0
IsFreeAt l place = is_free l.providers (place_at (the_switch l.providers (cells l)) place) ≡ true

-- how an endpoint opens
abbrev pub opening : Lending → Prov → Bool → Plan
opening l prov nonblock = Open.plan l.providers (cells l) prov nonblock

-- an endpoint opens at the place
abbrev pub opening_at : Lending → ℕ → Prov → Bool → Option Step
opening_at l place prov nonblock = step_by l.providers (cells l) (Open.plan_at l.providers (the_switch l.providers (cells l)) prov nonblock place) None

-- how an address is given
abbrev pub binding : Lending → ℕ → List ℕ → ℕ → ℕ → Plan
binding l fd address qlen amax = Bind.plan l.providers (cells l) fd address qlen amax

-- the answer of a bind; a caller who takes too little of the address is told so
abbrev pub bound : List ℕ → ℕ → ℕ → Reply
bound address qlen amax = if is_too_long (field address amax) then Overflow (record { 0 = 0 }) else Bind.reply address qlen amax

-- the address was given
abbrev pub IsBound : Lending → Lending → ℕ → Prov → List ℕ → ℕ → ℕ → Applied → Type 0
IsBound old new fd prov address qlen amax a = IsDoneAfter (Bind.changes fd prov address qlen) old new fd (bound address qlen amax) a

-- how an address is given up
abbrev pub giving_up_address : Lending → ℕ → Plan
giving_up_address l fd = Bind.unbind_plan l.providers (cells l) fd

-- the endpoint's address is given up
abbrev pub unbinding : ℕ → List Change
unbinding fd = at_endpoint fd Bind.unbound ∷ at_switch (give_up_address fd) ∷ []
