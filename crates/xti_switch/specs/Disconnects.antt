-- What t_snddis makes of lent cells.
use Rattle.std.specs.Prelude.{◌∷◌, ◌++◌, ℕ, List, [], Option, IfSome, option_and_then}
use Rattle.xti_model.specs.Calls.Disconnect.{idle, reject, send_plan}
use Rattle.xti_base.specs.declared.reasons.TheConstants.{ABORTED}
use Rattle.xti_model.specs.Endpoint.{Endpoint, Indication, find_number}
use Rattle.xti_model.specs.Links.{break}
use Rattle.xti_model.specs.Plan.{Plan}
use Rattle.xti_model.specs.World.{Change, at_endpoint, endpoint}
use Rattle.xti_lent.specs.Answers.{Changed}
use Rattle.xti_lent.specs.Lending.{Lending, cells}

-- how it is sent
abbrev pub disconnecting : Lending → ℕ → ℕ → List ℕ → Plan
disconnecting l fd number udata = send_plan l.providers (cells l) fd number udata

-- the outstanding request of the open endpoint
abbrev pub asked : Lending → ℕ → ℕ → Option Indication
asked l fd number = option_and_then (λ (e : Endpoint). find_number number e.outstanding) (endpoint l.providers (cells l) fd)

-- it is rejected
abbrev pub rejecting : Lending → ℕ → ℕ → List ℕ → List Change
rejecting l fd number udata = reject fd udata (asked l fd number)

-- the open endpoint's connection or request ended, and it is idle
abbrev pub EndsOwn : Lending → Lending → ℕ → List ℕ → Type 0
EndsOwn old new fd udata = IfSome (endpoint old.providers (cells old) fd) (λ e. Changed (break fd e ABORTED udata ++ at_endpoint fd idle ∷ []) old new)
