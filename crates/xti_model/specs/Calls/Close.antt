-- close
use Rattle.std.specs.Prelude.{ℕ, List, [], ◌∷◌, ◌++◌, map, None, if◌then◌else◌}
use Rattle.xti_base.specs.declared.reasons.TheConstants.{PEER_CLOSED}
use Rattle.xti_model.specs.declared.profile.Providers.{Providers}
use Rattle.xti_model.specs.declared.entry.Outcome.TheVariants.{Done}
use Rattle.xti_model.specs.declared.entry.Reply.TheVariants.{Plain}
use Rattle.xti_model.specs.Endpoint.{Endpoint, Indication, disconnected, is_target}
use Rattle.xti_model.specs.World.{World, Change, Switch, place_of, at_endpoint, at_switch, closes_endpoint}
use Rattle.xti_model.specs.Switch.{give_up_address, mark_closed}
use Rattle.xti_model.specs.Links.{break}
use Rattle.xti_model.specs.Plan.{Plan, plan_of, on_open}

-- the request is given up where it is the caller's
abbrev pub given_up : ℕ → ℕ → Endpoint → Endpoint
given_up fd number e = if is_target fd number e.target then record (disconnected PEER_CLOSED 0 [] e) { target = None } else e

-- the caller of an indication hears that its listener closed
abbrev pub give_up_caller : ℕ → Indication → Change
give_up_caller fd i = at_endpoint i.caller (given_up fd i.number)

-- the switch knows neither the address nor the generation any more
abbrev pub forget : Providers → ℕ → Switch → Switch
forget p fd s = mark_closed (place_of p fd) (give_up_address fd s)

-- the endpoint and the switch are changed together
abbrev pub closing : Providers → ℕ → List Change
closing p fd = closes_endpoint fd ∷ at_switch (forget p fd) ∷ []

-- the peer, the listener and the callers of the endpoint hear of its end
abbrev pub changes : Providers → ℕ → Endpoint → List Change
changes p fd e = break fd e PEER_CLOSED [] ++ map (give_up_caller fd) (e.pending ++ e.outstanding) ++ closing p fd

-- close is never refused
abbrev pub plan : Providers → World → ℕ → Plan
plan p w fd = on_open p w fd (λ e. plan_of fd e [] (changes p fd e) (Done Plain))
