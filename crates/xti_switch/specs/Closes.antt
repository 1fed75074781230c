-- What t_close makes of lent cells.
use Rattle.std.specs.Prelude.{◌≡◌, ◌++◌, ℕ, true, List, [], map, option_map, slice_get, Option, Some, None, IfSome}
use Rattle.std.specs.List.{AllByRecursion}
use Rattle.xti_base.specs.declared.reasons.TheConstants.{PEER_CLOSED}
use Rattle.xti_model.specs.Calls.Close.{give_up_caller, plan}
use Rattle.xti_model.specs.Endpoint.{Endpoint, Indication}
use Rattle.xti_model.specs.Links.{break}
use Rattle.xti_model.specs.Plan.{Plan}
use Rattle.xti_model.specs.Switch.{place_at}
use Rattle.xti_model.specs.World.{Change, endpoint, place_of}
use Rattle.xti_end.specs.Callers.{caller_and_number}
use Rattle.xti_lent.specs.Answers.{Changed}
use Rattle.xti_lent.specs.Lending.{Lending, cells}
use Rattle.xti_lent.specs.Lends.{IsHeld}
use Rattle.xti_switch.specs.declared.notices.News.{News}
use Rattle.xti_switch.specs.declared.notices.News.TheVariants as news
use Rattle.xti_switch.specs.declared.notices.Notice.{Notice}
use Rattle.xti_switch.specs.Hearing.{IsReady}

-- how an endpoint closes
abbrev pub closing : Lending → ℕ → Plan
closing l fd = plan l.providers (cells l) fd

-- the requests that an endpoint did not answer
abbrev pub unanswered : Option Endpoint → List Indication
unanswered None = []
unanswered (Some e) = e.pending ++ e.outstanding

-- those at the endpoint that is open with the descriptor
abbrev pub unanswered_at : Lending → ℕ → List Indication
unanswered_at l fd = unanswered (endpoint l.providers (cells l) fd)

-- the caller and the number of the one at a place
abbrev pub unanswered_place : Lending → ℕ → ℕ → Option (ℕ × ℕ)
unanswered_place l fd place = option_map caller_and_number (slice_get (unanswered_at l fd) place)

-- their callers are given up
abbrev pub giving_up : Lending → ℕ → List Change
giving_up l fd = map (give_up_caller fd) (unanswered_at l fd)

-- the places of all their callers are lent
abbrev pub CanGiveUp : Lending → ℕ → Type 0
CanGiveUp l fd = AllByRecursion (λ i. IsHeld l i.caller) (unanswered_at l fd)

-- the news are that a listener closed
abbrev pub AreOfClose : News → Type 0
AreOfClose (news.GivenUp listener number) = Unit {0}
AreOfClose _ = ⊥

-- a notice to one of several callers, each of whom hears once
pub record IsReadyAmong (l : Lending) (n : Notice) : Type 0 where
  pub ready : IsReady l n
  pub of_close : AreOfClose n.news

-- whoever is linked with the endpoint, or asked by it, or asks it, heard of its end
abbrev pub TellsOthers : Lending → Lending → ℕ → Type 0
TellsOthers old new fd = IfSome (endpoint old.providers (cells old) fd) (λ e. Changed (break fd e PEER_CLOSED [] ++ map (give_up_caller fd) (e.pending ++ e.outstanding)) old new)

-- the switch knows that the place is open
abbrev pub IsKnownOpen : Lending → ℕ → Type 0
IsKnownOpen l fd = IfSome l.registry (λ k. (place_at k.switch (place_of l.providers fd)).is_open ≡ true)
