-- open
use Rattle.std.specs.Prelude.{ℕ, not, is_none, Bool, List, [], ◌∷◌, Option, Some, None}
use Rattle.xti_base.specs.declared.limits.TheConstants.{NO_NUMBER}
use Rattle.xti_base.specs.declared.kinds.Prov.{Prov}
use Rattle.xti_base.specs.declared.errno.Errno.TheVariants.{TBADNAME, TSYSERR}
use Rattle.xti_model.specs.declared.profile.Providers.{Providers}
use Rattle.xti_model.specs.declared.entry.Outcome.TheVariants.{Done}
use Rattle.xti_model.specs.declared.entry.Reply.TheVariants.{Opened}
use Rattle.xti_model.specs.Provider.{profile, is_provider}
use Rattle.xti_model.specs.Endpoint.{opened}
use Rattle.xti_model.specs.World.{World, Switch, the_switch, descriptor, opens_place, at_switch}
use Rattle.xti_model.specs.Switch.{free_place, opening_place, place_at, mark_open}
use Rattle.xti_model.specs.Plan.{Row, Plan, refuses}

-- when open is refused, in order
abbrev pub rows : Providers → Switch → Prov → List Row
rows p s prov =
    refuses (not (is_provider prov)) TBADNAME ∷
    refuses (is_none (free_place p s)) TSYSERR ∷ []

-- the descriptor that the place opens with
abbrev pub fd_at : Providers → Switch → ℕ → ℕ
fd_at p s place = descriptor p (place_at s place).generation place

-- the endpoint opens at this place
abbrev pub plan_at : Providers → Switch → Prov → Bool → ℕ → Plan
plan_at p s prov nonblock place = record {
  fd = fd_at p s place;
  nonblock = nonblock;
  rows = rows p s prov;
  changes = opens_place place (opened (profile p prov) prov nonblock) ∷ at_switch (mark_open place) ∷ [];
  outcome = Done (Opened (record { 0 = fd_at p s place }));
  marks = [];
  lost = [];
  lost_number = 0;
}

-- the descriptor of an open that failed
abbrev pub no_fd : ℕ
no_fd = NO_NUMBER

-- a refused open changes nothing
abbrev pub refused_plan : Providers → Switch → Prov → Bool → Plan
refused_plan p s prov nonblock = record {
  fd = no_fd;
  nonblock = nonblock;
  rows = rows p s prov;
  changes = [];
  outcome = Done (Opened (record { 0 = no_fd }));
  marks = [];
  lost = [];
  lost_number = 0;
}

-- the least free place opens
abbrev pub plan_where : Providers → Switch → Prov → Bool → Option ℕ → Plan
plan_where p s prov nonblock None = refused_plan p s prov nonblock
plan_where p s prov nonblock (Some place) = plan_at p s prov nonblock place

-- at the place with the least number
abbrev pub plan_in : Providers → Switch → Prov → Bool → Plan
plan_in p s prov nonblock = plan_where p s prov nonblock (opening_place p s prov)

-- open
abbrev pub plan : Providers → World → Prov → Bool → Plan
plan p w prov nonblock = plan_in p (the_switch p w) prov nonblock
