-- What a send of a release answers, by its rows.
use Rattle.std.proofs.Common.{◌≡◌, ℕ, true, List, [], ◌∷◌, ◌++◌, Option, Some, None, sym, ap, ◌∙◌}
use Rattle.xti_base.specs.declared.errno.Errno.TheVariants.{TBADF}
use Rattle.xti_model.specs.declared.entry.Applied.{Applied}
use Rattle.xti_model.specs.declared.entry.Outcome.TheVariants.{Done}
use Rattle.xti_model.specs.declared.entry.Reply.{Reply}
use Rattle.xti_model.specs.declared.entry.Reply.TheVariants.{Plain, Refused}
use Rattle.xti_model.specs.declared.profile.Providers.{Providers}
use Rattle.xti_model.specs.Calls.Release as Release
use Rattle.xti_model.specs.Endpoint.{Endpoint}
use Rattle.xti_model.specs.Links.{at_linked}
use Rattle.xti_model.specs.Plan.{Plan, Refusal, answers, first, has_effect, if_open, plan_of}
use Rattle.xti_model.specs.Step.{made, step_by, step_of}
use Rattle.xti_model.specs.World.{World, at_endpoint, changed, endpoint}
use Rattle.xti_end.specs.Taken.{taken}
use Rattle.xti_lent.specs.Answers.{Changed, IsMade}
use Rattle.xti_lent.specs.Fit.{SameCells}
use Rattle.xti_lent.specs.Lending.{Lending, cells}
use Rattle.xti_data.specs.Sends.{telling}
use Rattle.xti_data.proofs.Changes.{made-after}

abbrev plan_at : Providers → ℕ → List ℕ → Endpoint → Plan
plan_at p fd udata e = plan_of fd e (Release.send_rows p udata e) (at_linked fd e.peer (Release.released udata) ++ at_endpoint fd Release.after_send ∷ []) (Done Plain)

-- the endpoint isn't open
pub release-shut : (p : Providers) (w : World) (fd : ℕ) (udata : List ℕ) → endpoint p w fd ≡ None → Some (made p fd (Done (Refused TBADF)) w) ≡ step_of p w (Release.send_plan p w fd udata)
release-shut p w fd udata o = sym (ap (λ (x : Option Endpoint). step_of p w (if_open fd x (plan_at p fd udata))) o)

-- it is
module _ (p : Providers) (w : World) (fd : ℕ) (udata : List ℕ) (e : Endpoint) (o : endpoint p w fd ≡ Some e) where
  rows-decide : (r : Option Refusal) → first (Release.send_rows p udata e) ≡ r → step_of p w (Release.send_plan p w fd udata) ≡ step_by p w (plan_at p fd udata e) r
  rows-decide r h = ap (λ (x : Option Endpoint). step_of p w (if_open fd x (plan_at p fd udata))) o ∙ ap (step_by p w (plan_at p fd udata e)) h

  pub release-refused : (reply : Reply) → first (Release.send_rows p udata e) ≡ Some (answers reply) → Some (made p fd (Done reply) w) ≡ step_of p w (Release.send_plan p w fd udata)
  release-refused reply r = sym (rows-decide (Some (answers reply)) r)

  pub release-went : first (Release.send_rows p udata e) ≡ None → step_of p w (Release.send_plan p w fd udata) ≡ Some (made p fd (Done Plain) (changed p w (telling fd e.peer udata)))
  release-went u = rows-decide None u

  pub release-effect : first (Release.send_rows p udata e) ≡ None → has_effect (first (Release.send_plan p w fd udata).rows) ≡ true
  release-effect u = ap (λ (x : Option Endpoint). has_effect (first (if_open fd x (plan_at p fd udata)).rows)) o ∙ ap has_effect u

-- the peer is told
pub release-told : (l k : Lending) (fd : ℕ) (udata : List ℕ) (e : Endpoint) (peer : Option ℕ) (a : Applied) → endpoint l.providers (cells l) fd ≡ Some e → first (Release.send_rows l.providers udata e) ≡ None → peer ≡ e.peer
    → SameCells l k → Changed (telling fd peer udata) l k → IsMade k fd (Done Plain) a → taken a (cells k) ≡ step_of l.providers (cells l) (Release.send_plan l.providers (cells l) fd udata)
release-told l k fd udata e peer a o u named same c m =
    made-after l k fd (telling fd peer udata) (Done Plain) a same c m
    ∙ ap (λ (x : Option ℕ). Some (made l.providers fd (Done Plain) (changed l.providers (cells l) (telling fd x udata)))) named
    ∙ sym (release-went l.providers (cells l) fd udata e o u)
