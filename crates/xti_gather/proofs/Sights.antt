-- What the touched cells show is what the whole world shows.
use Rattle.std.proofs.Common.{◌≡◌, ℕ, List, Option, Some, None, refl, sym, ap, ◌∙◌}
use Rattle.std.specs.Prelude.{option_map}
use Rattle.xti_base.specs.declared.kinds.Event.{Event}
use Rattle.xti_base.specs.declared.kinds.Fd.{Fd}
use Rattle.xti_model.specs.declared.call.Call.TheVariants.{TLookAt}
use Rattle.xti_model.specs.declared.entry.Go.TheVariants.{Begin}
use Rattle.xti_model.specs.declared.entry.Entry.{Entry}
use Rattle.xti_model.specs.declared.entry.Outcome.{Outcome}
use Rattle.xti_model.specs.declared.entry.Outcome.TheVariants.{Done}
use Rattle.xti_model.specs.declared.entry.Reply.TheVariants.{Seen}
use Rattle.xti_model.specs.declared.profile.Providers.{Providers}
use Rattle.xti_model.specs.Calls.Show.{look_in}
use Rattle.xti_model.specs.Endpoint.{Endpoint}
use Rattle.xti_model.specs.Events.{around}
use Rattle.xti_model.specs.Plan.{Plan, if_open}
use Rattle.xti_model.specs.Step.{plan}
use Rattle.xti_model.specs.Touched.{named, touched}
use Rattle.xti_model.specs.World.{World, Cell, endpoint, only}
use Rattle.xti_laws.specs.Laws.{Within}
use Rattle.xti_laws.proofs.Local.{plan-local}
use Rattle.xti_laws.proofs.Only.{endpoint-only}
use Rattle.xti_lent.specs.Lending.{Lending, cell_lent, cells}
use Rattle.xti_lent.specs.Fit.{AllLent}
use Rattle.xti_core.specs.Looks.{shown_by, sight_in}
use Rattle.xti_hall_rule.specs.declared.view.View.{View}
use Rattle.xti_hall_rule.specs.Histories.{part, after}
use Rattle.xti_gather.specs.Lends.{Lends}
use Rattle.xti_gather.proofs.Looked.{read-whole}

-- the event that a plan tells
event_of : Outcome → Option Event
event_of (Done (Seen event)) = event
event_of other = None

-- cells that have all that a look names: the endpoint shows the same on them alone
sight-only : (p : Providers) (t : List ℕ) (w : World) (fd : Fd) → Within t (named p w (TLookAt fd)) → sight_in p (only t w) fd.0 ≡ sight_in p w fd.0
unfolding plan event_of
sight-only p t w fd h = ap (option_map (shown_by p (only t w) fd.0)) same ∙ go (endpoint p w fd.0) refl
  where
    same : endpoint p (only t w) fd.0 ≡ endpoint p w fd.0
    same = endpoint-only p t fd.0 h.0 w

    plans : if_open fd.0 (endpoint p (only t w) fd.0) (λ e. look_in fd.0 e (around p (only t w) fd.0 e)) ≡ if_open fd.0 (endpoint p w fd.0) (λ e. look_in fd.0 e (around p w fd.0 e))
    plans = plan-local p t w (TLookAt fd) Begin h

    go : (o : Option Endpoint) → endpoint p w fd.0 ≡ o → option_map (shown_by p (only t w) fd.0) o ≡ option_map (shown_by p w fd.0) o
    go None i = refl
    go (Some e) i =
        let one : if_open fd.0 (Some e) (λ e. look_in fd.0 e (around p (only t w) fd.0 e)) ≡ if_open fd.0 (Some e) (λ e. look_in fd.0 e (around p w fd.0 e)) =
        ap (λ (o : Option Endpoint). if_open fd.0 o (λ e. look_in fd.0 e (around p (only t w) fd.0 e))) (sym (same ∙ i)) ∙ (plans ∙ ap (λ (o : Option Endpoint). if_open fd.0 o (λ e. look_in fd.0 e (around p w fd.0 e))) i) in
        ap (λ (z : Plan). Some (e.state, event_of z.outcome)) one

-- the lent cells have all that a look touches, and are as after this history: they show what the whole world shows
pub sight-whole : (v : View) (l : Lending) (fd : Fd) (h : List Entry) → Lends v l → AllLent l (touched l.providers (cells l) (TLookAt fd)) → ((n : ℕ) (m : Cell) → cell_lent l n ≡ Some m → m ≡ part n (after v.setting h))
    → sight_in l.providers (cells l) fd.0 ≡ sight_in v.setting.providers (after v.setting h) fd.0
sight-whole v l fd h lends all parts = read-whole (λ (p : Providers) (w : World). sight_in p w fd.0) v l fd h (λ p t w k. sight-only p t w fd k) lends all parts
