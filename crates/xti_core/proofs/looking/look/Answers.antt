use Rattle.std.proofs.Common.{◌≡◌, ◌∙◌, sym, Some, subst}
use Rattle.xti_model.specs.declared.profile.Providers.{Providers}
use Rattle.xti_model.specs.declared.entry.Outcome.TheVariants.{Done}
use Rattle.xti_model.specs.declared.entry.Reply.TheVariants.{Seen}
use Rattle.xti_model.specs.Step.{made}
use Rattle.xti_model.specs.Events.{events, is_pending}
use Rattle.xti_core.specs.Looks.{around_lent}
use Rattle.xti_end.specs.Taken.{taken}
use Rattle.xti_lent.specs.Lending.{cells}
use Rattle.xti_end.specs.Held.{parts}
use Rattle.xti_core.proofs.Shown.{first_found, looked, looked-gone}
use Rattle.xti_core.proofs.looking.look.Goals as goal

pub returns-clause-step : goal.returns-clause-step
returns-clause-step c g =
    looked c.args.lent.now.providers (cells c.args.lent.now) (cells c.show.new.lent) c.args.fd c.first_pending-event.result (parts c.in-Some.e.now) c.done.result g (sym c.in-Some.ensures.endpoint) (c.first_pending-event.ensures ∙ first_found (is_pending (around_lent c.args.lent.now c.args.fd.0 (parts c.in-Some.e.now)) (parts c.in-Some.e.now)) events) c.show.ensures.cells
    (subst (λ (q : Providers). taken c.done.result (cells c.show.new.lent) ≡ Some (made q c.args.fd.0 (Done (Seen c.first_pending-event.result)) (cells c.show.new.lent))) c.show.ensures.kept.providers c.done.ensures)

pub returns-in-None-clause-step : goal.returns-in-None-clause-step
returns-in-None-clause-step c g = looked-gone c.args.lent.now.providers (cells c.args.lent.now) c.args.fd c.refused.result g (sym c.in-None.ensures.endpoint) c.refused.ensures
