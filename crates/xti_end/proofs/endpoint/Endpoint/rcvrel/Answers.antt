use Rattle.std.proofs.Common.{◌∙◌, ap, sym, Some}
use Rattle.xti_model.specs.declared.entry.Outcome.TheVariants.{Done}
use Rattle.xti_model.specs.declared.entry.Reply.TheVariants.{Plain}
use Rattle.xti_model.specs.Step.{made}
use Rattle.xti_end.specs.Held.{alone}
use Rattle.xti_end.proofs.Rows.{refused-release-told, release-dropped}
use Rattle.xti_end.proofs.endpoint.Endpoint.rcvrel.Goals as goal

pub returns-in-Some-clause-step : goal.returns-in-Some-clause-step
returns-in-Some-clause-step c =
    c.done.ensures ∙ refused-release-told c.args.p.now c.args.self.now c.args.fd.0 0 (λ e. Plain) c.in-Some.reply (sym c.is.ensures ∙ c.if-not-is.false) c.in-Some.ensures

pub returns-clause-step : goal.returns-clause-step
returns-clause-step c =
    c.done-2.ensures ∙
    (ap (λ h. Some (made c.args.p.now c.args.fd.0 (Done Plain) (alone h))) c.take_release.ensures ∙
    release-dropped c.args.p.now c.args.self.now c.args.fd.0 (sym c.is.ensures ∙ c.if-not-is.false) c.in_default.ensures)
