use Rattle.std.proofs.Common.{◌≡◌, ◌∙◌, sym, subst}
use Rattle.std.specs.Prelude.{IfOk}
use Rattle.xti_end.specs.Held.{alone}
use Rattle.xti_end.specs.Taken.{taken, told_release}
use Rattle.xti_end.proofs.Rows.{refused-release-told, release-told, taken-has-effect}
use Rattle.xti_end.proofs.endpoint.Endpoint.rcvreldata.Goals as goal

pub returns-in-Some-clause-step : goal.returns-in-Some-clause-step
returns-in-Some-clause-step c =
    c.done.ensures ∙ refused-release-told c.args.p.now c.args.self.now c.args.fd.0 c.args.umax (told_release c.args.umax) c.in-Some.reply (sym c.is.ensures ∙ c.if-not-is.false) c.in-Some.ensures

pub returns-clause-step : goal.returns-clause-step
returns-clause-step c =
    let e = release-told c.args.p.now c.args.self.now c.args.fd.0 c.args.umax (sym c.is.ensures ∙ c.if-not-is.false) c.in_default.ensures in
    subst (λ s. IfOk c.tell_release.result (λ a. taken a (alone c.tell_release.new.self) ≡ s)) e c.tell_release.ensures.step

pub returns-clause-sure : goal.returns-clause-sure
returns-clause-sure c = λ e.
    let effect = taken-has-effect c.args.p.now c.args.self.now c.args.fd.0 c.args.umax (told_release c.args.umax) (sym c.is.ensures ∙ c.if-not-is.false) c.in_default.ensures in
    cc
