use Rattle.std.proofs.Common.{◌∙◌, refl, sym, ap, true, false}
use Rattle.std.specs.Prelude.{is_some}
use Rattle.xti_base.specs.Kinds.{same_state}
use Rattle.xti_base.specs.declared.errno.Errno.TheVariants.{TOUTSTATE}
use Rattle.xti_base.specs.declared.kinds.State.{State}
use Rattle.xti_base.specs.declared.kinds.State.TheVariants.{T_IDLE}
use Rattle.xti_model.specs.declared.entry.Reply.TheVariants.{Look, Refused}
use Rattle.xti_end.specs.Held.{parts}
use Rattle.xti_lent.specs.Lending.{cells}
use Rattle.xti_switch.proofs.Plans.{in-state, made-open, refused-open, refused-shut}
use Rattle.xti_lent.proofs.Returned.{not-blocked, open-as, same-cells}
use Rattle.xti_switch.proofs.Unbinding.{event-told, none-told, not-idle, unbind_of}
use Rattle.xti_switch.proofs.unbind.unbind.Goals as goal

pub open_endpoint-requires : goal.open_endpoint-requires
open_endpoint-requires c = c.requires.fit.places

pub refused-requires : goal.refused-requires
refused-requires c = c.requires.fit.places

pub returns-in-None-clause-step : goal.returns-in-None-clause-step
returns-in-None-clause-step c = c.refused.ensures ∙ refused-shut c.args.lent.now.providers (cells c.args.lent.now) c.args.fd.0 (unbind_of c.args.fd.0) (sym c.in-None.ensures.endpoint)

pub returns-in-None-clause-still : goal.returns-in-None-clause-still
returns-in-None-clause-still c = λ _. refl

pub returns-in-None-clause-kept : goal.returns-in-None-clause-kept
returns-in-None-clause-kept c = same-cells _

pub state-requires : goal.state-requires
state-requires c = open-as c.args.lent.now.providers c.args.fd.0 c.in-Some.e.now c.in-Some.ensures.open

pub refused-requires-then-not-is : goal.refused-requires-then-not-is
refused-requires-then-not-is c = c.requires.fit.places

pub returns-then-not-is-clause-step : goal.returns-then-not-is-clause-step
returns-then-not-is-clause-step c =
    let s = in-state (parts c.in-Some.e.now) c.state.result T_IDLE c.is.result false c.state.ensures c.is.ensures c.if-not-is.true in
    c.refused-then-not-is.ensures ∙ refused-open c.args.lent.now.providers (cells c.args.lent.now) c.args.fd.0 (unbind_of c.args.fd.0) (parts c.in-Some.e.now) (sym c.in-Some.ensures.endpoint) (Refused TOUTSTATE) (not-idle c.args.fd.0 (parts c.in-Some.e.now) s)

pub returns-then-not-is-clause-still : goal.returns-then-not-is-clause-still
returns-then-not-is-clause-still c = λ _. refl

pub returns-then-not-is-clause-kept : goal.returns-then-not-is-clause-kept
returns-then-not-is-clause-kept c = same-cells _

pub looked-event-requires-clause-open : goal.looked-event-requires-clause-open
looked-event-requires-clause-open c = open-as c.args.lent.now.providers c.args.fd.0 c.in-Some.e.now c.in-Some.ensures.open

pub looked-event-requires-clause-idle : goal.looked-event-requires-clause-idle
looked-event-requires-clause-idle c = ap (λ (s : State). same_state s T_IDLE) (sym c.state.ensures) ∙ (sym c.is.ensures ∙ c.if-not-is.false)

pub done-requires : goal.done-requires
done-requires c = c.requires.fit.places

pub unbind_open-requires-clause-fit : goal.unbind_open-requires-clause-fit
unbind_open-requires-clause-fit c = c.requires.fit

pub unbind_open-requires-clause-switch : goal.unbind_open-requires-clause-switch
unbind_open-requires-clause-switch c = c.requires.switch

pub unbind_open-requires-clause-open : goal.unbind_open-requires-clause-open
unbind_open-requires-clause-open c = ap is_some (sym c.in-Some.ensures.endpoint)

pub returns-in-Some-event-clause-step : goal.returns-in-Some-event-clause-step
returns-in-Some-event-clause-step c =
    let s = in-state (parts c.in-Some.e.now) c.state.result T_IDLE c.is.result true c.state.ensures c.is.ensures c.if-not-is.false in
    c.done.ensures
    ∙ refused-open c.args.lent.now.providers (cells c.args.lent.now) c.args.fd.0 (unbind_of c.args.fd.0) (parts c.in-Some.e.now) (sym c.in-Some.ensures.endpoint) (Look c.in-Some-event.event) (event-told c.args.fd.0 (parts c.in-Some.e.now) s c.in-Some-event.event (sym c.in-Some-event.is ∙ c.looked-event.ensures))

pub returns-in-Some-event-clause-still : goal.returns-in-Some-event-clause-still
returns-in-Some-event-clause-still c = λ _. refl

pub returns-in-Some-event-clause-kept : goal.returns-in-Some-event-clause-kept
returns-in-Some-event-clause-kept c = same-cells _

pub returns-in-None-event-clause-step : goal.returns-in-None-event-clause-step
returns-in-None-event-clause-step c =
    let s = in-state (parts c.in-Some.e.now) c.state.result T_IDLE c.is.result true c.state.ensures c.is.ensures c.if-not-is.false in
    c.unbind_open.ensures.step ∙ sym (made-open c.args.lent.now.providers (cells c.args.lent.now) c.args.fd.0 (unbind_of c.args.fd.0) (parts c.in-Some.e.now) (sym c.in-Some.ensures.endpoint) (none-told c.args.fd.0 (parts c.in-Some.e.now) s (sym c.in-None-event.is ∙ c.looked-event.ensures)))

pub returns-in-None-event-clause-still : goal.returns-in-None-event-clause-still
returns-in-None-event-clause-still c = not-blocked c.args.lent.now c.unbind_open.new.lent c.unbind_open.result _ c.unbind_open.ensures.step

pub returns-in-None-event-clause-kept : goal.returns-in-None-event-clause-kept
returns-in-None-event-clause-kept c = c.unbind_open.ensures.kept
