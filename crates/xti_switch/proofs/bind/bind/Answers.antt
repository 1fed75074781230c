use Rattle.std.proofs.Common.{sym, ◌∙◌, ◌≡◌, length, refl, ap, true, false}
use Rattle.std.specs.Prelude.{is_some}
use Rattle.std.proofs.lemmas.Result.{IfOk-from_err}
use Rattle.std.proofs.lemmas.Bool.{false≢true}
use Rattle.xti_base.specs.declared.limits.TheConstants.{MOST_ADDRESS}
use Rattle.xti_base.specs.declared.kinds.State.TheVariants.{T_UNBND}
use Rattle.xti_model.specs.World.{the_switch}
use Rattle.xti_model.specs.Calls.Bind as Bind
use Rattle.xti_end.specs.Held.{parts}
use Rattle.xti_lent.specs.Lending.{cells}
use Rattle.xti_lent.proofs.Lendings.{switch-is}
use Rattle.xti_base.specs.declared.errno.Errno.TheVariants.{TBADADDR, TOUTSTATE}
use Rattle.xti_model.specs.declared.entry.Reply.TheVariants.{Refused}
use Rattle.xti_switch.proofs.Binds.{bind-free, bind-busy, bind-effect, bind_of, bound-already, long-address}
use Rattle.xti_switch.proofs.Plans.{in-state, not-over, refused-open, refused-shut}
use Rattle.xti_lent.proofs.Returned.{not-blocked, on-any-err, open-as, same-cells}
use Rattle.xti_switch.proofs.bind.bind.Goals as goal

pub returns-then-is_busy-clause-step : goal.returns-then-is_busy-clause-step
returns-then-is_busy-clause-step c =
    let l = c.args.lent.now in
    let e = parts c.in-Some.e.now in
    let w = switch-is l c.registry_ref.result.now (sym c.registry_ref.ensures) in
    let s = in-state (parts c.in-Some.e.now) c.state.result T_UNBND c.is.result true c.state.ensures c.is.ensures c.if-not-is.false in
    let n = not-over (length c.args.addr.now) MOST_ADDRESS c.if-addr-gt-MOST_ADDRESS.false in
    let b : Bind.is_busy (the_switch l.providers (cells l)) e.prov c.args.addr.now c.args.qlen ≡ true = rw (w, ← c.prov.ensures) (sym c.is_busy.ensures ∙ c.if-is_busy.true) in
    c.refused-then-is_busy.ensures ∙ sym (bind-busy l.providers (cells l) c.args.fd.0 c.args.addr.now c.args.qlen c.args.amax e (sym c.in-Some.ensures.endpoint) s n b)

pub returns-clause-step : goal.returns-clause-step
returns-clause-step c =
    let l = c.args.lent.now in
    let e = parts c.in-Some.e.now in
    let w = switch-is l c.registry_ref.result.now (sym c.registry_ref.ensures) in
    let v = switch-is l c.registry_ref-2.result.now (sym c.registry_ref-2.ensures) in
    let s = in-state (parts c.in-Some.e.now) c.state.result T_UNBND c.is.result true c.state.ensures c.is.ensures c.if-not-is.false in
    let n = not-over (length c.args.addr.now) MOST_ADDRESS c.if-addr-gt-MOST_ADDRESS.false in
    let b : Bind.is_busy (the_switch l.providers (cells l)) e.prov c.args.addr.now c.args.qlen ≡ false = rw (w, ← c.prov.ensures) (sym c.is_busy.ensures ∙ c.if-is_busy.false) in
    rw (bind-free l.providers (cells l) c.args.fd.0 c.args.addr.now c.args.qlen c.args.amax e (sym c.in-Some.ensures.endpoint) s n b) (rw (c.in_ok-address.ensures, c.queue.ensures, c.prov.ensures, ← v) at c.in_ok-answer.ensures.step)

pub returns-in_err-address-clause-sure : goal.returns-in_err-address-clause-sure
returns-in_err-address-clause-sure c h =
    let l = c.args.lent.now in
    let e = parts c.in-Some.e.now in
    let w = switch-is l c.registry_ref.result.now (sym c.registry_ref.ensures) in
    let s = in-state (parts c.in-Some.e.now) c.state.result T_UNBND c.is.result true c.state.ensures c.is.ensures c.if-not-is.false in
    let n = not-over (length c.args.addr.now) MOST_ADDRESS c.if-addr-gt-MOST_ADDRESS.false in
    let b : Bind.is_busy (the_switch l.providers (cells l)) e.prov c.args.addr.now c.args.qlen ≡ false = rw (w, ← c.prov.ensures) (sym c.is_busy.ensures ∙ c.if-is_busy.false) in
    absurd (false≢true (sym h ∙ bind-effect l.providers (cells l) c.args.fd.0 c.args.addr.now c.args.qlen c.args.amax e (sym c.in-Some.ensures.endpoint) s n b))

pub returns-in_err-answer-clause-sure : goal.returns-in_err-answer-clause-sure
returns-in_err-answer-clause-sure c h =
    let l = c.args.lent.now in
    let e = parts c.in-Some.e.now in
    let w = switch-is l c.registry_ref.result.now (sym c.registry_ref.ensures) in
    let s = in-state (parts c.in-Some.e.now) c.state.result T_UNBND c.is.result true c.state.ensures c.is.ensures c.if-not-is.false in
    let n = not-over (length c.args.addr.now) MOST_ADDRESS c.if-addr-gt-MOST_ADDRESS.false in
    let b : Bind.is_busy (the_switch l.providers (cells l)) e.prov c.args.addr.now c.args.qlen ≡ false = rw (w, ← c.prov.ensures) (sym c.is_busy.ensures ∙ c.if-is_busy.false) in
    absurd (false≢true (sym h ∙ bind-effect l.providers (cells l) c.args.fd.0 c.args.addr.now c.args.qlen c.args.amax e (sym c.in-Some.ensures.endpoint) s n b))

pub open_endpoint-requires : goal.open_endpoint-requires
open_endpoint-requires c = c.requires.fit.places

pub refused-requires : goal.refused-requires
refused-requires c = c.requires.fit.places

pub returns-in-None-clause-step : goal.returns-in-None-clause-step
returns-in-None-clause-step c = c.refused.ensures ∙ refused-shut c.args.lent.now.providers (cells c.args.lent.now) c.args.fd.0 (bind_of c.args.lent.now.providers (cells c.args.lent.now) c.args.fd.0 c.args.addr.now c.args.qlen c.args.amax) (sym c.in-None.ensures.endpoint)

pub returns-in-None-clause-still : goal.returns-in-None-clause-still
returns-in-None-clause-still c = λ _. refl

pub returns-in-None-clause-kept : goal.returns-in-None-clause-kept
returns-in-None-clause-kept c = same-cells _

pub returns-in-None-clause-err : goal.returns-in-None-clause-err
returns-in-None-clause-err c = tt

pub returns-in-None-clause-sure : goal.returns-in-None-clause-sure
returns-in-None-clause-sure c = λ _. refl

pub prov-requires : goal.prov-requires
prov-requires c = open-as c.args.lent.now.providers c.args.fd.0 c.in-Some.e.now c.in-Some.ensures.open

pub state-requires : goal.state-requires
state-requires c = open-as c.args.lent.now.providers c.args.fd.0 c.in-Some.e.now c.in-Some.ensures.open

pub refused-requires-then-not-is : goal.refused-requires-then-not-is
refused-requires-then-not-is c = c.requires.fit.places

pub returns-then-not-is-clause-step : goal.returns-then-not-is-clause-step
returns-then-not-is-clause-step c =
    let s = in-state (parts c.in-Some.e.now) c.state.result T_UNBND c.is.result false c.state.ensures c.is.ensures c.if-not-is.true in
    c.refused-then-not-is.ensures ∙ refused-open c.args.lent.now.providers (cells c.args.lent.now) c.args.fd.0 (bind_of c.args.lent.now.providers (cells c.args.lent.now) c.args.fd.0 c.args.addr.now c.args.qlen c.args.amax) (parts c.in-Some.e.now) (sym c.in-Some.ensures.endpoint) (Refused TOUTSTATE) (bound-already (the_switch c.args.lent.now.providers (cells c.args.lent.now)) c.args.addr.now c.args.qlen c.args.amax (parts c.in-Some.e.now) s)

pub returns-then-not-is-clause-still : goal.returns-then-not-is-clause-still
returns-then-not-is-clause-still c = λ _. refl

pub returns-then-not-is-clause-kept : goal.returns-then-not-is-clause-kept
returns-then-not-is-clause-kept c = same-cells _

pub returns-then-not-is-clause-err : goal.returns-then-not-is-clause-err
returns-then-not-is-clause-err c = tt

pub returns-then-not-is-clause-sure : goal.returns-then-not-is-clause-sure
returns-then-not-is-clause-sure c = λ _. refl

pub refused-requires-then-addr-gt-MOST_ADDRESS : goal.refused-requires-then-addr-gt-MOST_ADDRESS
refused-requires-then-addr-gt-MOST_ADDRESS c = c.requires.fit.places

pub returns-then-addr-gt-MOST_ADDRESS-clause-step : goal.returns-then-addr-gt-MOST_ADDRESS-clause-step
returns-then-addr-gt-MOST_ADDRESS-clause-step c =
    let s = in-state (parts c.in-Some.e.now) c.state.result T_UNBND c.is.result true c.state.ensures c.is.ensures c.if-not-is.false in
    c.refused-then-addr-gt-MOST_ADDRESS.ensures ∙ refused-open c.args.lent.now.providers (cells c.args.lent.now) c.args.fd.0 (bind_of c.args.lent.now.providers (cells c.args.lent.now) c.args.fd.0 c.args.addr.now c.args.qlen c.args.amax) (parts c.in-Some.e.now) (sym c.in-Some.ensures.endpoint) (Refused TBADADDR) (long-address (the_switch c.args.lent.now.providers (cells c.args.lent.now)) c.args.addr.now c.args.qlen c.args.amax (parts c.in-Some.e.now) s c.if-addr-gt-MOST_ADDRESS.true)

pub returns-then-addr-gt-MOST_ADDRESS-clause-still : goal.returns-then-addr-gt-MOST_ADDRESS-clause-still
returns-then-addr-gt-MOST_ADDRESS-clause-still c = λ _. refl

pub returns-then-addr-gt-MOST_ADDRESS-clause-kept : goal.returns-then-addr-gt-MOST_ADDRESS-clause-kept
returns-then-addr-gt-MOST_ADDRESS-clause-kept c = same-cells _

pub returns-then-addr-gt-MOST_ADDRESS-clause-err : goal.returns-then-addr-gt-MOST_ADDRESS-clause-err
returns-then-addr-gt-MOST_ADDRESS-clause-err c = tt

pub returns-then-addr-gt-MOST_ADDRESS-clause-sure : goal.returns-then-addr-gt-MOST_ADDRESS-clause-sure
returns-then-addr-gt-MOST_ADDRESS-clause-sure c = λ _. refl

pub registry_ref-requires : goal.registry_ref-requires
registry_ref-requires c = c.requires.switch

pub refused-requires-then-is_busy : goal.refused-requires-then-is_busy
refused-requires-then-is_busy c = c.requires.fit.places

pub returns-then-is_busy-clause-still : goal.returns-then-is_busy-clause-still
returns-then-is_busy-clause-still c = λ _. refl

pub returns-then-is_busy-clause-kept : goal.returns-then-is_busy-clause-kept
returns-then-is_busy-clause-kept c = same-cells _

pub returns-then-is_busy-clause-err : goal.returns-then-is_busy-clause-err
returns-then-is_busy-clause-err c = tt

pub returns-then-is_busy-clause-sure : goal.returns-then-is_busy-clause-sure
returns-then-is_busy-clause-sure c = λ _. refl

pub registry_ref-requires-2 : goal.registry_ref-requires-2
registry_ref-requires-2 c = c.requires.switch

pub returns-in_err-address-clause-step : goal.returns-in_err-address-clause-step
returns-in_err-address-clause-step c = IfOk-from_err _ _ c.from_residual.ensures.0

pub returns-in_err-address-clause-still : goal.returns-in_err-address-clause-still
returns-in_err-address-clause-still c = IfOk-from_err _ _ c.from_residual.ensures.0

pub returns-in_err-address-clause-kept : goal.returns-in_err-address-clause-kept
returns-in_err-address-clause-kept c = same-cells _

pub returns-in_err-address-clause-err : goal.returns-in_err-address-clause-err
returns-in_err-address-clause-err c = on-any-err _ refl

pub bind_to-requires-clause-fit : goal.bind_to-requires-clause-fit
bind_to-requires-clause-fit c = c.requires.fit

pub bind_to-requires-clause-switch : goal.bind_to-requires-clause-switch
bind_to-requires-clause-switch c = c.requires.switch

pub bind_to-requires-clause-open : goal.bind_to-requires-clause-open
bind_to-requires-clause-open c = ap is_some (sym c.in-Some.ensures.endpoint)

pub returns-in_err-answer-clause-step : goal.returns-in_err-answer-clause-step
returns-in_err-answer-clause-step c = IfOk-from_err _ _ c.from_residual-in_err-answer.ensures.0

pub returns-in_err-answer-clause-still : goal.returns-in_err-answer-clause-still
returns-in_err-answer-clause-still c = IfOk-from_err _ _ c.from_residual-in_err-answer.ensures.0

pub returns-in_err-answer-clause-kept : goal.returns-in_err-answer-clause-kept
returns-in_err-answer-clause-kept c = c.in_err-answer.ensures.kept

pub returns-in_err-answer-clause-err : goal.returns-in_err-answer-clause-err
returns-in_err-answer-clause-err c = on-any-err _ c.in_err-answer.ensures.err

pub returns-clause-still : goal.returns-clause-still
returns-clause-still c = not-blocked c.args.lent.now c.bind_to.new.lent _ _ c.in_ok-answer.ensures.step

pub returns-clause-kept : goal.returns-clause-kept
returns-clause-kept c = c.in_ok-answer.ensures.kept

pub returns-clause-err : goal.returns-clause-err
returns-clause-err c = tt

pub returns-clause-sure : goal.returns-clause-sure
returns-clause-sure c = λ _. refl
