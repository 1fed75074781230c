use Rattle.std.proofs.Common.{◌≡◌, ◌∙◌, refl, sym, ap, true, false}
use Rattle.std.specs.Prelude.{is_some}
use Rattle.std.proofs.lemmas.Result.{IfOk-from_err}
use Rattle.xti_model.specs.Switch.{listener}
use Rattle.xti_model.specs.World.{the_switch}
use Rattle.xti_end.specs.Held.{parts}
use Rattle.xti_lent.specs.Lending.{cells, number_of}
use Rattle.xti_lent.proofs.Lendings.{switch-is}
use Rattle.xti_lent.proofs.Written.{own-kept}
use Rattle.xti_switch.proofs.Asking.{connect_of, connects, little-data, short-options}
use Rattle.xti_switch.proofs.Plans.{effect-open, refused-open, refused-shut}
use Rattle.xti_lent.proofs.Returned.{not-blocked, on-any-err, open-as, same-cells}
use Rattle.xti_switch.proofs.connect.connect.Goals as goal

pub returns-clause-step : goal.returns-clause-step
returns-clause-step c =
    let l = c.args.lent.now in
    let t : number_of c.listener-listener.result ≡ listener (the_switch c.args.lent.now.providers (cells c.args.lent.now)) (parts c.in-Some.e.now).prov c.args.addr.now c.args.fd.0 =
    rw (switch-is c.args.lent.now c.registry_ref.result.now (sym c.registry_ref.ensures), ← c.prov.ensures) c.listener-listener.ensures in
    connects l c.request.new.lent c.args.fd.0 c.args.addr.now c.args.opt.now c.args.udata.now (parts c.in-Some.e.now) (number_of c.listener-listener.result) c.outcome.result c.with_outcome.result
    (sym c.in-Some.ensures.endpoint) c.in_default-connect_refusal.ensures t (rw (← c.nonblock-nonblock.ensures) c.outcome.ensures) c.in_ok-request.ensures.ok c.in_ok-request.ensures.kept.providers c.with_outcome.ensures

pub open_endpoint-requires : goal.open_endpoint-requires
open_endpoint-requires c = c.requires.fit.places

pub refused-requires : goal.refused-requires
refused-requires c = c.requires.fit.places

pub returns-in_default-clause-step : goal.returns-in_default-clause-step
returns-in_default-clause-step c = c.refused.ensures ∙ refused-shut c.args.lent.now.providers (cells c.args.lent.now) c.args.fd.0 (connect_of c.args.lent.now.providers (cells c.args.lent.now) c.args.fd.0 c.args.addr.now c.args.opt.now c.args.udata.now) (sym c.in_default.ensures.endpoint)

pub returns-in_default-clause-still : goal.returns-in_default-clause-still
returns-in_default-clause-still c = λ _. refl

pub returns-in_default-clause-kept : goal.returns-in_default-clause-kept
returns-in_default-clause-kept c = same-cells _

pub returns-in_default-clause-err : goal.returns-in_default-clause-err
returns-in_default-clause-err c = tt

pub returns-in_default-clause-sure : goal.returns-in_default-clause-sure
returns-in_default-clause-sure c = λ _. refl

pub connect_refusal-requires : goal.connect_refusal-requires
connect_refusal-requires c = open-as c.args.lent.now.providers c.args.fd.0 c.in-Some.e.now c.in-Some.ensures.open

pub done-requires : goal.done-requires
done-requires c = c.requires.fit.places

pub returns-in-Some-connect_refusal-clause-step : goal.returns-in-Some-connect_refusal-clause-step
returns-in-Some-connect_refusal-clause-step c = c.done.ensures ∙ refused-open c.args.lent.now.providers (cells c.args.lent.now) c.args.fd.0 (connect_of c.args.lent.now.providers (cells c.args.lent.now) c.args.fd.0 c.args.addr.now c.args.opt.now c.args.udata.now) (parts c.in-Some.e.now) (sym c.in-Some.ensures.endpoint) c.in-Some-connect_refusal.reply c.in-Some-connect_refusal.ensures

pub returns-in-Some-connect_refusal-clause-still : goal.returns-in-Some-connect_refusal-clause-still
returns-in-Some-connect_refusal-clause-still c = λ _. refl

pub returns-in-Some-connect_refusal-clause-kept : goal.returns-in-Some-connect_refusal-clause-kept
returns-in-Some-connect_refusal-clause-kept c = same-cells _

pub returns-in-Some-connect_refusal-clause-err : goal.returns-in-Some-connect_refusal-clause-err
returns-in-Some-connect_refusal-clause-err c = tt

pub returns-in-Some-connect_refusal-clause-sure : goal.returns-in-Some-connect_refusal-clause-sure
returns-in-Some-connect_refusal-clause-sure c = λ _. refl

pub nonblock-nonblock-requires : goal.nonblock-nonblock-requires
nonblock-nonblock-requires c = open-as c.args.lent.now.providers c.args.fd.0 c.in-Some.e.now c.in-Some.ensures.open

pub registry_ref-requires : goal.registry_ref-requires
registry_ref-requires c = c.requires.switch

pub prov-requires : goal.prov-requires
prov-requires c = open-as c.args.lent.now.providers c.args.fd.0 c.in-Some.e.now c.in-Some.ensures.open

pub request-requires-clause-fit : goal.request-requires-clause-fit
request-requires-clause-fit c = c.requires.fit

pub request-requires-clause-open : goal.request-requires-clause-open
request-requires-clause-open c = ap is_some (sym c.in-Some.ensures.endpoint)

pub request-requires-clause-options : goal.request-requires-clause-options
request-requires-clause-options c = short-options c.args.addr.now c.args.opt.now c.args.udata.now (parts c.in-Some.e.now) c.in_default-connect_refusal.ensures

pub request-requires-clause-data : goal.request-requires-clause-data
request-requires-clause-data c = little-data c.args.addr.now c.args.opt.now c.args.udata.now (parts c.in-Some.e.now) c.in_default-connect_refusal.ensures

pub returns-in_err-request-clause-step : goal.returns-in_err-request-clause-step
returns-in_err-request-clause-step c = IfOk-from_err _ _ c.from_residual.ensures.0

pub returns-in_err-request-clause-still : goal.returns-in_err-request-clause-still
returns-in_err-request-clause-still c = IfOk-from_err _ _ c.from_residual.ensures.0

pub returns-in_err-request-clause-kept : goal.returns-in_err-request-clause-kept
returns-in_err-request-clause-kept c = c.in_err-request.ensures.kept

pub returns-in_err-request-clause-err : goal.returns-in_err-request-clause-err
returns-in_err-request-clause-err c = on-any-err _ c.in_err-request.ensures.err

pub returns-in_err-request-clause-sure : goal.returns-in_err-request-clause-sure
returns-in_err-request-clause-sure c =
    λ none.
    let no : true ≡ false = sym (effect-open c.args.lent.now.providers (cells c.args.lent.now) c.args.fd.0 (connect_of c.args.lent.now.providers (cells c.args.lent.now) c.args.fd.0 c.args.addr.now c.args.opt.now c.args.udata.now) (parts c.in-Some.e.now) (sym c.in-Some.ensures.endpoint) c.in_default-connect_refusal.ensures) ∙ none in
    cc no

pub with_outcome-requires : goal.with_outcome-requires
with_outcome-requires c = own-kept c.args.lent.now c.request.new.lent c.in_ok-request.ensures.kept c.requires.fit.places

pub returns-clause-still : goal.returns-clause-still
returns-clause-still c = not-blocked c.args.lent.now c.request.new.lent c.with_outcome.result _ c.with_outcome.ensures

pub returns-clause-kept : goal.returns-clause-kept
returns-clause-kept c = c.in_ok-request.ensures.kept

pub returns-clause-err : goal.returns-clause-err
returns-clause-err c = tt

pub returns-clause-sure : goal.returns-clause-sure
returns-clause-sure c = λ _. refl
