use Rattle.std.proofs.Common.{◌≡◌, refl, sym, ◌∙◌, true, false}
use Rattle.std.proofs.lemmas.Result.{IfOk-from_err}
use Rattle.xti_model.specs.Endpoint.{find_number}
use Rattle.xti_model.specs.World.{place_of}
use Rattle.xti_end.specs.Held.{parts}
use Rattle.xti_lent.specs.Lending.{cells}
use Rattle.xti_lent.proofs.Sound.{short-source}
use Rattle.xti_switch.proofs.Accepting.{Unrefused, request-there, short-options, short-data, short-answering, accept-effect, accept-refused, accept-unopened, accept-shut, accepts-kind, accepts}
use Rattle.xti_lent.proofs.Written.{own-kept}
use Rattle.xti_lent.proofs.Returned.{on-any-err, open-as, same-cells}
use Rattle.xti_switch.proofs.accept.accept.Goals as goal

pub prepare-requires-clause-address : goal.prepare-requires-clause-address
prepare-requires-clause-address c =
    short-answering (parts c.in-Some.e.now) (parts c.in-Some-open_endpoint.r.now)
    (short-source c.args.lent.now (place_of c.args.lent.now.providers c.args.fd.0) c.args.fd.0 c.in-Some.e.now c.requires.fit c.in-Some.ensures.held c.in-Some.ensures.«open»)
    (short-source c.args.lent.now (place_of c.args.lent.now.providers c.args.resfd.0) c.args.resfd.0 c.in-Some-open_endpoint.r.now c.requires.fit c.in-Some-open_endpoint.ensures.held c.in-Some-open_endpoint.ensures.«open»)

pub prepare-requires-clause-options : goal.prepare-requires-clause-options
prepare-requires-clause-options c =
    short-options c.providers.result.now c.args.fd.0 c.args.resfd.0 c.args.seq.0 c.args.opt.now c.args.udata.now (parts c.in-Some.e.now) (parts c.in-Some-open_endpoint.r.now) (c.in_default-accept_refusal.ensures c.args.fd.0 c.args.resfd.0 c.eq-is_same.ensures)

pub prepare-requires-clause-data : goal.prepare-requires-clause-data
prepare-requires-clause-data c =
    short-data c.providers.result.now c.args.fd.0 c.args.resfd.0 c.args.seq.0 c.args.opt.now c.args.udata.now (parts c.in-Some.e.now) (parts c.in-Some-open_endpoint.r.now) (c.in_default-accept_refusal.ensures c.args.fd.0 c.args.resfd.0 c.eq-is_same.ensures)

pub link-requires-clause-kind : goal.link-requires-clause-kind
link-requires-clause-kind c =
    accepts-kind (parts c.in-Some.e.now) (parts c.in-Some-open_endpoint.r.now) (find_number c.args.seq.0 (parts c.in-Some.e.now).outstanding) c.args.opt.now c.args.udata.now c.in_ok-acceptance.acceptance
    (request-there c.providers.result.now c.args.fd.0 c.args.resfd.0 c.args.seq.0 c.args.opt.now c.args.udata.now (parts c.in-Some.e.now) (parts c.in-Some-open_endpoint.r.now) (c.in_default-accept_refusal.ensures c.args.fd.0 c.args.resfd.0 c.eq-is_same.ensures)) c.in_ok-acceptance.ensures

pub returns-clause-step : goal.returns-clause-step
returns-clause-step c =
    let u : Unrefused c.args.lent.now.providers c.args.fd.0 c.args.resfd.0 c.args.seq.0 c.args.opt.now c.args.udata.now (parts c.in-Some.e.now) (parts c.in-Some-open_endpoint.r.now) =
    rw c.providers.ensures.providers at (c.in_default-accept_refusal.ensures c.args.fd.0 c.args.resfd.0 c.eq-is_same.ensures) in
    accepts c.args.lent.now c.link.new.lent c.args.fd.0 c.args.resfd.0 c.args.seq.0 c.args.opt.now c.args.udata.now (parts c.in-Some.e.now) (parts c.in-Some-open_endpoint.r.now) c.in_ok-acceptance.acceptance c.done-2.result
    (sym c.in-Some.ensures.endpoint) (sym c.in-Some-open_endpoint.ensures.endpoint) u c.in_ok-acceptance.ensures c.in_ok-link.ensures.ok c.in_ok-link.ensures.kept.providers c.done-2.ensures

pub returns-in-Some-accept_refusal-clause-step : goal.returns-in-Some-accept_refusal-clause-step
returns-in-Some-accept_refusal-clause-step c =
    c.done.ensures ∙ accept-refused c.args.lent.now.providers (cells c.args.lent.now) c.args.fd.0 c.args.resfd.0 c.args.seq.0 c.args.opt.now c.args.udata.now (parts c.in-Some.e.now) (parts c.in-Some-open_endpoint.r.now) c.in-Some-accept_refusal.reply
    (sym c.in-Some.ensures.endpoint) (sym c.in-Some-open_endpoint.ensures.endpoint) (rw c.providers.ensures.providers at (c.in-Some-accept_refusal.ensures c.args.fd.0 c.args.resfd.0 c.eq-is_same.ensures))

pub returns-in_err-acceptance-clause-sure : goal.returns-in_err-acceptance-clause-sure
returns-in_err-acceptance-clause-sure c = λ none.
    let u : Unrefused c.args.lent.now.providers c.args.fd.0 c.args.resfd.0 c.args.seq.0 c.args.opt.now c.args.udata.now (parts c.in-Some.e.now) (parts c.in-Some-open_endpoint.r.now) =
    rw c.providers.ensures.providers at (c.in_default-accept_refusal.ensures c.args.fd.0 c.args.resfd.0 c.eq-is_same.ensures) in
    let no : true ≡ false = sym (accept-effect c.args.lent.now.providers (cells c.args.lent.now) c.args.fd.0 c.args.resfd.0 c.args.seq.0 c.args.opt.now c.args.udata.now (parts c.in-Some.e.now) (parts c.in-Some-open_endpoint.r.now) (sym c.in-Some.ensures.endpoint) (sym c.in-Some-open_endpoint.ensures.endpoint) u) ∙ none in
    cc no

pub returns-in_err-link-clause-sure : goal.returns-in_err-link-clause-sure
returns-in_err-link-clause-sure c = λ none.
    let u : Unrefused c.args.lent.now.providers c.args.fd.0 c.args.resfd.0 c.args.seq.0 c.args.opt.now c.args.udata.now (parts c.in-Some.e.now) (parts c.in-Some-open_endpoint.r.now) =
    rw c.providers.ensures.providers at (c.in_default-accept_refusal.ensures c.args.fd.0 c.args.resfd.0 c.eq-is_same.ensures) in
    let no : true ≡ false = sym (accept-effect c.args.lent.now.providers (cells c.args.lent.now) c.args.fd.0 c.args.resfd.0 c.args.seq.0 c.args.opt.now c.args.udata.now (parts c.in-Some.e.now) (parts c.in-Some-open_endpoint.r.now) (sym c.in-Some.ensures.endpoint) (sym c.in-Some-open_endpoint.ensures.endpoint) u) ∙ none in
    cc no

pub returns-clause-still : goal.returns-clause-still
returns-clause-still c = λ none.
    let no = sym c.done-2.ensures ∙ none in
    cc no

pub returns-in_default-open_endpoint-clause-step : goal.returns-in_default-open_endpoint-clause-step
returns-in_default-open_endpoint-clause-step c =
    c.refused-in_default-open_endpoint.ensures ∙ accept-unopened c.args.lent.now.providers (cells c.args.lent.now) c.args.fd.0 c.args.resfd.0 c.args.seq.0 c.args.opt.now c.args.udata.now (parts c.in-Some.e.now)
    (sym c.in-Some.ensures.endpoint) (sym c.in_default-open_endpoint.ensures.endpoint)

pub returns-in_default-clause-step : goal.returns-in_default-clause-step
returns-in_default-clause-step c =
    c.refused.ensures ∙ accept-shut c.args.lent.now.providers (cells c.args.lent.now) c.args.fd.0 c.args.resfd.0 c.args.seq.0 c.args.opt.now c.args.udata.now (sym c.in_default.ensures.endpoint)

pub returns-in_default-clause-still : goal.returns-in_default-clause-still
returns-in_default-clause-still c = λ none. refl

pub returns-in_default-clause-kept : goal.returns-in_default-clause-kept
returns-in_default-clause-kept c = same-cells _

pub returns-in_default-clause-sure : goal.returns-in_default-clause-sure
returns-in_default-clause-sure c = λ none. refl

pub returns-in_default-open_endpoint-clause-still : goal.returns-in_default-open_endpoint-clause-still
returns-in_default-open_endpoint-clause-still c = λ none. refl

pub returns-in_default-open_endpoint-clause-kept : goal.returns-in_default-open_endpoint-clause-kept
returns-in_default-open_endpoint-clause-kept c = same-cells _

pub returns-in_default-open_endpoint-clause-sure : goal.returns-in_default-open_endpoint-clause-sure
returns-in_default-open_endpoint-clause-sure c = λ none. refl

pub returns-in-Some-accept_refusal-clause-still : goal.returns-in-Some-accept_refusal-clause-still
returns-in-Some-accept_refusal-clause-still c = λ none. refl

pub returns-in-Some-accept_refusal-clause-kept : goal.returns-in-Some-accept_refusal-clause-kept
returns-in-Some-accept_refusal-clause-kept c = same-cells _

pub returns-in-Some-accept_refusal-clause-sure : goal.returns-in-Some-accept_refusal-clause-sure
returns-in-Some-accept_refusal-clause-sure c = λ none. refl

pub prepare-requires-clause-request : goal.prepare-requires-clause-request
prepare-requires-clause-request c =
    request-there c.providers.result.now c.args.fd.0 c.args.resfd.0 c.args.seq.0 c.args.opt.now c.args.udata.now (parts c.in-Some.e.now) (parts c.in-Some-open_endpoint.r.now) (c.in_default-accept_refusal.ensures c.args.fd.0 c.args.resfd.0 c.eq-is_same.ensures)

pub returns-in_err-acceptance-clause-step : goal.returns-in_err-acceptance-clause-step
returns-in_err-acceptance-clause-step c = IfOk-from_err _ _ c.from_residual.ensures.0

pub returns-in_err-acceptance-clause-still : goal.returns-in_err-acceptance-clause-still
returns-in_err-acceptance-clause-still c = IfOk-from_err _ _ c.from_residual.ensures.0

pub returns-in_err-acceptance-clause-kept : goal.returns-in_err-acceptance-clause-kept
returns-in_err-acceptance-clause-kept c = same-cells _

pub returns-in_err-acceptance-clause-err : goal.returns-in_err-acceptance-clause-err
returns-in_err-acceptance-clause-err c = on-any-err _ refl

pub link-requires-clause-own : goal.link-requires-clause-own
link-requires-clause-own c = c.requires.fit.places

pub link-requires-clause-switch : goal.link-requires-clause-switch
link-requires-clause-switch c = c.requires.switch

pub returns-in_err-link-clause-step : goal.returns-in_err-link-clause-step
returns-in_err-link-clause-step c = IfOk-from_err _ _ c.from_residual-in_err-link.ensures.0

pub returns-in_err-link-clause-still : goal.returns-in_err-link-clause-still
returns-in_err-link-clause-still c = IfOk-from_err _ _ c.from_residual-in_err-link.ensures.0

pub returns-in_err-link-clause-kept : goal.returns-in_err-link-clause-kept
returns-in_err-link-clause-kept c = c.in_err-link.ensures.kept

pub returns-in_err-link-clause-err : goal.returns-in_err-link-clause-err
returns-in_err-link-clause-err c = on-any-err _ c.in_err-link.ensures.err

pub returns-clause-kept : goal.returns-clause-kept
returns-clause-kept c = c.in_ok-link.ensures.kept

pub returns-clause-sure : goal.returns-clause-sure
returns-clause-sure c = λ none. refl

pub open_endpoint-requires : goal.open_endpoint-requires
open_endpoint-requires c = c.requires.fit.places

pub refused-requires : goal.refused-requires
refused-requires c = c.requires.fit.places

pub returns-in_default-clause-err : goal.returns-in_default-clause-err
returns-in_default-clause-err c = tt

pub open_endpoint-requires-2 : goal.open_endpoint-requires-2
open_endpoint-requires-2 c = c.requires.fit.places

pub refused-requires-in_default-open_endpoint : goal.refused-requires-in_default-open_endpoint
refused-requires-in_default-open_endpoint c = c.requires.fit.places

pub returns-in_default-open_endpoint-clause-err : goal.returns-in_default-open_endpoint-clause-err
returns-in_default-open_endpoint-clause-err c = tt

pub accept_refusal-requires-clause-listener : goal.accept_refusal-requires-clause-listener
accept_refusal-requires-clause-listener c = open-as c.args.lent.now.providers c.args.fd.0 c.in-Some.e.now c.in-Some.ensures.open

pub accept_refusal-requires-clause-responding : goal.accept_refusal-requires-clause-responding
accept_refusal-requires-clause-responding c = open-as c.args.lent.now.providers c.args.resfd.0 c.in-Some-open_endpoint.r.now c.in-Some-open_endpoint.ensures.open

pub done-requires : goal.done-requires
done-requires c = c.requires.fit.places

pub returns-in-Some-accept_refusal-clause-err : goal.returns-in-Some-accept_refusal-clause-err
returns-in-Some-accept_refusal-clause-err c = tt

pub prepare-requires-clause-listener : goal.prepare-requires-clause-listener
prepare-requires-clause-listener c = open-as c.args.lent.now.providers c.args.fd.0 c.in-Some.e.now c.in-Some.ensures.open

pub prepare-requires-clause-responding : goal.prepare-requires-clause-responding
prepare-requires-clause-responding c = open-as c.args.lent.now.providers c.args.resfd.0 c.in-Some-open_endpoint.r.now c.in-Some-open_endpoint.ensures.open

pub done-requires-2 : goal.done-requires-2
done-requires-2 c = own-kept c.args.lent.now c.link.new.lent c.in_ok-link.ensures.kept c.requires.fit.places

pub returns-clause-err : goal.returns-clause-err
returns-clause-err c = tt
