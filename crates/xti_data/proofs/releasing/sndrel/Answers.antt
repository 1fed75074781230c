use Rattle.std.proofs.Common.{◌≡◌, ◌∙◌, refl, sym, ap, true, false}
use Rattle.std.specs.Prelude.{is_some}
use Rattle.std.proofs.lemmas.Result.{IfOk-from_err}
use Rattle.xti_model.specs.declared.profile.Providers.{Providers}
use Rattle.xti_end.specs.Held.{parts}
use Rattle.xti_lent.specs.Lending.{cells, number_of}
use Rattle.xti_lent.proofs.Written.{own-kept}
use Rattle.xti_data.specs.Sends.{release_refusal}
use Rattle.xti_data.proofs.Reached.{peer-named, peer-reached}
use Rattle.xti_data.proofs.ReleaseRows.{release-effect, release-refused, release-shut, release-told}
use Rattle.xti_lent.proofs.Returned.{not-blocked, on-any-err, open-as, same-cells}
use Rattle.xti_data.proofs.releasing.sndrel.Goals as goal

pub open_endpoint-requires : goal.open_endpoint-requires
open_endpoint-requires c = c.requires.fit.places

pub refused-requires : goal.refused-requires
refused-requires c = c.requires.fit.places

pub returns-in_default-clause-step : goal.returns-in_default-clause-step
returns-in_default-clause-step c = c.refused.ensures ∙ release-shut c.args.lent.now.providers (cells c.args.lent.now) c.args.fd.0 c.args.udata.now (sym c.in_default.ensures.endpoint)

pub returns-in_default-clause-still : goal.returns-in_default-clause-still
returns-in_default-clause-still c = λ _. refl

pub returns-in_default-clause-kept : goal.returns-in_default-clause-kept
returns-in_default-clause-kept c = same-cells _

pub returns-in_default-clause-err : goal.returns-in_default-clause-err
returns-in_default-clause-err c = tt

pub returns-in_default-clause-sure : goal.returns-in_default-clause-sure
returns-in_default-clause-sure c = λ _. refl

pub refusal-requires : goal.refusal-requires
refusal-requires c = open-as c.args.lent.now.providers c.args.fd.0 c.in-Some.e.now c.in-Some.ensures.open

pub done-requires : goal.done-requires
done-requires c = c.requires.fit.places

pub returns-in-Some-refusal-clause-step : goal.returns-in-Some-refusal-clause-step
returns-in-Some-refusal-clause-step c =
    let l = c.args.lent.now in
    c.done.ensures
    ∙ release-refused l.providers (cells l) c.args.fd.0 c.args.udata.now (parts c.in-Some.e.now) (sym c.in-Some.ensures.endpoint) c.in-Some-refusal.reply
    (sym (c.in-Some-refusal.ensures.refusal ∙ ap (λ (p : Providers). release_refusal p c.args.udata.now c.in-Some.e.now) c.providers.ensures.providers))

pub returns-in-Some-refusal-clause-still : goal.returns-in-Some-refusal-clause-still
returns-in-Some-refusal-clause-still c = λ _. refl

pub returns-in-Some-refusal-clause-kept : goal.returns-in-Some-refusal-clause-kept
returns-in-Some-refusal-clause-kept c = same-cells _

pub returns-in-Some-refusal-clause-err : goal.returns-in-Some-refusal-clause-err
returns-in-Some-refusal-clause-err c = tt

pub returns-in-Some-refusal-clause-sure : goal.returns-in-Some-refusal-clause-sure
returns-in-Some-refusal-clause-sure c = λ _. refl

pub tell-requires-clause-own : goal.tell-requires-clause-own
tell-requires-clause-own c = c.requires.fit.places

pub tell-requires-clause-sender : goal.tell-requires-clause-sender
tell-requires-clause-sender c = ap is_some c.in-Some.ensures.held

pub tell-requires-clause-peer : goal.tell-requires-clause-peer
tell-requires-clause-peer c =
    peer-reached c.args.lent.now c.args.fd.0 (parts c.in-Some.e.now) c.peer-peer.result c.requires.reach (sym c.in-Some.ensures.endpoint) (c.peer-peer.ensures ∙ peer-named c.in-Some.e.now.body)

pub tell-requires-clause-data : goal.tell-requires-clause-data
tell-requires-clause-data c = c.in_default-refusal.ensures.data refl

pub returns-in_err-tell-clause-step : goal.returns-in_err-tell-clause-step
returns-in_err-tell-clause-step c = IfOk-from_err _ _ c.from_residual.ensures.0

pub returns-in_err-tell-clause-still : goal.returns-in_err-tell-clause-still
returns-in_err-tell-clause-still c = IfOk-from_err _ _ c.from_residual.ensures.0

pub returns-in_err-tell-clause-kept : goal.returns-in_err-tell-clause-kept
returns-in_err-tell-clause-kept c = c.in_err-tell.ensures.kept

pub returns-in_err-tell-clause-err : goal.returns-in_err-tell-clause-err
returns-in_err-tell-clause-err c = on-any-err _ c.in_err-tell.ensures.err

pub returns-in_err-tell-clause-sure : goal.returns-in_err-tell-clause-sure
returns-in_err-tell-clause-sure c =
    λ none.
    let l = c.args.lent.now in
    let unrefused = sym (c.in_default-refusal.ensures.refusal ∙ ap (λ (p : Providers). release_refusal p c.args.udata.now c.in-Some.e.now) c.providers.ensures.providers) in
    let no : true ≡ false = sym (release-effect l.providers (cells l) c.args.fd.0 c.args.udata.now (parts c.in-Some.e.now) (sym c.in-Some.ensures.endpoint) unrefused) ∙ none in
    cc no

pub done-requires-2 : goal.done-requires-2
done-requires-2 c = own-kept c.args.lent.now c.tell.new.lent c.in_ok-tell.ensures.kept c.requires.fit.places

pub returns-clause-step : goal.returns-clause-step
returns-clause-step c =
    let l = c.args.lent.now in
    let unrefused = sym (c.in_default-refusal.ensures.refusal ∙ ap (λ (p : Providers). release_refusal p c.args.udata.now c.in-Some.e.now) c.providers.ensures.providers) in
    release-told l c.tell.new.lent c.args.fd.0 c.args.udata.now (parts c.in-Some.e.now) (number_of c.peer-peer.result) c.done-2.result (sym c.in-Some.ensures.endpoint) unrefused
    (c.peer-peer.ensures ∙ peer-named c.in-Some.e.now.body) c.in_ok-tell.ensures.kept c.in_ok-tell.ensures.ok c.done-2.ensures

pub returns-clause-still : goal.returns-clause-still
returns-clause-still c = not-blocked c.args.lent.now c.tell.new.lent c.done-2.result _ c.done-2.ensures

pub returns-clause-kept : goal.returns-clause-kept
returns-clause-kept c = c.in_ok-tell.ensures.kept

pub returns-clause-err : goal.returns-clause-err
returns-clause-err c = tt

pub returns-clause-sure : goal.returns-clause-sure
returns-clause-sure c = λ _. refl
