use Rattle.std.proofs.Common.{◌≡◌, ◌∙◌, List, Ok, Err, sym, ap}
use Rattle.std.proofs.lemmas.Result.{IfOk-weaker}
use Rattle.xti_model.specs.World.{Change, changed}
use Rattle.xti_lent.specs.Lending.{cells, open_at}
use Rattle.xti_switch.specs.Connects.{number_for}
use Rattle.xti_switch.proofs.Asking.{if-some, if-some-too, request-taken, request-turned}
use Rattle.xti_switch.proofs.connect.request.Goals as goal

pub returns-in-Ok-clause-ok : goal.returns-in-Ok-clause-ok
returns-in-Ok-clause-ok c =
    let l = c.args.lent.now in
    let n : number_for (open_at c.args.lent.now c.in-Some.listener.0) ≡ Ok c.in-Ok.seq = sym c.number_for.ensures ∙ c.in-Ok.is in
    rw c.in-Some.is (IfOk-weaker c.ask.result _ _
    (λ u h. if-some-too _ _ (open_at l c.args.fd.0) h (λ e k. k ∙ ap (λ (cs : List Change). changed c.args.lent.now.providers (cells c.args.lent.now) cs) (sym (request-taken (open_at c.args.lent.now c.in-Some.listener.0) c.in-Some.listener.0 c.args.fd.0 c.args.opt.now c.args.udata.now e c.in-Ok.seq n))))
    c.ask.ensures.ok)

pub returns-in-Err-clause-ok : goal.returns-in-Err-clause-ok
returns-in-Err-clause-ok c =
    let l = c.args.lent.now in
    let n : number_for (open_at c.args.lent.now c.in-Some.listener.0) ≡ Err c.in-Err.reason = sym c.number_for.ensures ∙ c.in-Err.is in
    rw c.in-Some.is (IfOk-weaker c.turn_away-in-Err.result _ _
    (λ u h. if-some _ (open_at l c.args.fd.0) (λ e. h ∙ ap (λ (cs : List Change). changed c.args.lent.now.providers (cells c.args.lent.now) cs) (sym (request-turned (open_at c.args.lent.now c.in-Some.listener.0) c.in-Some.listener.0 c.args.fd.0 c.args.opt.now c.args.udata.now e c.in-Err.reason n))))
    c.turn_away-in-Err.ensures.ok)
