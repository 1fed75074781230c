use Rattle.std.proofs.Common.{sym}
use Rattle.std.proofs.lemmas.Result.{IfOk-weaker, on_err_weaker}
use Rattle.xti_end.specs.Frames.{request_in}
use Rattle.xti_lent.proofs.Opened.{open_here, open_written, open_same, closed_unchanged}
use Rattle.xti_lent.proofs.Written.{unwritten}
use Rattle.xti_switch.specs.Connects.{queued}
use Rattle.xti_switch.proofs.requests.queue.Goals as goal

pub push_request-requires-clause-open : goal.push_request-requires-clause-open
push_request-requires-clause-open c = open_here c.args.lent.now c.args.listener.0 c.in-Some.place c.endpoint.result.now c.requires.own c.in-Some.ensures.place (sym c.endpoint.ensures.now)

pub returns-in-Some-clause-ok : goal.returns-in-Some-clause-ok
returns-in-Some-clause-ok c =
    IfOk-weaker c.push_request.result _ _ (λ u h. open_written c.args.lent.now c.args.listener.0 c.in-Some.place c.endpoint.result.now c.push_request.new.l (queued (request_in c.args.caller.0 c.args.frame) c.args.seq.0) c.requires.own c.in-Some.ensures.place (sym c.endpoint.ensures.now) h) c.push_request.ensures.cell

pub returns-in-Some-clause-kept : goal.returns-in-Some-clause-kept
returns-in-Some-clause-kept c = open_same c.args.lent.now c.in-Some.place c.endpoint.result.now c.push_request.new.l (sym c.endpoint.ensures.now) c.push_request.ensures.place

pub returns-in-Some-clause-err : goal.returns-in-Some-clause-err
returns-in-Some-clause-err c = on_err_weaker c.push_request.result (λ h. rw h (unwritten c.args.lent.now c.in-Some.place c.endpoint.result.now (sym c.endpoint.ensures.now))) c.push_request.ensures.err

pub returns-in-None-clause-ok : goal.returns-in-None-clause-ok
returns-in-None-clause-ok c = closed_unchanged c.args.lent.now c.args.listener.0 (queued (request_in c.args.caller.0 c.args.frame) c.args.seq.0) c.in-None.ensures.none
