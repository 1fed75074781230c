use Rattle.std.proofs.Common.{sym, ap, ◌∙◌}
use Rattle.std.proofs.lemmas.Result.{IfOk-weaker, on_err_weaker}
use Rattle.xti_model.specs.Endpoint.{Disconnect, in_state}
use Rattle.xti_model.specs.Calls.Connect.{turned_away}
use Rattle.xti_base.specs.declared.kinds.State.TheVariants.{T_OUTCON}
use Rattle.xti_end.specs.Held.{cell, with_disconnect, with_parts}
use Rattle.xti_lent.proofs.Opened.{open_here, open_written, open_same, closed_unchanged}
use Rattle.xti_lent.proofs.Written.{unwritten}
use Rattle.xti_switch.proofs.requests.turn_away.Goals as goal

pub push_refusal-requires-clause-open : goal.push_refusal-requires-clause-open
push_refusal-requires-clause-open c = open_here c.args.lent.now c.args.fd.0 c.in-Some.place c.endpoint.result.now c.requires c.in-Some.ensures.place (sym c.endpoint.ensures.now)

pub returns-in-Some-clause-ok : goal.returns-in-Some-clause-ok
returns-in-Some-clause-ok c =
    let d = ap (λ (d : Disconnect). cell (with_parts (λ e. in_state T_OUTCON (with_disconnect d e)) c.endpoint.result.now)) c.in_ok-frame.ensures.disconnect in
    IfOk-weaker c.push_refusal.result _ _ (λ u h. open_written c.args.lent.now c.args.fd.0 c.in-Some.place c.endpoint.result.now c.push_refusal.new.e (turned_away c.args.reason) c.requires c.in-Some.ensures.place (sym c.endpoint.ensures.now) (h ∙ d)) c.push_refusal.ensures.cell

pub returns-in-Some-clause-kept : goal.returns-in-Some-clause-kept
returns-in-Some-clause-kept c = open_same c.args.lent.now c.in-Some.place c.endpoint.result.now c.push_refusal.new.e (sym c.endpoint.ensures.now) c.push_refusal.ensures.place

pub returns-in-Some-clause-err : goal.returns-in-Some-clause-err
returns-in-Some-clause-err c = on_err_weaker c.push_refusal.result (λ h. rw h (unwritten c.args.lent.now c.in-Some.place c.endpoint.result.now (sym c.endpoint.ensures.now))) c.push_refusal.ensures.err

pub returns-in-None-clause-ok : goal.returns-in-None-clause-ok
returns-in-None-clause-ok c = closed_unchanged c.args.lent.now c.args.fd.0 (turned_away c.args.reason) c.in-None.ensures.none
