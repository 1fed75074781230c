use Rattle.std.proofs.Common.{sym, ap, subst, ◌∙◌}
use Rattle.xti_model.specs.declared.profile.Providers.{Providers}
use Rattle.xti_lent.specs.Lending.{cell_lent}
use Rattle.xti_hall_rule.specs.declared.view.View.{View}
use Rattle.xti_hall_rule.specs.Steps.{at}
use Rattle.xti_gather.specs.Lends.{Just}
use Rattle.xti_gather.proofs.Holdings.{just_held}
use Rattle.xti_step.proofs.Looked.{looked_later, looked_mine, looked_mark, looked_idle}
use Rattle.xti_step.proofs.Outcomes.{lends_same}
use Rattle.xti_step.proofs.Standings.{stands-still}
use Rattle.xti_step.proofs.stepping.begin.Goals as goal

pub pause-requires-clause-cells : goal.pause-requires-clause-cells
pause-requires-clause-cells g c =
    let t = c.gather.ensures in
    let v = c.gather.new.seat.view in
    let just = subst (λ (p : Providers). Just p (cell_lent c.gather.new.lent) c.args.call.now) (sym t.providers) t.just in
    subst (λ (p : Providers). Just p (at v) c.args.call.now) t.lends.providers (just_held v c.gather.new.lent c.gather.new.lent.providers c.args.call.now t.lends.held just)

pub leave_all-requires-clause-lends : goal.leave_all-requires-clause-lends
leave_all-requires-clause-lends g c =
    let e = c.in_default.ensures.err in
    lends_same c.gather.new.seat.view c.begin.new.seat.view c.gather.new.lent (ap (λ (z : View). z.setting) e.2) (ap (λ (z : View). z.held) e.2) c.gather.ensures.lends

pub returns-clause-ready : goal.returns-clause-ready
returns-clause-ready g c = record {
  gathered = c.gather.new.seat.view;
  rest = c.gather.ensures.rest;
  lends = c.gather.ensures.lends;
  just = subst (λ (p : Providers). Just p (cell_lent c.gather.new.lent) c.args.call.now) (sym c.gather.ensures.providers) c.gather.ensures.just;
  pen = c.in-Ok.ensures.ok;
  holds = c.in-Ok.ensures.pen.0;
  numbered = ap (λ (z : View). z.numbered) c.in-Ok.ensures.ok ∙ (ap (λ (z : View). z.numbered) c.gather.ensures.rest ∙ c.requires.standing.numbered);
  sends = c.calls_send_bytes.ensures;
}

pub returns-in_default-clause-hall : goal.returns-in_default-clause-hall
returns-in_default-clause-hall g c = (c.leave_all.ensures.hall.0 ∙ (c.begin.ensures.hall.0 ∙ c.gather.ensures.hall.0), c.leave_all.ensures.hall.1 ∙ (c.begin.ensures.hall.1 ∙ c.gather.ensures.hall.1))

pub returns-in_default-clause-first : goal.returns-in_default-clause-first
returns-in_default-clause-first g c = c.gather.ensures.first

pub returns-in_default-clause-providers : goal.returns-in_default-clause-providers
returns-in_default-clause-providers g c =
    let e = c.in_default.ensures.err in
    c.leave_all.ensures.lends.providers ∙ (ap (λ (z : View). z.setting.providers) c.leave_all.ensures.rest ∙ (ap (λ (z : View). z.setting.providers) e.2 ∙ (sym c.gather.ensures.lends.providers ∙ c.gather.ensures.providers)))

pub returns-in_default-clause-later : goal.returns-in_default-clause-later
returns-in_default-clause-later g c =
    let e = c.in_default.ensures.err in
    looked_later c.args.seat.now.view c.gather.new.seat.view c.begin.new.seat.view c.leave_all.new.seat.view c.gather.ensures.rest e.0 e.1 e.2 e.3 c.leave_all.ensures.rest

pub returns-in_default-clause-err : goal.returns-in_default-clause-err
returns-in_default-clause-err g c =
    let e = c.in_default.ensures.err in
    looked_mine c.args.seat.now.view c.gather.new.seat.view c.begin.new.seat.view c.leave_all.new.seat.view c.gather.ensures.rest e.0 e.1 e.2 e.3 c.leave_all.ensures.rest

pub returns-in_default-clause-mark : goal.returns-in_default-clause-mark
returns-in_default-clause-mark g c =
    let e = c.in_default.ensures.err in
    looked_mark c.args.seat.now.view c.gather.new.seat.view c.begin.new.seat.view c.leave_all.new.seat.view c.gather.ensures.rest e.0 e.1 e.2 e.3 c.leave_all.ensures.rest

pub returns-in_default-clause-idle : goal.returns-in_default-clause-idle
returns-in_default-clause-idle g c =
    let e = c.in_default.ensures.err in
    (looked_idle c.args.seat.now.view c.gather.new.seat.view c.begin.new.seat.view c.leave_all.new.seat.view c.gather.ensures.rest e.0 e.1 e.2 e.3 c.leave_all.ensures.rest c.leave_all.ensures.none, c.leave_all.ensures.empty)

pub returns-in_default-clause-standing : goal.returns-in_default-clause-standing
returns-in_default-clause-standing g c = stands-still c.begin.new.seat.view c.leave_all.new.seat.view c.leave_all.ensures.rest c.in_default.ensures.standing

pub returns-clause-hall : goal.returns-clause-hall
returns-clause-hall g c = (c.begin.ensures.hall.0 ∙ c.gather.ensures.hall.0, c.begin.ensures.hall.1 ∙ c.gather.ensures.hall.1)

pub returns-clause-first : goal.returns-clause-first
returns-clause-first g c = c.gather.ensures.first

pub returns-clause-providers : goal.returns-clause-providers
returns-clause-providers g c = c.gather.ensures.providers

pub returns-clause-standing : goal.returns-clause-standing
returns-clause-standing g c = c.in-Ok.ensures.standing
