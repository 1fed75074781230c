use Rattle.std.proofs.Common.{ap}
use Rattle.xti_hall_rule.specs.declared.view.View.{View}
use Rattle.xti_step.proofs.Outcomes.{lends_same}
use Rattle.xti_step.proofs.stepping.give_up.Goals as goal

pub leave_all-requires-clause-lends : goal.leave_all-requires-clause-lends
leave_all-requires-clause-lends c =
    let e = c.return_pen.ensures.view in
    lends_same c.args.seat.now.view c.return_pen.new.seat.view c.args.lent.now (ap (λ (z : View). z.setting) e) (ap (λ (z : View). z.held) e) c.requires.lends
