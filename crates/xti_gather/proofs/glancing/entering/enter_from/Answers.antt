use Rattle.std.proofs.Common.{◌+◌, ◌∙◌, sym, ap, arith}
use Rattle.xti_model.specs.World.{places}
use Rattle.xti_hall_rule.specs.declared.view.View.{View}
use Rattle.xti_gather.proofs.Holdings.{same-providers}
use Rattle.xti_gather.proofs.Marks.{can-enter, marked-within}
use Rattle.xti_gather.proofs.glancing.entering.enter_from.Goals as goal

pub leave_unless_below-requires-clause-cell : goal.leave_unless_below-requires-clause-cell
leave_unless_below-requires-clause-cell g c =
    let lt = marked-within c.args.marks.now c.args.first c.requires.first.marked in
    let r = c.requires.room in
    omega (arith, lt, r)

pub enter_marked-requires-clause-free : goal.enter_marked-requires-clause-free
enter_marked-requires-clause-free g c = ap (λ (z : View). z.journal) c.leave_unless_below.ensures.rest ∙ c.requires.free

pub enter_marked-requires-clause-room : goal.enter_marked-requires-clause-room
enter_marked-requires-clause-room g c =
    let t = c.leave_unless_below.ensures in
    c.requires.room ∙ ap (λ n. n + 1) (sym (ap places (same-providers c.args.seat.now.view c.leave_unless_below.new.seat.view c.args.lent.now c.leave_unless_below.new.lent c.requires.lends t.lends t.rest)))

pub enter_marked-requires-clause-order : goal.enter_marked-requires-clause-order
enter_marked-requires-clause-order g c = can-enter c.args.lent.now c.leave_unless_below.new.lent c.args.marks.now c.args.first c.requires.first c.leave_unless_below.ensures.below
