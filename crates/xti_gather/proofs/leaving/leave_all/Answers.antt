use Rattle.std.proofs.Common.{◌∙◌}
use Rattle.xti_gather.proofs.Orders.{fewer-lent}
use Rattle.xti_gather.proofs.Holdings.{holds_none, same-providers}
use Rattle.xti_gather.proofs.Staying.{stays-on, still-in}
use Rattle.xti_gather.proofs.leaving.leave_all.Goals as goal

pub leave-requires-clause-hall : goal.leave-requires-clause-hall
leave-requires-clause-hall c = still-in c.args.hall.now c.args.seat.now c.loop-cell.seat c.args.lent.now c.loop-cell.lent c.requires.hall c.requires.lends c.loop-cell.invariant.stays

pub loop-cell-smaller : goal.loop-cell-smaller
loop-cell-smaller c =
    let inv = c.loop-cell.invariant in
    let t = c.leave.ensures in
    fewer-lent c.loop-cell.lent c.leave.new.lent c.in-Some.cell inv.stays.lends.loan (same-providers c.loop-cell.seat.view c.leave.new.seat.view c.loop-cell.lent c.leave.new.lent inv.stays.lends t.lends t.rest) c.in-Some.ensures t.gone t.others

pub loop-cell-preserved : goal.loop-cell-preserved
loop-cell-preserved c =
    let inv = c.loop-cell.invariant in
    let t = c.leave.ensures in
    record {
      stays = stays-on c.args.seat.now c.loop-cell.seat c.leave.new.seat c.loop-cell.lent c.leave.new.lent inv.stays t.hall t.rest t.lends;
      refused = t.refused ∙ inv.refused;
    }

pub returns-clause-none : goal.returns-clause-none
returns-clause-none c = holds_none c.loop-cell.seat.view c.loop-cell.lent c.loop-cell.invariant.stays.lends c.in_default.ensures

pub returns-clause-empty : goal.returns-clause-empty
returns-clause-empty c = record { loan = c.loop-cell.invariant.stays.lends.loan; none = c.in_default.ensures }
