use Rattle.xti_gather.proofs.Holdings.{left_lends}
use Rattle.xti_gather.proofs.leaving.leave.Goals as goal

pub returns-clause-lends : goal.returns-clause-lends
returns-clause-lends c =
    let t = c.take_cell.ensures in
    left_lends c.args.seat.now.view c.leave.new.seat.view c.args.lent.now c.take_cell.new.lent c.args.cell c.requires.lends c.leave.ensures.gone t.providers t.loan t.here t.others
