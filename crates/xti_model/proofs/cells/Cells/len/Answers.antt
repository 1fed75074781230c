use Rattle.std.proofs.Common.{sym}
use Rattle.xti_model.proofs.RisingNumbers.{rising-listed}
use Rattle.xti_model.proofs.cells.Cells.len.Goals as goal

pub returns-clause-rising : goal.returns-clause-rising
returns-clause-rising c = rw (← c.self.view_is) (sym (rising-listed c.self.inside.numbers.items c.self.invariant))
