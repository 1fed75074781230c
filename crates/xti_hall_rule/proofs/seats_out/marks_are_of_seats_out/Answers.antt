use Rattle.xti_hall_rule.proofs.OutMarks.{marks-out}
use Rattle.xti_hall_rule.proofs.seats_out.marks_are_of_seats_out.Goals as goal

pub returns : goal.returns
returns g c = marks-out g.C.Stands.stands
