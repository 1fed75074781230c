use Rattle.std.proofs.Common.{ap}
use Rattle.xti_hall.proofs.Entering.{told}
use Rattle.xti_hall.proofs.hall.Hall.try_enter.Goals as goal

pub returns-then-try_once-clause-value : goal.returns-then-try_once-clause-value
returns-then-try_once-clause-value g c = told g.C.Stands.stands c.args.seat.now.view c.seat.inside.pass.me c.try_once.new.pass.me c.take_out.new.pass.me c.args.cell c.take_out.result (ap (λ s. s.view) c.seat.view_is) c.if-try_once.ensures.took c.take_out.ensures.value c.take_out.ensures.view
