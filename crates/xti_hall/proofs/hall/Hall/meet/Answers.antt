use Rattle.xti_hall.proofs.Hands.{meets}
use Rattle.xti_hall.proofs.hall.Hall.meet.Goals as goal

pub returns-clause-met : goal.returns-clause-met
returns-clause-met g c = let l = c.length-length.ensures.seen in meets c.args.seat.view c.args.other.now.view c.tell.new.seat.view _ _ l.0 c.tell.ensures.told l.1 l.2
