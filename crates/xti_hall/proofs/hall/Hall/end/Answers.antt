use Rattle.xti_hall.proofs.Ending.{looks-at-end, stands-at-end}
use Rattle.xti_hall.proofs.hall.Hall.end.Goals as goal

pub returns-clause-looks : goal.returns-clause-looks
returns-clause-looks g c = let s = c.length-length.ensures.seen in
    looks-at-end c.args.seat.view c.look-journal.new.seat.view c.length-length.new.seat.view c.look-journal.result.value _ s.0 c.look-journal.ensures.look s.1 s.2 c.requires.free

pub returns-clause-standing : goal.returns-clause-standing
returns-clause-standing g c = let s = c.length-length.ensures.seen in
    stands-at-end c.look-journal.new.seat.view c.length-length.new.seat.view _ s.0 c.look-journal.ensures.standing s.1 s.2
