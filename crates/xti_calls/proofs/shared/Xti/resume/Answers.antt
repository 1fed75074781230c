use Rattle.std.proofs.Common.{sym, subst, MatchResult}
use Rattle.xti_hall.specs.Seats.{SeatView}
use Rattle.xti_hall.specs.Words.{IsSeatOf}
use Rattle.xti_calls.specs.Calling.{Answered, Halted, IsUnfinished, where_left}
use Rattle.xti_calls.proofs.Readiness.{ready-hall, ready-later}
use Rattle.xti_calls.proofs.shared.Xti.resume.Goals as goal

pub resume-requires-clause-hall : goal.resume-requires-clause-hall
resume-requires-clause-hall g c =
    let i = c.seat.inside in
    λ _ _. ready-hall c.args.self.now.hall i.seat i.lent i.first c.args.self.now.all_cells (subst (IsSeatOf c.args.self.now.hall) (sym c.seat.view_is) c.requires.seat) c.seat.invariant

pub resume-requires-clause-unfinished : goal.resume-requires-clause-unfinished
resume-requires-clause-unfinished g c = λ _ _. subst (λ (s : SeatView). IsUnfinished s.view c.args.call.now) (sym c.seat.view_is) c.requires.unfinished

pub invariant_of-seat : goal.invariant_of-seat
invariant_of-seat g c =
    let e = c.resume.ensures in
    ready-later c.seat.inside.seat.view c.resume.new.seat.view c.seat.inside.lent c.resume.new.lent c.seat.inside.first c.resume.new.first c.seat.invariant e.idle e.empty e.first e.later e.mark

pub returns-clause-made : goal.returns-clause-made
returns-clause-made g c =
    subst (λ (s : SeatView). MatchResult c.resume.result (Answered s.view c.args.call.now (where_left s.view) c.resume.new.seat.view) (Halted s.view c.args.call.now (where_left s.view) c.resume.new.seat.view)) c.seat.view_is c.resume.ensures.made
