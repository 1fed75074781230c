use Rattle.std.proofs.Common.{◌≡◌, Result, Ok, Err, sym, ap, subst}
use Rattle.std.specs.Result.{OnErr}
use Rattle.xti_hall.specs.Seats.{SeatView}
use Rattle.xti_hall.specs.Stalls.{waits}
use Rattle.xti_hall.specs.Words.{IsSameSeat, IsSeatOf}
use Rattle.xti_step.specs.Steps.{Later, MayGo, Tells}
use Rattle.xti_calls.specs.Library.{IsMarkedAsBefore}
use Rattle.xti_calls.proofs.Going.{waits-no-more}
use Rattle.xti_calls.proofs.Readiness.{ready-hall, ready-later}
use Rattle.xti_calls.proofs.shared.Xti.step.Goals as goal

-- where a result is an error, what holds of errors does
on_any_err : {T E P : Type 0} (r : Result T E) → P → OnErr r P
on_any_err (Ok x) p = tt
on_any_err (Err x) p = p

pub step-requires-clause-hall : goal.step-requires-clause-hall
step-requires-clause-hall g c =
    let i = c.seat.inside in
    λ _ _. ready-hall c.args.self.now.hall i.seat i.lent i.first c.args.self.now.all_cells (subst (IsSeatOf c.args.self.now.hall) (sym c.seat.view_is) c.requires.seat) c.seat.invariant

pub step-requires-clause-idle : goal.step-requires-clause-idle
step-requires-clause-idle g c = λ _ _. c.seat.invariant.idle

pub step-requires-clause-first : goal.step-requires-clause-first
step-requires-clause-first g c = λ _ _. c.seat.invariant.cells

pub step-requires-clause-go : goal.step-requires-clause-go
step-requires-clause-go g c = λ _ _. subst (λ (s : SeatView). MayGo s.view c.args.call.now c.args.go) (sym c.seat.view_is) c.requires.go

pub invariant_of-seat : goal.invariant_of-seat
invariant_of-seat g c =
    let e = c.in_err-applied.ensures in
    ready-later c.seat.inside.seat.view c.step.new.seat.view c.seat.inside.lent c.step.new.lent c.seat.inside.first c.step.new.first c.seat.invariant e.idle e.empty e.first e.later
    (waits-no-more c.seat.inside.seat.view.mark c.step.new.seat.view.mark e.mark)

pub invariant_of-seat-2 : goal.invariant_of-seat-2
invariant_of-seat-2 g c =
    let e = c.in_ok-applied.ensures in
    ready-later c.seat.inside.seat.view c.step.new.seat.view c.seat.inside.lent c.step.new.lent c.seat.inside.first c.step.new.first c.seat.invariant e.idle e.empty e.first e.later (λ _. ap waits e.free)

pub returns-clause-ok : goal.returns-clause-ok
returns-clause-ok g c =
    subst (λ (s : SeatView). Tells s.view c.args.call.now c.args.go c.step.new.seat.view c.in_ok-applied.applied) c.seat.view_is c.in_ok-applied.ensures.ok

pub returns-clause-seat : goal.returns-clause-seat
returns-clause-seat g c = subst (λ (s : SeatView). IsSameSeat s c.step.new.seat) c.seat.view_is c.in_ok-applied.ensures.hall

pub returns-clause-later : goal.returns-clause-later
returns-clause-later g c = subst (λ (s : SeatView). Later s.view c.step.new.seat.view) c.seat.view_is c.in_ok-applied.ensures.later

pub returns-in_err-applied-clause-seat : goal.returns-in_err-applied-clause-seat
returns-in_err-applied-clause-seat g c = subst (λ (s : SeatView). IsSameSeat s c.step.new.seat) c.seat.view_is c.in_err-applied.ensures.hall

pub returns-in_err-applied-clause-later : goal.returns-in_err-applied-clause-later
returns-in_err-applied-clause-later g c = subst (λ (s : SeatView). Later s.view c.step.new.seat.view) c.seat.view_is c.in_err-applied.ensures.later

pub returns-in_err-applied-clause-mark : goal.returns-in_err-applied-clause-mark
returns-in_err-applied-clause-mark g c =
    on_any_err c.from_residual.result (subst (λ (s : SeatView). IsMarkedAsBefore s c.step.new.seat) c.seat.view_is c.in_err-applied.ensures.mark)

pub returns-in_err-applied-clause-err : goal.returns-in_err-applied-clause-err
returns-in_err-applied-clause-err g c =
    on_any_err c.from_residual.result (subst (λ (s : SeatView). c.step.new.seat.view.mine ≡ s.view.mine) c.seat.view_is c.in_err-applied.ensures.err)
