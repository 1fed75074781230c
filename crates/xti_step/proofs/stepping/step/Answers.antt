use Rattle.std.proofs.Common.{◌≡◌, ◌∙◌, ℕ, List, Result, Ok, Err, inl, inr, length, append-nil, refl, sym, ap, subst}
use Rattle.std.specs.Result.{OnErr}
use Rattle.std.proofs.lemmas.Result.{IfOk-from_err}
use Rattle.xti_model.specs.declared.profile.Providers.{Providers}
use Rattle.xti_gather.specs.Cells.{IsWhole}
use Rattle.xti_gather.specs.Orders.{AreCells}
use Rattle.xti_hall.specs.Words.{setting_of}
use Rattle.xti_hall_rule.specs.declared.setting.Setting.{Setting}
use Rattle.xti_step.specs.Steps.{IsReady, Later}
use Rattle.xti_model.specs.declared.call.Call.{Call}
use Rattle.xti_hall.specs.Pens.{PenView}
use Rattle.xti_base.specs.declared.kinds.State.{State}
use Rattle.xti_model.specs.declared.entry.Applied.{Applied}
use Rattle.xti_model.specs.declared.entry.Outcome.{Outcome}
use Rattle.xti_end.specs.Taken.{taken}
use Rattle.xti_lent.specs.Lending.{Lending, cells}
use Rattle.xti_hall_rule.specs.declared.view.View.{View}
use Rattle.xti_hall.specs.Seats.{SeatView, HoldsNone, bare}
use Rattle.xti_gather.specs.Lends.{Lends}
use Rattle.xti_gather.proofs.Wholes.{lends-fit}
use Rattle.xti_step.proofs.Outcomes.{lends_unchanged, ready_lent, ready_short, ready_commits, ready_lends, ready_made, ready_waits}
use Rattle.xti_step.proofs.Afters.{unmade-later, unmade-mine, unmade-stands, made-later, made-at}
use Rattle.xti_step.proofs.Standings.{stands-still}
use Rattle.xti_step.proofs.stepping.step.Goals as goal

pub apply-requires-clause-fit : goal.apply-requires-clause-fit
apply-requires-clause-fit g c = lends-fit c.begin.new.seat.view c.begin.new.lent (ready_lent c.requires.go c.in-Ok.ensures.ready)

pub apply-requires-clause-lent : goal.apply-requires-clause-lent
apply-requires-clause-lent g c = c.in-Ok.ensures.ready.just.all

pub give_up-requires-clause-lends : goal.give_up-requires-clause-lends
give_up-requires-clause-lends g c =
    lends_unchanged c.begin.new.seat.view c.begin.new.lent c.apply.new.lent (ready_lent c.requires.go c.in-Ok.ensures.ready) c.in-Err-apply.ensures.kept c.in-Err-apply.ensures.err

pub give_up-requires-in-Ok-Blocked-clause-lends : goal.give_up-requires-in-Ok-Blocked-clause-lends
give_up-requires-in-Ok-Blocked-clause-lends g c =
    let still = c.in-Ok-Blocked.ensures.still (ap (λ (z : Applied). taken z (cells c.apply.new.lent)) c.in-Ok-Blocked.field-0-is) in
    subst (λ (z : Lending). Lends c.begin.new.seat.view z) (sym still) (ready_lent c.requires.go c.in-Ok.ensures.ready)

pub write-rings-requires-clause-short : goal.write-rings-requires-clause-short
write-rings-requires-clause-short g c =
    let e = ap (λ (z : Applied). taken z (cells c.apply.new.lent)) (sym c.in-Ok-Step.field-0-is) ∙ c.in-Ok-Step.ensures.step in
    ready_short c.requires.go c.in-Ok.ensures.ready c.apply.new.lent c.in-Ok-Step.outcome c.in-Ok-Step.after c.in-Ok-Step.ensures.kept e

pub write-rings-requires-clause-entry : goal.write-rings-requires-clause-entry
write-rings-requires-clause-entry g c =
    let k : ℕ = c.begin.new.seat.view.number in
    let o : Outcome = c.in-Ok-Step.outcome in
    let s : State = c.in-Ok-Step.after in
    let e = ap (λ (z : Applied). taken z (cells c.apply.new.lent)) (sym c.in-Ok-Step.field-0-is) ∙ c.in-Ok-Step.ensures.step in
    ready_commits c.requires.go c.in-Ok.ensures.ready c.apply.new.lent k o s refl c.in-Ok-Step.ensures.kept e

pub leave_all-requires-clause-lends : goal.leave_all-requires-clause-lends
leave_all-requires-clause-lends g c =
    let k : ℕ = c.begin.new.seat.view.number in
    let o : Outcome = c.in-Ok-Step.outcome in
    let s : State = c.in-Ok-Step.after in
    let e = ap (λ (z : Applied). taken z (cells c.apply.new.lent)) (sym c.in-Ok-Step.field-0-is) ∙ c.in-Ok-Step.ensures.step in
    subst (λ (z : View). Lends z c.apply.new.lent) (sym c.write-rings.ensures.view) (ready_lends c.requires.go c.in-Ok.ensures.ready c.apply.new.lent k o s refl e c.in-Ok-Step.ensures.kept)

pub returns-in-Ok-Blocked-clause-ok : goal.returns-in-Ok-Blocked-clause-ok
returns-in-Ok-Blocked-clause-ok g c =
    let e = ap (λ (z : Applied). taken z (cells c.apply.new.lent)) (sym c.in-Ok-Blocked.field-0-is) ∙ c.in-Ok-Blocked.ensures.step in
    ready_waits c.requires.go c.in-Ok.ensures.ready c.apply.new.lent c.give_up-in-Ok-Blocked.new.seat.view c.in-Ok-Blocked.ensures.kept e c.give_up-in-Ok-Blocked.ensures.view

pub returns-in-Ok-Step-clause-ok : goal.returns-in-Ok-Step-clause-ok
returns-in-Ok-Step-clause-ok g c =
    let k : ℕ = c.begin.new.seat.view.number in
    let o : Outcome = c.in-Ok-Step.outcome in
    let s : State = c.in-Ok-Step.after in
    let e = ap (λ (z : Applied). taken z (cells c.apply.new.lent)) (sym c.in-Ok-Step.field-0-is) ∙ c.in-Ok-Step.ensures.step in
    let all = ap (λ (z : SeatView). bare z.view) c.wake.ensures ∙ (c.leave_all.ensures.rest ∙ ap bare c.write-rings.ensures.view) in
    ready_made c.requires.go c.in-Ok.ensures.ready c.apply.new.lent k o o s c.wake.new.seat.view refl c.in-Ok-Step.ensures.kept e refl all

pub returns-in-Ok-Step-clause-standing : goal.returns-in-Ok-Step-clause-standing
returns-in-Ok-Step-clause-standing g c = stands-still c.write-rings.new.seat.view c.wake.new.seat.view (ap (λ (z : SeatView). bare z.view) c.wake.ensures ∙ c.leave_all.ensures.rest) c.write-rings.ensures.standing

pub returns-in-Err-apply-clause-later : goal.returns-in-Err-apply-clause-later
returns-in-Err-apply-clause-later g c = unmade-later c.in-Ok.ensures.ready c.give_up.new.seat.view c.give_up.ensures.view

pub returns-in-Err-apply-clause-standing : goal.returns-in-Err-apply-clause-standing
returns-in-Err-apply-clause-standing g c = unmade-stands c.in-Ok.ensures.ready c.give_up.new.seat.view c.give_up.ensures.view c.begin.ensures.standing

pub returns-in-Err-apply-clause-idle : goal.returns-in-Err-apply-clause-idle
returns-in-Err-apply-clause-idle g c = (ap (λ (z : View). z.journal) c.give_up.ensures.view, c.give_up.ensures.none)

pub returns-in-Err-apply-clause-err : goal.returns-in-Err-apply-clause-err
returns-in-Err-apply-clause-err g c = unmade-mine c.in-Ok.ensures.ready c.give_up.new.seat.view c.give_up.ensures.view

pub returns-in-Err-apply-clause-mark : goal.returns-in-Err-apply-clause-mark
returns-in-Err-apply-clause-mark g c = inr (ap (λ (z : View). z.mark) c.give_up.ensures.view)

pub returns-in-Ok-Blocked-clause-later : goal.returns-in-Ok-Blocked-clause-later
returns-in-Ok-Blocked-clause-later g c = unmade-later c.in-Ok.ensures.ready c.give_up-in-Ok-Blocked.new.seat.view c.give_up-in-Ok-Blocked.ensures.view

pub returns-in-Ok-Blocked-clause-standing : goal.returns-in-Ok-Blocked-clause-standing
returns-in-Ok-Blocked-clause-standing g c = unmade-stands c.in-Ok.ensures.ready c.give_up-in-Ok-Blocked.new.seat.view c.give_up-in-Ok-Blocked.ensures.view c.begin.ensures.standing

pub returns-in-Ok-Blocked-clause-idle : goal.returns-in-Ok-Blocked-clause-idle
returns-in-Ok-Blocked-clause-idle g c = (ap (λ (z : View). z.journal) c.give_up-in-Ok-Blocked.ensures.view, c.give_up-in-Ok-Blocked.ensures.none)

pub returns-in-Ok-Blocked-clause-free : goal.returns-in-Ok-Blocked-clause-free
returns-in-Ok-Blocked-clause-free g c = ap (λ (z : View). z.mark) c.give_up-in-Ok-Blocked.ensures.view

pub returns-in-Ok-Blocked-clause-at : goal.returns-in-Ok-Blocked-clause-at
returns-in-Ok-Blocked-clause-at g c = ap (λ (z : View). length z.seen) c.give_up-in-Ok-Blocked.ensures.view ∙ sym (c.at-at.ensures ∙ ap length c.in-Ok.ensures.pen.3)

pub returns-in-Ok-Step-clause-later : goal.returns-in-Ok-Step-clause-later
returns-in-Ok-Step-clause-later g c =
    let all = ap (λ (z : SeatView). bare z.view) c.wake.ensures ∙ (c.leave_all.ensures.rest ∙ ap bare c.write-rings.ensures.view) in
    made-later c.in-Ok.ensures.ready c.wake.new.seat.view _ all

pub returns-in-Ok-Step-clause-idle : goal.returns-in-Ok-Step-clause-idle
returns-in-Ok-Step-clause-idle g c =
    let all = ap (λ (z : SeatView). bare z.view) c.wake.ensures ∙ (c.leave_all.ensures.rest ∙ ap bare c.write-rings.ensures.view) in
    (ap (λ (z : View). z.journal) all, subst (λ (z : SeatView). HoldsNone z.view) (sym c.wake.ensures) c.leave_all.ensures.none)

pub returns-in-Ok-Step-clause-free : goal.returns-in-Ok-Step-clause-free
returns-in-Ok-Step-clause-free g c =
    let all = ap (λ (z : SeatView). bare z.view) c.wake.ensures ∙ (c.leave_all.ensures.rest ∙ ap bare c.write-rings.ensures.view) in
    ap (λ (z : View). z.mark) all

pub returns-in-Ok-Step-clause-at : goal.returns-in-Ok-Step-clause-at
returns-in-Ok-Step-clause-at g c =
    let all = ap (λ (z : SeatView). bare z.view) c.wake.ensures ∙ (c.leave_all.ensures.rest ∙ ap bare c.write-rings.ensures.view) in
    made-at c.in-Ok.ensures.ready c.wake.new.seat.view _ c.at-at.result all c.at-at.ensures c.in-Ok.ensures.pen.3

-- where a result is an error, what holds of errors does
on-any-err : {T E P : Type 0} (r : Result T E) → P → OnErr r P
on-any-err (Ok x) p = tt
on-any-err (Err x) p = p

not-later : (v : View) → Later v v
not-later v = record { setting = refl; number = refl; next = refl; seen = (_, append-nil v.seen) }

-- a seat that is ready has its setting still
ready-setting : {v v' : View} {l : Lending} {c : Call} {p : PenView} → IsReady v v' l c p → v'.setting ≡ v.setting
ready-setting r = ap (λ (z : View). z.setting) r.pen ∙ ap (λ (z : View). z.setting) r.rest

whole-still : (s : Setting) (p q : Providers) → q ≡ p → IsWhole s p → IsWhole s q
whole-still s p q e h = subst (IsWhole s) (sym e) h

cells-still : (p q : Providers) (ns : List ℕ) → q ≡ p → AreCells p ns → AreCells q ns
cells-still p q ns e h = subst (λ (x : Providers). AreCells x ns) (sym e) h

pub returns-in_err-copies-clause-hall : goal.returns-in_err-copies-clause-hall
returns-in_err-copies-clause-hall g c = (refl, refl)

pub returns-in_err-copies-clause-idle : goal.returns-in_err-copies-clause-idle
returns-in_err-copies-clause-idle g c = c.requires.idle

pub returns-in_err-copies-clause-empty : goal.returns-in_err-copies-clause-empty
returns-in_err-copies-clause-empty g c = (c.requires.empty, refl)

pub returns-in_err-copies-clause-first : goal.returns-in_err-copies-clause-first
returns-in_err-copies-clause-first g c = c.requires.first

pub returns-in_err-copies-clause-later : goal.returns-in_err-copies-clause-later
returns-in_err-copies-clause-later g c = not-later c.args.seat.now.view

pub returns-in_err-copies-clause-ok : goal.returns-in_err-copies-clause-ok
returns-in_err-copies-clause-ok g c = IfOk-from_err _ _ c.from_residual.ensures.0

pub returns-in_err-copies-clause-free : goal.returns-in_err-copies-clause-free
returns-in_err-copies-clause-free g c = IfOk-from_err _ _ c.from_residual.ensures.0

pub returns-in_err-copies-clause-at : goal.returns-in_err-copies-clause-at
returns-in_err-copies-clause-at g c = IfOk-from_err _ _ c.from_residual.ensures.0

pub returns-in_err-copies-clause-err : goal.returns-in_err-copies-clause-err
returns-in_err-copies-clause-err g c = on-any-err _ refl

pub returns-in_err-copies-clause-mark : goal.returns-in_err-copies-clause-mark
returns-in_err-copies-clause-mark g c = on-any-err _ (inl refl)

pub returns-in-Err-clause-hall : goal.returns-in-Err-clause-hall
returns-in-Err-clause-hall g c = c.begin.ensures.hall

pub returns-in-Err-clause-idle : goal.returns-in-Err-clause-idle
returns-in-Err-clause-idle g c = c.in-Err.ensures.idle.0

pub returns-in-Err-clause-empty : goal.returns-in-Err-clause-empty
returns-in-Err-clause-empty g c = (c.in-Err.ensures.idle.1, c.begin.ensures.providers)

pub returns-in-Err-clause-first : goal.returns-in-Err-clause-first
returns-in-Err-clause-first g c = cells-still c.args.lent.now.providers c.begin.new.lent.providers c.begin.new.first c.begin.ensures.providers c.begin.ensures.first

pub returns-in-Err-clause-later : goal.returns-in-Err-clause-later
returns-in-Err-clause-later g c = c.in-Err.ensures.later

pub returns-in-Err-clause-standing : goal.returns-in-Err-clause-standing
returns-in-Err-clause-standing g c = c.begin.ensures.standing

pub returns-in-Err-clause-ok : goal.returns-in-Err-clause-ok
returns-in-Err-clause-ok g c = tt

pub returns-in-Err-clause-free : goal.returns-in-Err-clause-free
returns-in-Err-clause-free g c = tt

pub returns-in-Err-clause-at : goal.returns-in-Err-clause-at
returns-in-Err-clause-at g c = tt

pub returns-in-Err-clause-err : goal.returns-in-Err-clause-err
returns-in-Err-clause-err g c = c.in-Err.ensures.err

pub returns-in-Err-clause-mark : goal.returns-in-Err-clause-mark
returns-in-Err-clause-mark g c = c.in-Err.ensures.mark

pub give_up-requires-clause-hall : goal.give_up-requires-clause-hall
give_up-requires-clause-hall g c = ((c.begin.ensures.hall.0 ∙ c.requires.hall.0.0, ready-setting c.in-Ok.ensures.ready ∙ c.requires.hall.0.1), whole-still (setting_of c.args.hall.now) c.args.lent.now.providers c.apply.new.lent.providers (c.apply.ensures.kept.providers ∙ c.begin.ensures.providers) c.requires.hall.1)

pub give_up-requires-clause-holds : goal.give_up-requires-clause-holds
give_up-requires-clause-holds g c = c.in-Ok.ensures.ready.holds

pub give_up-requires-clause-pen : goal.give_up-requires-clause-pen
give_up-requires-clause-pen g c = c.in-Ok.ensures.pen

pub give_up-requires-in-Ok-Blocked-clause-hall : goal.give_up-requires-in-Ok-Blocked-clause-hall
give_up-requires-in-Ok-Blocked-clause-hall g c = ((c.begin.ensures.hall.0 ∙ c.requires.hall.0.0, ready-setting c.in-Ok.ensures.ready ∙ c.requires.hall.0.1), whole-still (setting_of c.args.hall.now) c.args.lent.now.providers c.apply.new.lent.providers (c.apply.ensures.kept.providers ∙ c.begin.ensures.providers) c.requires.hall.1)

pub give_up-requires-in-Ok-Blocked-clause-holds : goal.give_up-requires-in-Ok-Blocked-clause-holds
give_up-requires-in-Ok-Blocked-clause-holds g c = c.in-Ok.ensures.ready.holds

pub give_up-requires-in-Ok-Blocked-clause-pen : goal.give_up-requires-in-Ok-Blocked-clause-pen
give_up-requires-in-Ok-Blocked-clause-pen g c = c.in-Ok.ensures.pen

pub write-rings-requires-clause-hall : goal.write-rings-requires-clause-hall
write-rings-requires-clause-hall g c = (c.begin.ensures.hall.0 ∙ c.requires.hall.0.0, ready-setting c.in-Ok.ensures.ready ∙ c.requires.hall.0.1)

pub write-rings-requires-clause-holds : goal.write-rings-requires-clause-holds
write-rings-requires-clause-holds g c = c.in-Ok.ensures.ready.holds

pub write-rings-requires-clause-pen : goal.write-rings-requires-clause-pen
write-rings-requires-clause-pen g c = c.in-Ok.ensures.pen

pub write-rings-requires-clause-copies : goal.write-rings-requires-clause-copies
write-rings-requires-clause-copies g c = c.in_ok-copies.ensures

pub leave_all-requires-clause-hall : goal.leave_all-requires-clause-hall
leave_all-requires-clause-hall g c =
    ((c.write-rings.ensures.hall.0 ∙ (c.begin.ensures.hall.0 ∙ c.requires.hall.0.0), ap (λ (z : View). z.setting) c.write-rings.ensures.view ∙ (ready-setting c.in-Ok.ensures.ready ∙ c.requires.hall.0.1)), whole-still (setting_of c.args.hall.now) c.args.lent.now.providers c.apply.new.lent.providers (c.apply.ensures.kept.providers ∙ c.begin.ensures.providers) c.requires.hall.1)

pub wake-requires : goal.wake-requires
wake-requires g c = record {
  hall = (c.leave_all.ensures.hall.0 ∙ (c.write-rings.ensures.hall.0 ∙ (c.begin.ensures.hall.0 ∙ c.requires.hall.0.0)), ap (λ (z : View). z.setting) c.leave_all.ensures.rest ∙ (ap (λ (z : View). z.setting) c.write-rings.ensures.view ∙ (ready-setting c.in-Ok.ensures.ready ∙ c.requires.hall.0.1)));
}

pub returns-in-Err-apply-clause-hall : goal.returns-in-Err-apply-clause-hall
returns-in-Err-apply-clause-hall g c = (c.give_up.ensures.hall.0 ∙ c.begin.ensures.hall.0, c.give_up.ensures.hall.1 ∙ c.begin.ensures.hall.1)

pub returns-in-Err-apply-clause-empty : goal.returns-in-Err-apply-clause-empty
returns-in-Err-apply-clause-empty g c = (c.give_up.ensures.empty.0, (c.give_up.ensures.empty.1 ∙ (c.in-Err-apply.ensures.kept.providers ∙ c.begin.ensures.providers)))

pub returns-in-Err-apply-clause-first : goal.returns-in-Err-apply-clause-first
returns-in-Err-apply-clause-first g c = cells-still c.args.lent.now.providers c.give_up.new.lent.providers c.begin.new.first (c.give_up.ensures.empty.1 ∙ (c.in-Err-apply.ensures.kept.providers ∙ c.begin.ensures.providers)) c.begin.ensures.first

pub returns-in-Err-apply-clause-ok : goal.returns-in-Err-apply-clause-ok
returns-in-Err-apply-clause-ok g c = tt

pub returns-in-Err-apply-clause-free : goal.returns-in-Err-apply-clause-free
returns-in-Err-apply-clause-free g c = tt

pub returns-in-Err-apply-clause-at : goal.returns-in-Err-apply-clause-at
returns-in-Err-apply-clause-at g c = tt

pub returns-in-Ok-Blocked-clause-hall : goal.returns-in-Ok-Blocked-clause-hall
returns-in-Ok-Blocked-clause-hall g c = (c.give_up-in-Ok-Blocked.ensures.hall.0 ∙ c.begin.ensures.hall.0, c.give_up-in-Ok-Blocked.ensures.hall.1 ∙ c.begin.ensures.hall.1)

pub returns-in-Ok-Blocked-clause-empty : goal.returns-in-Ok-Blocked-clause-empty
returns-in-Ok-Blocked-clause-empty g c = (c.give_up-in-Ok-Blocked.ensures.empty.0, (c.give_up-in-Ok-Blocked.ensures.empty.1 ∙ (c.in-Ok-Blocked.ensures.kept.providers ∙ c.begin.ensures.providers)))

pub returns-in-Ok-Blocked-clause-first : goal.returns-in-Ok-Blocked-clause-first
returns-in-Ok-Blocked-clause-first g c = cells-still c.args.lent.now.providers c.give_up-in-Ok-Blocked.new.lent.providers c.begin.new.first (c.give_up-in-Ok-Blocked.ensures.empty.1 ∙ (c.in-Ok-Blocked.ensures.kept.providers ∙ c.begin.ensures.providers)) c.begin.ensures.first

pub returns-in-Ok-Blocked-clause-err : goal.returns-in-Ok-Blocked-clause-err
returns-in-Ok-Blocked-clause-err g c = tt

pub returns-in-Ok-Blocked-clause-mark : goal.returns-in-Ok-Blocked-clause-mark
returns-in-Ok-Blocked-clause-mark g c = tt

pub returns-in-Ok-Step-clause-hall : goal.returns-in-Ok-Step-clause-hall
returns-in-Ok-Step-clause-hall g c = (ap (λ (z : SeatView). z.hall) c.wake.ensures ∙ (c.leave_all.ensures.hall.0 ∙ (c.write-rings.ensures.hall.0 ∙ c.begin.ensures.hall.0)), ap (λ (z : SeatView). z.id) c.wake.ensures ∙ (c.leave_all.ensures.hall.1 ∙ (c.write-rings.ensures.hall.1 ∙ c.begin.ensures.hall.1)))

pub returns-in-Ok-Step-clause-empty : goal.returns-in-Ok-Step-clause-empty
returns-in-Ok-Step-clause-empty g c =
    let setting = ap (λ (z : View). z.setting) c.leave_all.ensures.rest ∙ (ap (λ (z : View). z.setting) c.write-rings.ensures.view ∙ ready-setting c.in-Ok.ensures.ready) in
    let providers = c.leave_all.ensures.lends.providers ∙ (ap (λ (z : Setting). z.providers) setting ∙ ap (λ (z : Setting). z.providers) (c.requires.hall.0.1 ∙ c.requires.hall.1)) in
    (c.leave_all.ensures.empty, providers)

pub returns-in-Ok-Step-clause-first : goal.returns-in-Ok-Step-clause-first
returns-in-Ok-Step-clause-first g c =
    let setting = ap (λ (z : View). z.setting) c.leave_all.ensures.rest ∙ (ap (λ (z : View). z.setting) c.write-rings.ensures.view ∙ ready-setting c.in-Ok.ensures.ready) in
    let providers = c.leave_all.ensures.lends.providers ∙ (ap (λ (z : Setting). z.providers) setting ∙ ap (λ (z : Setting). z.providers) (c.requires.hall.0.1 ∙ c.requires.hall.1)) in
    cells-still c.args.lent.now.providers c.leave_all.new.lent.providers c.begin.new.first providers c.begin.ensures.first

pub returns-in-Ok-Step-clause-err : goal.returns-in-Ok-Step-clause-err
returns-in-Ok-Step-clause-err g c = tt

pub returns-in-Ok-Step-clause-mark : goal.returns-in-Ok-Step-clause-mark
returns-in-Ok-Step-clause-mark g c = tt
