use Rattle.std.proofs.Common.{◌≡◌, length, ap, sym, subst, ◌∙◌}
use Rattle.xti_hall_rule.specs.declared.view.Journal.{Journal}
use Rattle.xti_hall_rule.specs.declared.view.Mark.TheVariants.{Free}
use Rattle.xti_hall_rule.specs.declared.view.View.{View}
use Rattle.xti_hall_rule.specs.Rule.{recorded}
use Rattle.xti_hall_rule.specs.Steps.{Holds}
use Rattle.xti_hall.specs.Records.{kept_in}
use Rattle.xti_hall.specs.Seats.{IsStanding}
use Rattle.xti_hall.proofs.Ending.{after-return-unseen, giver-stands}
use Rattle.xti_hall.proofs.Freed.{mark-set, marked-with}
use Rattle.xti_hall.proofs.Hands.{is_newcomer}
use Rattle.xti_hall.proofs.hall.Hall.split.Goals as goal

pub give_pen_unseen-requires-clause-journal : goal.give_pen_unseen-requires-clause-journal
give_pen_unseen-requires-clause-journal g c =
    let l = c.look-journal.ensures in let d = c.deref_mut.ensures.value in
    let is = ap (λ s. s.view) c.fresh.view_is in
    let held : Holds c.fresh.inside.pass.me.0 = subst Holds (sym is) l.holds.0 in
    let same : c.deref_mut.result.now.marks.items ≡ c.fresh.inside.pass.me.0.marks = ap (λ (z : Journal). z.marks.items) d ∙ (sym (ap (λ (z : View). z.marks) l.look) ∙ ap (λ (z : View). z.marks) (sym is)) in (
      (ap (λ (z : Journal). z.length) d ∙ (l.log.0 ∙ ap (λ (z : View). length z.history) (sym is)), ap kept_in d ∙ (l.log.1 ∙ ap (λ (z : View). recorded z.setting.keeps z.history) (sym is))),
      marked-with c.fresh.inside.pass.me.0 c.deref_mut.result.now.marks.items c.fresh.inside.number Free c.fresh.invariant.2 c.fresh.invariant.1.small held.many same tt,
    )

pub invariant_of-fresh : goal.invariant_of-fresh
invariant_of-fresh g c =
    let held : Holds c.fresh.inside.pass.me.0 = subst Holds (sym (ap (λ s. s.view) c.fresh.view_is)) c.look-journal.ensures.holds.0 in
    after-return-unseen c.fresh.inside.pass.me c.give_pen_unseen.new.pass.me _ _ _ _ _ c.fresh.invariant held.journal c.give_pen_unseen.ensures.view

pub returns-clause-seats : goal.returns-clause-seats
returns-clause-seats g c =
    let l = c.look-journal.ensures in let d = c.deref_mut.ensures.value in
    let is = ap (λ s. s.view) c.fresh.view_is in
    let held : Holds c.fresh.inside.pass.me.0 = subst Holds (sym is) l.holds.0 in
    let same : c.deref_mut.result.now.marks.items ≡ c.fresh.inside.pass.me.0.marks = ap (λ (z : Journal). z.marks.items) d ∙ (sym (ap (λ (z : View). z.marks) l.look) ∙ ap (λ (z : View). z.marks) (sym is)) in
    let freed = mark-set c.fresh.inside.pass.me.0 c.deref_mut.result.now.marks.items c.fresh.inside.number Free c.fresh.invariant.2 c.fresh.invariant.1.small held.many same in (
      c.give_pen_unseen.ensures.hall.0 ∙ (ap (λ s. s.hall) c.fresh.view_is ∙ (l.hall.0 ∙ c.cut-fresh.ensures.hall.1)),
      c.cut-fresh.ensures.giver,
      is_newcomer c.args.seat.now.view c.cut-fresh.result.view c.look-journal.new.seat.view c.fresh.inside.pass.me.0 c.give_pen_unseen.new.pass.me.0 c.look-journal.new.seat.view.history c.look-journal.result.value.marks.items _ c.cut-fresh.ensures.given l.look is (ap (λ m. m.0) c.give_pen_unseen.ensures.view) freed,
    )

pub returns-clause-standing : goal.returns-clause-standing
returns-clause-standing g c =
    let old : IsStanding c.args.seat.now.view = subst IsStanding (ap (λ s. s.view) c.seat.view_is) c.seat.invariant.6 in
    let held : Holds c.fresh.inside.pass.me.0 = subst Holds (sym (ap (λ s. s.view) c.fresh.view_is)) c.look-journal.ensures.holds.0 in
    (subst IsStanding (sym c.cut-fresh.ensures.giver) (giver-stands c.args.seat.now.view old), (after-return-unseen c.fresh.inside.pass.me c.give_pen_unseen.new.pass.me _ _ _ _ _ c.fresh.invariant held.journal c.give_pen_unseen.ensures.view).6)
