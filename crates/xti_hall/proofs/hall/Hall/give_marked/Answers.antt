use Rattle.std.proofs.Common.{ap, sym, subst, length, ◌≡◌, ◌∙◌}
use Rattle.xti_hall_rule.specs.declared.view.Journal.{Journal}
use Rattle.xti_hall_rule.specs.declared.view.View.{View}
use Rattle.xti_hall_rule.specs.Rule.{MarkFits, recorded}
use Rattle.xti_hall_rule.specs.Steps.{Holds, without_pen}
use Rattle.xti_hall.specs.Records.{kept_in}
use Rattle.xti_hall.proofs.Freed.{mark-set, marked-with}
use Rattle.xti_hall.proofs.Giving.{after-return}
use Rattle.xti_hall.proofs.hall.Hall.give_marked.Goals as goal

pub give_pen-requires-clause-journal : goal.give_pen-requires-clause-journal
give_pen-requires-clause-journal g c =
    let is = ap (λ s. s.view) c.seat.view_is in
    let held : Holds c.seat.inside.pass.me.0 = subst Holds (sym is) c.requires.holds in
    let j : Journal = c.deref_mut-2.result.now in
    let marks : j.marks.items ≡ c.args.journal.value.marks.items = ap (λ (z : Journal). z.marks.items) c.deref_mut-2.ensures.value ∙ ap (λ (z : Journal). z.marks.items) c.deref_mut.ensures.value in
    let long : j.length ≡ c.args.journal.value.length = ap (λ (z : Journal). z.length) c.deref_mut-2.ensures.value ∙ ap (λ (z : Journal). z.length) c.deref_mut.ensures.value in
    let kept : kept_in j ≡ kept_in c.args.journal.value = ap kept_in c.deref_mut-2.ensures.value ∙ ap kept_in c.deref_mut.ensures.value in (
      (long ∙ (c.requires.log.0 ∙ ap (λ (z : View). length z.history) (sym is)), kept ∙ (c.requires.log.1 ∙ ap (λ (z : View). recorded z.setting.keeps z.history) (sym is))),
      marked-with c.seat.inside.pass.me.0 j.marks.items c.seat.inside.number c.args.mark c.seat.invariant.2 c.seat.invariant.1.small held.many (marks ∙ (c.requires.marks ∙ ap (λ (z : View). z.marks) (sym is)))
          (subst (λ (z : View). MarkFits z.setting z.history c.args.mark) (sym is) c.requires.mark),
    )

pub invariant_of-seat : goal.invariant_of-seat
invariant_of-seat g c =
    let held : Holds c.seat.inside.pass.me.0 = subst Holds (sym (ap (λ s. s.view) c.seat.view_is)) c.requires.holds in
    after-return c.seat.inside.pass.me c.give_pen.new.pass.me _ _ _ _ _ c.seat.invariant held c.give_pen.ensures.view

pub returns-clause-view : goal.returns-clause-view
returns-clause-view g c =
    let is = ap (λ s. s.view) c.seat.view_is in
    let held : Holds c.seat.inside.pass.me.0 = subst Holds (sym is) c.requires.holds in
    let j : Journal = c.deref_mut-2.result.now in
    let marks : j.marks.items ≡ c.args.journal.value.marks.items = ap (λ (z : Journal). z.marks.items) c.deref_mut-2.ensures.value ∙ ap (λ (z : Journal). z.marks.items) c.deref_mut.ensures.value in
    let set_to = mark-set c.seat.inside.pass.me.0 j.marks.items c.seat.inside.number c.args.mark c.seat.invariant.2 c.seat.invariant.1.small held.many (marks ∙ (c.requires.marks ∙ ap (λ (z : View). z.marks) (sym is))) in
    ap (λ m. m.0) c.give_pen.ensures.view ∙ (λ i. without_pen (is i) (set_to i))

pub returns-clause-standing : goal.returns-clause-standing
returns-clause-standing g c =
    let held : Holds c.seat.inside.pass.me.0 = subst Holds (sym (ap (λ s. s.view) c.seat.view_is)) c.requires.holds in
    (after-return c.seat.inside.pass.me c.give_pen.new.pass.me _ _ _ _ _ c.seat.invariant held c.give_pen.ensures.view).6
