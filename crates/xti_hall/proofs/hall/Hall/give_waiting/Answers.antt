use Rattle.std.proofs.Common.{length, ap, sym, subst, ◌∙◌}
use Rattle.xti_hall_rule.specs.declared.view.Journal.{Journal}
use Rattle.xti_hall_rule.specs.declared.view.View.{View}
use Rattle.xti_hall_rule.specs.Rule.{Boxed}
use Rattle.xti_hall.specs.Records.{kept_in}
use Rattle.xti_hall.specs.Seats.{SeatView, IsStanding}
use Rattle.xti_hall.proofs.hall.Hall.give_waiting.Goals as goal
use Rattle.xti_hall.proofs.hall.Hall.give_waiting.Goals.{in-Some, in_default-2, in_default}

pub give_marked-requires-clause-log : goal.give_marked-requires-clause-log
give_marked-requires-clause-log g c = let log = c.requires.log in
    elim c.match-behind.branch [
      | in-Some w ↦ (ap (λ (z : Boxed). z.value.length) w.journal-is ∙ (ap (λ (z : Journal). z.length) w.deref_mut.ensures.value ∙ log.0), ap (λ (z : Boxed). kept_in z.value) w.journal-is ∙ (ap kept_in w.deref_mut.ensures.value ∙ log.1))
      | in_default-2 w ↦ (ap (λ (z : Boxed). z.value.length) w.journal-is ∙ log.0, ap (λ (z : Boxed). kept_in z.value) w.journal-is ∙ log.1)
      | in_default w ↦ (ap (λ (z : Boxed). z.value.length) w.journal-is ∙ log.0, ap (λ (z : Boxed). kept_in z.value) w.journal-is ∙ log.1)
    ]

pub give_marked-requires-clause-marks : goal.give_marked-requires-clause-marks
give_marked-requires-clause-marks g c =
    elim c.match-behind.branch [
      | in-Some w ↦ ap (λ (z : Boxed). z.value.marks.items) w.journal-is ∙ (ap (λ (z : Journal). z.marks.items) w.deref_mut.ensures.value ∙ c.requires.marks)
      | in_default-2 w ↦ ap (λ (z : Boxed). z.value.marks.items) w.journal-is ∙ c.requires.marks
      | in_default w ↦ ap (λ (z : Boxed). z.value.marks.items) w.journal-is ∙ c.requires.marks
    ]

pub returns-then-is_none-clause-view : goal.returns-then-is_none-clause-view
returns-then-is_none-clause-view g c = ap (λ (z : SeatView). z.view) c.ring_all.ensures ∙ c.give_marked.ensures.view

pub returns-then-is_none-clause-standing : goal.returns-then-is_none-clause-standing
returns-then-is_none-clause-standing g c = subst (λ (z : SeatView). IsStanding z.view) (sym c.ring_all.ensures) c.give_marked.ensures.standing

pub returns-then-is_none-clause-sight : goal.returns-then-is_none-clause-sight
returns-then-is_none-clause-sight g c = let back = ap (λ (z : SeatView). z.view) c.ring_all.ensures ∙ c.give_marked.ensures.view in (c.requires.at ∙ sym (ap (λ (z : View). length z.seen) back), ap (λ (z : View). z.mark) back)

pub returns-else-is_none-clause-view : goal.returns-else-is_none-clause-view
returns-else-is_none-clause-view g c = ap (λ (z : SeatView). z.view) c.ring_all.ensures ∙ c.give_marked.ensures.view

pub returns-else-is_none-clause-standing : goal.returns-else-is_none-clause-standing
returns-else-is_none-clause-standing g c = subst (λ (z : SeatView). IsStanding z.view) (sym c.ring_all.ensures) c.give_marked.ensures.standing

pub returns-else-is_none-clause-sight : goal.returns-else-is_none-clause-sight
returns-else-is_none-clause-sight g c = let back = ap (λ (z : SeatView). z.view) c.ring_all.ensures ∙ c.give_marked.ensures.view in (c.requires.at ∙ sym (ap (λ (z : View). length z.seen) back), ap (λ (z : View). z.mark) back)
