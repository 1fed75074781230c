use Rattle.std.proofs.Common.{ap, sym, ◌∙◌}
use Rattle.xti_hall_rule.specs.declared.view.Mark.TheVariants.{Resting}
use Rattle.xti_hall_rule.specs.declared.view.View.{View}
use Rattle.xti_hall.proofs.Looking.{looks-back}
use Rattle.xti_hall.proofs.hall.Hall.rest.Goals as goal

pub give_resting-requires-clause-hall : goal.give_resting-requires-clause-hall
give_resting-requires-clause-hall g c = let l = c.look-journal.ensures in (l.hall.0 ∙ c.requires.hall.0, ap (λ (z : View). z.setting) l.look ∙ c.requires.hall.1)

pub give_resting-requires-clause-marks : goal.give_resting-requires-clause-marks
give_resting-requires-clause-marks g c = sym (ap (λ (z : View). z.marks) c.look-journal.ensures.look)

pub returns-clause-mark : goal.returns-clause-mark
returns-clause-mark g c = ap (λ (z : View). z.mark) c.give_resting.ensures.view

pub returns-clause-looks : goal.returns-clause-looks
returns-clause-looks g c = let l = c.look-journal.ensures in
    looks-back c.args.seat.now.view c.look-journal.new.seat.view c.give_resting.new.seat.view c.look-journal.result.value Resting l.look l.holds.0 c.give_resting.ensures.view c.requires.free
