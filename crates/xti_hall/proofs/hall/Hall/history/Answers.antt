use Rattle.std.proofs.Common.{ap, sym, ◌∙◌}
use Rattle.xti_hall_rule.specs.declared.view.Mark.TheVariants.{Free}
use Rattle.xti_hall_rule.specs.declared.view.View.{View}
use Rattle.xti_hall.proofs.Looking.{looks-back}
use Rattle.xti_hall.proofs.hall.Hall.history.Goals as goal

pub give_marked-requires-clause-hall : goal.give_marked-requires-clause-hall
give_marked-requires-clause-hall g c = let l = c.look-journal.ensures in (l.hall.0 ∙ c.requires.hall.0, ap (λ (z : View). z.setting) l.look ∙ c.requires.hall.1)

pub give_marked-requires-clause-marks : goal.give_marked-requires-clause-marks
give_marked-requires-clause-marks g c = sym (ap (λ (z : View). z.marks) c.look-journal.ensures.look)

pub returns-clause-looks : goal.returns-clause-looks
returns-clause-looks g c = let l = c.look-journal.ensures in
    looks-back c.args.seat.now.view c.look-journal.new.seat.view c.give_marked.new.seat.view c.look-journal.result.value Free l.look l.holds.0 c.give_marked.ensures.view c.requires.free
