use Rattle.std.proofs.Common.{subst, ◌∙◌}
use Rattle.xti_hall_rule.specs.Steps.{Began}
use Rattle.xti_hall.proofs.hall.Hall.take_pen.Goals as goal

pub returns-then-try_pen-2-clause-began : goal.returns-then-try_pen-2-clause-began
returns-then-try_pen-2-clause-began g c =
    subst (λ m. Began m c.args.self.now.table.shared.key.cells c.try_pen-in-loop.new.pass.me) (c.loop.invariant.2 ∙ c.if-try_pen.ensures.began) c.if-try_pen-2.ensures.began
