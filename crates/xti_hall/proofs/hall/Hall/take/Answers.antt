use Rattle.std.proofs.Common.{subst, ◌∙◌}
use Rattle.xti_hall_rule.specs.Steps.{Took}
use Rattle.xti_hall.proofs.hall.Hall.take.Goals as goal

pub returns-then-try_take-2-clause-took : goal.returns-then-try_take-2-clause-took
returns-then-try_take-2-clause-took g c =
    subst (λ m. Took g.C.Stands.stands m c.args.cell c.try_take-in-loop.new.pass.me) (c.loop.invariant.2 ∙ c.if-try_take.ensures.took) c.if-try_take-2.ensures.took
