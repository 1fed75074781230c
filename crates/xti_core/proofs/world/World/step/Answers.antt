use Rattle.std.proofs.Common.{ap}
use Rattle.xti_core.proofs.AllLent.{all-there}
use Rattle.xti_core.proofs.OneCell.{if-ok, on-err}
use Rattle.xti_core.proofs.Standing.{fit-standing, stands, standing, unchanged}
use Rattle.xti_core.proofs.world.World.step.Goals as goal

pub apply-requires-clause-fit : goal.apply-requires-clause-fit
apply-requires-clause-fit c = fit-standing c.self.inside.lent c.self.invariant

pub apply-requires-clause-lent : goal.apply-requires-clause-lent
apply-requires-clause-lent c = all-there c.self.inside.lent c.args.call.now c.self.invariant.sound

pub invariant_of-self : goal.invariant_of-self
invariant_of-self c = stands c.self.inside.lent c.apply.new.lent c.args.call.now c.args.go c.apply.result c.self.invariant c.apply.ensures.step c.apply.ensures.still c.apply.ensures.kept c.apply.ensures.err

pub returns-clause-still : goal.returns-clause-still
returns-clause-still c = rw (← c.self.view_is) (if-ok c.apply.result _ _ (λ a h i. ap standing (h i)) c.apply.ensures.still)

pub returns-clause-err : goal.returns-clause-err
returns-clause-err c = rw (← c.self.view_is) (on-err c.apply.result _ _ (unchanged c.self.inside.lent c.apply.new.lent c.apply.ensures.kept) c.apply.ensures.err)

pub returns-clause-sure : goal.returns-clause-sure
returns-clause-sure c = rw (← c.self.view_is) c.apply.ensures.sure
