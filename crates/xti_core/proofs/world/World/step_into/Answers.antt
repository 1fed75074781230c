use Rattle.std.proofs.Common.{refl, ap}
use Rattle.xti_core.proofs.AllLent.{all-there}
use Rattle.xti_core.proofs.Standing.{fit-standing, stands, standing}
use Rattle.xti_core.specs.Written.{told}
use Rattle.xti_core.proofs.Written.{told-if-ok, told-is-ok, told-on-err}
use Rattle.xti_core.proofs.world.World.step_into.Goals as goal

pub apply_into-requires-clause-fit : goal.apply_into-requires-clause-fit
apply_into-requires-clause-fit c = fit-standing c.self.inside.lent c.self.invariant

pub apply_into-requires-clause-lent : goal.apply_into-requires-clause-lent
apply_into-requires-clause-lent c = all-there c.self.inside.lent c.args.call.now c.self.invariant.sound

pub invariant_of-self : goal.invariant_of-self
invariant_of-self c =
    stands c.self.inside.lent c.apply_into.new.lent c.args.call.now c.args.go (told c.apply_into.result c.apply_into.new.outcome c.apply_into.new.after) c.self.invariant
    c.apply_into.ensures.step.step c.apply_into.ensures.step.still c.apply_into.ensures.kept
    (told-on-err _ c.apply_into.result _ _ c.apply_into.ensures.err)
