use Rattle.std.proofs.Common.{◌≡◌, ◌≤◌, ◌-◌, ◌+◌, arith, subst}
use Rattle.xti_registry.specs.Chains.{HasRoom}
use Rattle.xti_registry.proofs.registry.Registry.put.Goals as goal

pub invariant_of-self : goal.invariant_of-self
invariant_of-self c =
    let some : 1 ≤ c.self.inside.spare = rw (← c.self.view_is) at c.requires in
    let one : c.self.inside.spare ≡ c.self.inside.spare - 1 + 1 = omega arith in
    record {
      numbered = c.self.invariant.numbered;
      can_close = c.self.invariant.can_close;
      chained = c.add.ensures.chained;
      room = c.add.ensures.room (c.self.inside.spare - 1) (subst (HasRoom c.self.inside.addresses) one c.self.invariant.room);
    }
