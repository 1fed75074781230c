use Rattle.xti_registry.proofs.registry.Registry.remove.Goals as goal

pub invariant_of-self : goal.invariant_of-self
invariant_of-self c = record {
  numbered = c.self.invariant.numbered;
  can_close = c.self.invariant.can_close;
  chained = c.remove.ensures.chained;
  room = c.remove.ensures.room c.self.inside.spare c.self.invariant.room;
}
