use Rattle.xti_core.proofs.world.World.events.Goals as goal

pub returns : goal.returns
returns c = rw (← c.self.view_is) c.events_of.ensures
