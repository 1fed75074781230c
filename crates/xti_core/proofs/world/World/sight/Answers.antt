use Rattle.xti_core.proofs.world.World.sight.Goals as goal

pub returns : goal.returns
returns c = rw (← c.self.view_is) c.sight_of.ensures
