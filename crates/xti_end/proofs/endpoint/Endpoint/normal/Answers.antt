use Rattle.xti_end.proofs.Views.{normal-at}
use Rattle.xti_end.proofs.endpoint.Endpoint.normal.Goals as goal

pub returns : goal.returns
returns c = rw (← c.self.view_is) (normal-at c.self.inside.body c.self.inside.waiting c.self.invariant.no_normal)
