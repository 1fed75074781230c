use Rattle.xti_end.proofs.Views.{expedited-at}
use Rattle.xti_end.proofs.endpoint.Endpoint.expedited.Goals as goal

pub returns : goal.returns
returns c = rw (← c.self.view_is) (expedited-at c.self.inside.body c.self.inside.waiting c.self.invariant.no_expedited)
