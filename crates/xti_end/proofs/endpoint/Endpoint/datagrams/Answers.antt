use Rattle.xti_end.proofs.Views.{datagrams-at}
use Rattle.xti_end.proofs.endpoint.Endpoint.datagrams.Goals as goal

pub returns-clause-datagrams : goal.returns-clause-datagrams
returns-clause-datagrams c = rw (← c.self.view_is) (datagrams-at c.self.inside.body c.self.inside.waiting c.self.invariant.no_datagrams)
