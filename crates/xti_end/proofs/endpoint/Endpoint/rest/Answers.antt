use Rattle.xti_end.proofs.Fronts.{rest-is, rest-none}
use Rattle.xti_end.proofs.Views.{first-of}
use Rattle.xti_end.proofs.endpoint.Endpoint.rest.Goals as goal

pub returns-in-Some : goal.returns-in-Some
returns-in-Some c =
    let o = rw (← c.self.view_is) at c.requires in
    rw (← c.self.view_is, first-of c.self.inside.body c.self.inside.waiting o) (rest-is c.self.inside.waiting.datagrams.taken c.self.inside.waiting.datagrams.pushed c.in-Some.rest.now c.self.invariant.datagrams c.in-Some.ensures)

pub returns-in-None : goal.returns-in-None
returns-in-None c =
    let o = rw (← c.self.view_is) at c.requires in
    rw (← c.self.view_is, first-of c.self.inside.body c.self.inside.waiting o) (rest-none c.self.inside.waiting.datagrams.taken c.self.inside.waiting.datagrams.pushed c.self.invariant.datagrams c.in-None.ensures)
