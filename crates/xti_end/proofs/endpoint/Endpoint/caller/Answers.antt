use Rattle.xti_end.proofs.Callers.{caller-found}
use Rattle.xti_end.proofs.endpoint.Endpoint.caller.Goals as goal

pub returns : goal.returns
returns c =
    rw (← c.self.view_is) (caller-found c.self.inside.body c.self.inside.waiting c.in_ok-ind.ind.now c.args.seq.0 (rw (← c.self.view_is) at c.requires) c.in_ok-ind.ensures.kind (rw c.as_slice.ensures at c.in_ok-ind.ensures.found))
