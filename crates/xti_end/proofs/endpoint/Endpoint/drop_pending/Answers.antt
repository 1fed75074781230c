use Rattle.std.proofs.Common.{refl}
use Rattle.xti_end.proofs.Numbers.{pending-dropped}
use Rattle.xti_end.proofs.endpoint.Endpoint.drop_pending.Goals as goal

pub returns-in-Some : goal.returns-in-Some
returns-in-Some c =
    let e = rw c.as_slice.ensures at c.in-Some.ensures.found in
    rw (← c.self.view_is, c.discard.ensures.spare, pending-dropped c.self.inside.body c.self.inside.waiting c.discard.new.self c.args.seq.0 c.in-Some.place c.discard.ensures.items e) refl
