use Rattle.std.proofs.Common.{refl}
use Rattle.xti_end.proofs.Numbers.{number-dropped}
use Rattle.xti_end.proofs.endpoint.Endpoint.drop_number.Goals as goal

pub returns-in-Some : goal.returns-in-Some
returns-in-Some c =
    let e = rw c.as_slice.ensures at c.in-Some.ensures.found in
    rw (← c.self.view_is, c.discard.ensures.spare, number-dropped c.self.inside.body c.self.inside.waiting c.discard.new.self c.args.seq.0 c.in-Some.place c.discard.ensures.items e) refl
