use Rattle.xti_model.specs.World.{place_of}
use Rattle.xti_lent.proofs.Agreeing.{sound-at}
use Rattle.xti_switch.proofs.callers.requests.Goals as goal

pub requests-requires-clause-sound : goal.requests-requires-clause-sound
requests-requires-clause-sound c = sound-at c.args.lent.now (place_of c.args.lent.now.providers c.args.fd.0) c.in-Some.e.now c.requires c.in-Some.ensures.held
