use Rattle.xti_model.specs.World.{place_of}
use Rattle.xti_lent.proofs.Agreeing.{sound-at}
use Rattle.xti_switch.proofs.connect.number_for.Goals as goal

pub is_full-requires-clause-sound : goal.is_full-requires-clause-sound
is_full-requires-clause-sound c = sound-at c.args.lent.now (place_of c.args.lent.now.providers c.args.listener.0) c.in-Some.l.now c.requires c.in-Some.ensures.held
