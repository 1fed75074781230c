use Rattle.xti_model.specs.World.{place_of}
use Rattle.xti_lent.proofs.Sound.{short-source}
use Rattle.xti_data.proofs.datagrams.sending.indication.Goals as goal

pub datagram-requires-clause-source : goal.datagram-requires-clause-source
datagram-requires-clause-source c = short-source c.args.lent.now (place_of c.args.lent.now.providers c.args.fd.0) c.args.fd.0 c.in-Some.e.now c.requires.fit c.in-Some.ensures.held c.in-Some.ensures.open
