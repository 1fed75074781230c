use Rattle.xti_gbn.proofs.Spellings.{packet-some, packet-most}
use Rattle.xti_gbn.proofs.carrier.carry_packet.Goals as goal

pub carry-requires-clause-some : goal.carry-requires-clause-some
carry-requires-clause-some g c = packet-some c.args.text.now c.requires.text

pub carry-requires-clause-most : goal.carry-requires-clause-most
carry-requires-clause-most g c = packet-most c.args.text.now c.requires.text
