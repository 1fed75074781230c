use Rattle.std.proofs.Common.{◌∙◌, [], length, ap, arith}
use Rattle.xti_gbn.proofs.Spellings.{length-numbered, ack-number}
use Rattle.xti_gbn.proofs.carrier.carry_acknowledgement.Goals as goal

pub carry-requires-clause-some : goal.carry-requires-clause-some
carry-requires-clause-some g c = omega (arith, ap length c.as_slice.ensures, ap length c.in_ok-text.ensures, length-numbered 0x41 c.args.number [])

pub carry-requires-clause-most : goal.carry-requires-clause-most
carry-requires-clause-most g c = omega (arith, ap length c.as_slice.ensures, ap length c.in_ok-text.ensures, length-numbered 0x41 c.args.number [])

pub returns-clause-number : goal.returns-clause-number
returns-clause-number g c =
    ack-number c.read_acknowledgement.result c.as_slice-2.result.now c.args.number (omega arith)
    (c.as_slice-2.ensures ∙ c.in_ok-came.ensures.same ∙ c.as_slice.ensures ∙ c.in_ok-text.ensures) c.read_acknowledgement.ensures
