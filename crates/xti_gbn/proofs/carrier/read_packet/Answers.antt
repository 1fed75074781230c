use Rattle.std.proofs.Common.{Result, Err, ap}
use Rattle.xti_gbn.specs.declared.wire.Wire.{Wire}
use Rattle.xti_gbn.specs.declared.wire.Wire.TheVariants.{Data}
use Rattle.xti_gbn.specs.declared.wire.WireFail.{WireFail}
use Rattle.xti_gbn.proofs.carrier.read_packet.Goals as goal

pub unreachable-requires : goal.unreachable-requires
unreachable-requires c = let e = c.in-Ok-Ack.ensures.only (Data c.requires.0) c.requires.1 c.requires.2 in cc

pub unreachable-requires-in-Err-Bad : goal.unreachable-requires-in-Err-Bad
unreachable-requires-in-Err-Bad c =
    c.in-Err-Bad.ensures.bad.0 (ap (λ (f : WireFail). let r : Result Wire WireFail = Err f in r) c.in-Err-Bad.field-0-is) (Data c.requires.0) c.requires.1 c.requires.2
