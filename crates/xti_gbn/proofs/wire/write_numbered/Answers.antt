use Rattle.std.proofs.Common.{arith}
use Rattle.std.proofs.lemmas.Grind.{common_steps}
use Rattle.xti_gbn.specs.Wire.{numbered}
use Rattle.xti_gbn.proofs.wire.write_numbered.Goals as goal

pub returns : goal.returns
unfolding numbered
returns c = grind (arith, common_steps)
