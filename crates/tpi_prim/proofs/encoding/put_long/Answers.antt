use Rattle.std.proofs.Common.{arith}
use Rattle.tpi_prim.proofs.FilledIn.{are_bytes}
use Rattle.tpi_prim.proofs.encoding.put_long.Goals as goal

pub returns-clause-bytes : goal.returns-clause-bytes
returns-clause-bytes c = are_bytes c.args.bytes.now (λ i. omega (arith, c.type_inv.bytes i))
