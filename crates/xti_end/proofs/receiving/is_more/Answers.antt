use Rattle.std.proofs.Common.{arith}
use Rattle.xti_end.proofs.Fronts.{are_bytes}
use Rattle.xti_end.proofs.receiving.is_more.Goals as goal

pub returns-clause-bytes : goal.returns-clause-bytes
returns-clause-bytes c = are_bytes c.args.bytes.now (λ i. omega (arith, c.type_inv.bytes i))
