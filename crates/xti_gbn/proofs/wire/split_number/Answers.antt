use Rattle.std.proofs.Common.{arith}
use Rattle.xti_gbn.proofs.Spellings.{split-read}
use Rattle.xti_gbn.proofs.wire.split_number.Goals as goal

pub returns-clause-found : goal.returns-clause-found
returns-clause-found c = (omega arith, split-read c.args.bytes.now c.from_be_bytes.result (omega arith) (λ i. omega (arith, c.type_inv.bytes i)) c.from_be_bytes.ensures)
