use Rattle.std.proofs.Common.{sym, arith}
use Rattle.tpi_grammar.proofs.Tails.{tail_short, tail_whole}
use Rattle.tpi_grammar.proofs.measure.measure_tail.Goals as goal

pub returns-then-bytes-total-clause-scans : goal.returns-then-bytes-total-clause-scans
returns-then-bytes-total-clause-scans c = sym (tail_short c.args.total c.args.bytes.now (λ i. omega (arith, c.type_inv.bytes i)) c.if-bytes-total.true)

pub returns-else-bytes-total-clause-scans : goal.returns-else-bytes-total-clause-scans
returns-else-bytes-total-clause-scans c = sym (tail_whole c.args.total c.args.bytes.now (λ i. omega (arith, c.type_inv.bytes i)) c.if-bytes-total.false)
