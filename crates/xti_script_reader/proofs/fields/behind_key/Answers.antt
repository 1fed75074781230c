use Rattle.std.proofs.Common.{arith}
use Rattle.xti_script_reader.proofs.KeyBytes.{key_more}
use Rattle.xti_script_reader.proofs.fields.behind_key.Goals as goal

pub loop-k-preserved : goal.loop-k-preserved
loop-k-preserved c = key_more c.args.key.now c.loop-k.rest.now c.in_ok-c.others.now c.loop-k.k-index c.in_ok-c.c.now _ (omega arith) c.in_ok-c.ensures.cases.0 c.if-c-k.false c.loop-k.invariant
