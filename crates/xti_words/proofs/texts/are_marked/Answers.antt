use Rattle.std.proofs.Common.{arith}
use Rattle.xti_words.proofs.TextBytes.{mark_more}
use Rattle.xti_words.proofs.texts.are_marked.Goals as goal

pub loop-c-preserved : goal.loop-c-preserved
loop-c-preserved c = mark_more c.args.bytes.now c.loop-c.c-index _ _ (omega arith) c.mark-all.ensures c.loop-c.invariant
