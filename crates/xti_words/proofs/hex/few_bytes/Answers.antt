use Rattle.std.proofs.Common.{refl, arith}
use Rattle.xti_words.proofs.HexLaws.{no_bytes, one_more, few_of}
use Rattle.xti_words.proofs.hex.few_bytes.Goals as goal

pub loop-i-init : goal.loop-i-init
loop-i-init c = no_bytes _ _ refl

pub loop-i-preserved : goal.loop-i-preserved
loop-i-preserved c = one_more c.args.digits.now c.loop-i.bytes c.loop-i.i c.worth-high.result c.worth-low.result c.worth-high.ensures c.worth-low.ensures c.if-high-ge16.false c.if-low-ge16.false (omega arith) (omega arith) c.loop-i.invariant

pub returns : goal.returns
returns c = few_of c.args.digits.now c.loop-i.bytes c.loop-i.i (omega arith) (omega arith) c.requires.pairs c.loop-i.invariant
