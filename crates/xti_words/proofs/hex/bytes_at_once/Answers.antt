use Rattle.std.proofs.Common.{refl, arith}
use Rattle.xti_words.proofs.HexLaws.{no_worths, larger, worths_more, no_bytes, bytes_more, all_bytes}
use Rattle.xti_words.proofs.hex.bytes_at_once.Goals as goal

pub loop-i-init : goal.loop-i-init
loop-i-init c = no_worths _ _ refl

pub loop-i-preserved : goal.loop-i-preserved
loop-i-preserved c =
    let m = larger c.loop-i.most c.worth-value.result c.max-most.result c.max-most.ensures in
    worths_more c.args.digits.now c.loop-i.worths c.loop-i.i c.loop-i.most c.worth-value.result c.max-most.result c.loop-i.invariant (omega (arith, c.told-digits)) c.loop-i-test.true c.worth-value.ensures m.left m.right m.one

pub loop-i-2-init : goal.loop-i-2-init
loop-i-2-init c = no_bytes _ _ refl

pub loop-i-2-preserved : goal.loop-i-2-preserved
loop-i-2-preserved c = bytes_more c.args.digits.now c.loop-i.worths c.loop-i-2.bytes c.loop-i.i c.loop-i-2.i c.loop-i.most c.loop-i.invariant (omega arith) (omega arith) c.told-digits (omega arith) c.loop-i-2.invariant

pub returns : goal.returns
returns c = all_bytes c.args.digits.now c.loop-i-2.bytes c.loop-i-2.i (omega arith) c.told-digits c.loop-i-2.invariant
