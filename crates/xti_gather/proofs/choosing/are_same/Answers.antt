use Rattle.std.proofs.Common.{arith}
use Rattle.xti_gather.proofs.Numbers.{one-list}
use Rattle.xti_gather.proofs.choosing.are_same.Goals as goal

pub loop-place-init : goal.loop-place-init
loop-place-init c = λ k n m lt e f. absurd (omega (arith, lt))

pub returns : goal.returns
returns c = λ _. one-list c.args.cells.now c.args.others.now (omega (arith, c.if-len.false, c.len.ensures.len, c.len-2.ensures.len))
    (λ k n m lt e f. c.loop-place.invariant k n m (omega (arith, lt, c.loop-place-test.false, c.len-place-end.ensures.len)) e f)
