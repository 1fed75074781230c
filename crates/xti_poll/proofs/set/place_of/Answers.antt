use Rattle.std.proofs.Common.{arith}
use Rattle.xti_poll.proofs.Sets.{none-has}
use Rattle.xti_poll.proofs.set.place_of.Goals as goal

pub returns : goal.returns
returns c = none-has c.args.fd c.args.pairs.now c.loop-place.place c.loop-place.invariant (omega (arith, c.loop-place-test.false))
