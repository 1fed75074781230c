use Rattle.std.proofs.Common.{arith, length-drop}
use Rattle.tpi_prim.proofs.FeedReads.{spell_more, goes_wrong, is_front}
use Rattle.tpi_prim.proofs.reading.read_frames.Goals as goal

pub loop-prim-preserved : goal.loop-prim-preserved
loop-prim-preserved c =
    let l = c.loop-prim in
    let bs = c.args.bytes.now in (
      omega (arith, c.in-Value.ensures.means.0, length-drop l.used bs, l.invariant.0),
      rw c.in_ok-push-in-Value.ensures.ok (spell_more bs l.prims l.used c.in-Value.prim c.in-Value.more l.invariant.1 c.in-Value.ensures.means.1),
    )

pub returns-in-Short : goal.returns-in-Short
returns-in-Short c = let l = c.loop-prim in is_front c.args.bytes.now l.prims l.used l.invariant.0 l.invariant.1 c.in-Short.ensures.means

pub returns-in-Bad : goal.returns-in-Bad
returns-in-Bad c = let l = c.loop-prim in goes_wrong c.args.bytes.now l.prims l.used c.in-Bad.at l.invariant.0 l.invariant.1 c.in-Bad.ensures.means
