use Rattle.std.proofs.Common.{sym, append-nil, arith}
use Rattle.xti_script.specs.Generated.{setups}
use Rattle.xti_script.proofs.MoreLines.{added, more_setups}
use Rattle.xti_script.proofs.generating.ring.put_setups.Goals as goal

pub loop-worker-init : goal.loop-worker-init
unfolding setups
loop-worker-init c = sym (append-nil c.args.lines.now.items)

pub loop-worker-preserved : goal.loop-worker-preserved
loop-worker-preserved c =
    added c.args.lines.now.items c.loop-worker.lines.items _ _ _ _ c.loop-worker.invariant c.in_ok-put_ring_setup.ensures (more_setups c.loop-worker.worker (omega (arith, c.loop-worker.auto.worker)))
