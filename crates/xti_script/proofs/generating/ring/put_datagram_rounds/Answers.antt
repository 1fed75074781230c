use Rattle.std.proofs.Common.{sym, append-nil}
use Rattle.xti_script.specs.Generated.{datagram_rounds}
use Rattle.xti_script.proofs.MoreLines.{added, more_datagrams}
use Rattle.xti_script.proofs.generating.ring.put_datagram_rounds.Goals as goal

pub loop-round-init : goal.loop-round-init
unfolding datagram_rounds
loop-round-init c = sym (append-nil c.args.lines.now.items)

pub loop-round-preserved : goal.loop-round-preserved
loop-round-preserved c =
    added c.args.lines.now.items c.loop-round.lines.items _ _ _ _ c.loop-round.invariant c.in_ok-put_datagram_round.ensures (more_datagrams c.args.shift c.args.worker c.loop-round.round)
