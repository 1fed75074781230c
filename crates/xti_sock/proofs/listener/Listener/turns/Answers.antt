use Rattle.std.proofs.Common.{arith, ◌∙◌}
use Rattle.xti_sock.specs.declared.limits.TheConstants.{MOST_TURNS}
use Rattle.xti_sock.proofs.Turning.{turns-out, turns-end, turns-on}
use Rattle.xti_sock.proofs.listener.Listener.turns.Goals as goal

pub returns : goal.returns
returns g c =
    let i = c.loop-turn.invariant in
    record { made = i.runs _ _ _ (turns-out MOST_TURNS _ c.args.nonblock _ _ _ _ c.loop-turn-test.false); fd = i.fd }

pub returns-in-Some : goal.returns-in-Some
returns-in-Some g c =
    let i = c.loop-turn.invariant in
    record { made = i.runs _ _ _ (turns-end MOST_TURNS _ c.args.nonblock _ _ _ _ _ _ _ c.loop-turn-test.true c.in-Some.ensures.made); fd = c.in-Some.ensures.room.0 ∙ i.fd }

pub loop-turn-preserved : goal.loop-turn-preserved
loop-turn-preserved g c =
    let i = c.loop-turn.invariant in
    let e = c.in_default.ensures in
    record {
      fd = e.room.0 ∙ i.fd;
      free = e.made.0;
      room = omega (arith, i.room, e.room.1);
      runs = λ t a k r. i.runs t a k (turns-on MOST_TURNS _ c.args.nonblock _ _ _ _ _ _ _ _ t a k c.loop-turn-test.true e.made.1 e.room.0 r);
    }
