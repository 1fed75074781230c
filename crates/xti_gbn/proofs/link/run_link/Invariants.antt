use Rattle.std.proofs.Common.{take}
use Rattle.xti_gbn.proofs.Runs.{StandsAfter}
use Rattle.xti_gbn.proofs.link.run_link.Given as goal

abbrev pub invariant-loop-event : goal.invariant-loop-event
invariant-loop-event g l = record {
  ready : g.C.Carrier.is_ready l.carrier;
  stands : StandsAfter (take l.event-index l.event-items) l.ends l.lines;
}
