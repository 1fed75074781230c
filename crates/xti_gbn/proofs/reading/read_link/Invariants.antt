use Rattle.std.proofs.Common.{length, All}
use Rattle.xti_gbn.specs.Events.{IsSmallEvent}
use Rattle.xti_gbn.proofs.ReadLines.{IsReadTo}
use Rattle.xti_gbn.proofs.reading.read_link.Given as goal

abbrev pub invariant-loop-rest : goal.invariant-loop-rest
invariant-loop-rest l = record {
  read : IsReadTo l.text l.rest l.events;
  small : All IsSmallEvent l.events;
}

abbrev pub decreases-loop-rest : goal.decreases-loop-rest
decreases-loop-rest l = length l.rest
