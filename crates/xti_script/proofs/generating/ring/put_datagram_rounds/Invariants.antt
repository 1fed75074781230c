use Rattle.std.proofs.Common.{◌≡◌, ◌++◌}
use Rattle.xti_script.specs.Generated.{datagram_rounds}
use Rattle.xti_script.proofs.generating.ring.put_datagram_rounds.Given as goal

abbrev pub invariant-loop-round : goal.invariant-loop-round
invariant-loop-round l = l.lines.items ≡ l.initial.lines.items ++ datagram_rounds l.shift l.worker l.round
