use Rattle.std.proofs.Common.{◌≡◌, ◌++◌}
use Rattle.xti_script.specs.Generated.{send_rounds}
use Rattle.xti_script.proofs.generating.connection.put_send_rounds.Given as goal

abbrev pub invariant-loop-round : goal.invariant-loop-round
invariant-loop-round l = l.lines.items ≡ l.initial.lines.items ++ send_rounds l.shift l.round
