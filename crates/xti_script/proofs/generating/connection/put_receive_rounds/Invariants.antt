use Rattle.std.proofs.Common.{◌≡◌, ◌++◌}
use Rattle.xti_script.specs.Generated.{receive_rounds}
use Rattle.xti_script.proofs.generating.connection.put_receive_rounds.Given as goal

abbrev pub invariant-loop-round : goal.invariant-loop-round
invariant-loop-round l = l.lines.items ≡ l.initial.lines.items ++ receive_rounds l._round
