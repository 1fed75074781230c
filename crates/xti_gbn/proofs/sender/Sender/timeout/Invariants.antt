use Rattle.std.proofs.Common.{◌≡◌, take}
use Rattle.xti_gbn.specs.Numbered.{packets_from}
use Rattle.xti_gbn.proofs.sender.Sender.timeout.Given as goal

abbrev pub invariant-loop-i : goal.invariant-loop-i
invariant-loop-i l = l.packets ≡ packets_from l.self-inside.base (take l.i l.self-inside.kept.items)
