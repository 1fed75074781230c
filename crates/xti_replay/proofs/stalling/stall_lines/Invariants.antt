use Rattle.std.proofs.Common.{◌≡◌, List}
use Rattle.std.specs.List.{flat_map}
use Rattle.xti_model.specs.declared.entry.Entry.{Entry}
use Rattle.xti_model.specs.Robin.{numbers}
use Rattle.xti_replay.specs.Progress.{AreKept}
use Rattle.xti_replay.specs.Stalls.{stall_at}
use Rattle.xti_replay.proofs.stalling.stall_lines.Given as goal

abbrev pub invariant-loop-number : goal.invariant-loop-number
invariant-loop-number l = (past : List Entry) → AreKept l.lines past l.fn.workers.items → AreKept l.lines past l.workers.items × (l.stalls ≡ flat_map (stall_at l.lines past) (numbers 0 l.number))
