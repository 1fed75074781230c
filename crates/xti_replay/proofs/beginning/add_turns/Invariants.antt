use Rattle.std.proofs.Common.{◌≡◌, ◌++◌, ◌-◌, ℕ, List}
use Rattle.xti_model.specs.declared.entry.Entry.{Entry}
use Rattle.xti_model.specs.declared.script.Line.{Line}
use Rattle.xti_model.specs.Robin.{numbers}
use Rattle.xti_replay.specs.Progress.{AreKept}
use Rattle.xti_replay.specs.Turns.{LeavesOutFinished}
use Rattle.xti_replay.proofs.beginning.add_turns.Given as goal

abbrev pub invariant-loop-number : goal.invariant-loop-number
invariant-loop-number l = (lines : List Line) (past : List Entry) → AreKept lines past l.workers → (more : List ℕ) × (l.turns.items ≡ l.fn.turns.items ++ more) × LeavesOutFinished lines past (numbers l.from (l.number - l.from)) more
