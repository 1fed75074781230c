use Rattle.std.proofs.Common.{take}
use Rattle.xti_replay.proofs.Histories.{AreTold}
use Rattle.xti_replay.proofs.beginning.workers_after.Given as goal

abbrev pub invariant-loop-entry : goal.invariant-loop-entry
invariant-loop-entry l = AreTold l.lines (take l.entry-index l.history) l.workers.items
