use Rattle.std.proofs.Common.{take}
use Rattle.xti_replay.specs.Progress.{AreFresh}
use Rattle.xti_replay.proofs.beginning.fresh_workers.Given as goal

abbrev pub invariant-loop-place : goal.invariant-loop-place
invariant-loop-place l = AreFresh (take l.place l.lines) l.workers.items
