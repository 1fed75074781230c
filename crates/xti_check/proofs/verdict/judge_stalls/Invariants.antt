use Rattle.std.proofs.Common.{take}
use Rattle.xti_check.proofs.Lines.{StallsSoFar}
use Rattle.xti_check.proofs.verdict.judge_stalls.Given as goal

abbrev pub invariant-loop-stall : goal.invariant-loop-stall
invariant-loop-stall l = StallsSoFar l.journal (take l.stall-index l.journal.stalls) l.judge l.line
