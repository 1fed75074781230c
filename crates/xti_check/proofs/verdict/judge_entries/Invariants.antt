use Rattle.std.proofs.Common.{take}
use Rattle.xti_check.proofs.Lines.{EntriesSoFar}
use Rattle.xti_check.proofs.verdict.judge_entries.Given as goal

abbrev pub invariant-loop-place : goal.invariant-loop-place
invariant-loop-place l = EntriesSoFar l.journal (take l.place l.journal.entries) l.judge l.line
