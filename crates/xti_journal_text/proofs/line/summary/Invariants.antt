use Rattle.std.proofs.Common.{take}
use Rattle.xti_journal_text.specs.Counting.{Counts}
use Rattle.xti_journal_text.proofs.line.summary.Given as goal

abbrev pub invariant-loop-entry : goal.invariant-loop-entry
invariant-loop-entry l = Counts (take l.entry-index l.entries) l.summary
