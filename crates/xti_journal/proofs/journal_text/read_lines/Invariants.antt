use Rattle.std.proofs.Common.{length}
use Rattle.xti_journal.proofs.Whole.{Loop}
use Rattle.xti_journal.proofs.journal_text.read_lines.Given as goal

abbrev pub invariant-loop-rest : goal.invariant-loop-rest
invariant-loop-rest l = Loop l.fn.draft.providers l.draft.providers l.draft.entries l.draft.stalls l.text l.rest l.number

abbrev pub decreases-loop-rest : goal.decreases-loop-rest
decreases-loop-rest l = length l.rest
