use Rattle.std.proofs.Common.{arith}
use Rattle.xti_journal.proofs.TextLines.{cut_some, cut_none}
use Rattle.xti_journal.proofs.journal_text.take_line.Goals as goal

pub returns-in-Some-clause-some : goal.returns-in-Some-clause-some
returns-in-Some-clause-some c = cut_some c.args.text.now _ _ c.in-Some.ensures (omega arith)

pub returns-in-None-clause-none : goal.returns-in-None-clause-none
returns-in-None-clause-none c = cut_none c.args.text.now c.in-None.ensures
