use Rattle.xti_journal_text.proofs.Histories.{counts_none}
use Rattle.xti_journal_text.proofs.counting.Summary.new.Goals as goal

pub returns : goal.returns
returns c = counts_none c.new.result c.new-2.result c.new.ensures c.new-2.ensures
