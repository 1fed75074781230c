use Rattle.xti_journal.proofs.Whole.{the_journal}
use Rattle.xti_journal.proofs.laws.one_journal.Goals as goal

pub returns : goal.returns
returns c = the_journal
