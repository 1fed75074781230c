use Rattle.std.proofs.Common.{refl}
use Rattle.xti_journal.proofs.laws.written_journals_are_read.Goals as goal

pub returns : goal.returns
returns c = λ j h. record { has_text = h; written = refl }
