use Rattle.std.proofs.Common.{refl}
use Rattle.xti_journal.proofs.laws.never_both.Goals as goal

pub returns : goal.returns
returns c = λ text j n h r. r.refused (record { journal = j; other = text; is_journal = h; same = refl })
