use Rattle.xti_gbn.proofs.LinkLaws.{never_both}
use Rattle.xti_gbn.proofs.laws.never_both.Goals as goal

pub returns : goal.returns
returns c = never_both
