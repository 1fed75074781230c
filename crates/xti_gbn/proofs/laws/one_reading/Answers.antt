use Rattle.xti_gbn.proofs.LinkLaws.{one_reading}
use Rattle.xti_gbn.proofs.laws.one_reading.Goals as goal

pub returns : goal.returns
returns c = one_reading
