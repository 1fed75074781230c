use Rattle.xti_head.proofs.Valid.{head_valid}
use Rattle.xti_head.proofs.laws.heads_are_valid.Goals as goal

pub returns : goal.returns
returns c = head_valid
