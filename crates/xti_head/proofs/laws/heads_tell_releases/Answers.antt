use Rattle.xti_head.proofs.Releases.{head_told, told}
use Rattle.xti_head.proofs.laws.heads_tell_releases.Goals as goal

pub returns-clause-version : goal.returns-clause-version
returns-clause-version c version text p h = (head_told version text p h).same

pub returns-clause-releases : goal.returns-clause-releases
returns-clause-releases c version text p h = told version p (head_told version text p h)
