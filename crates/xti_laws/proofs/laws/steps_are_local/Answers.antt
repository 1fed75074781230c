use Rattle.xti_laws.proofs.Local.{step-local}
use Rattle.xti_laws.proofs.Others.{step-others}
use Rattle.xti_laws.proofs.laws.steps_are_local.Goals as goal

pub returns-clause-reads : goal.returns-clause-reads
returns-clause-reads c p t w call h g k = step-local p t w call g h k

pub returns-clause-changes : goal.returns-clause-changes
returns-clause-changes c p t w call h g = step-others p t w call g h
