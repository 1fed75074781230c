use Rattle.std.proofs.Common.{◌≡◌, true}
use Rattle.xti_laws.proofs.ChangeKinds.{plan-kinds}
use Rattle.xti_laws.proofs.KeptCells.{after_from-kept}
use Rattle.xti_laws.proofs.laws.changes_are_named.Goals as goal

pub returns-clause-kinds : goal.returns-clause-kinds
returns-clause-kinds c = plan-kinds

pub returns-clause-kept : goal.returns-clause-kept
returns-clause-kept c p test k w past entries h = after_from-kept p (λ cell. test cell ≡ true) k w past entries h
