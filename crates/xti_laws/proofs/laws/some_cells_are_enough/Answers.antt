use Rattle.xti_laws.proofs.TouchedAgain.{named-some, touched-some}
use Rattle.xti_laws.proofs.Touched.{within-named}
use Rattle.xti_model.specs.World.{only}
use Rattle.xti_laws.proofs.TouchedCells.{some-reads, some-changes}
use Rattle.xti_laws.proofs.laws.some_cells_are_enough.Goals as goal

pub returns-clause-names : goal.returns-clause-names
returns-clause-names c p t w call h = named-some p t w call (within-named p t (only t w) call h)

pub returns-clause-touches : goal.returns-clause-touches
returns-clause-touches c = touched-some

pub returns-clause-reads : goal.returns-clause-reads
returns-clause-reads c p t w call h k n g = some-reads p t w call g h k n

pub returns-clause-changes : goal.returns-clause-changes
returns-clause-changes c p t w call h g = some-changes p t w call g h
