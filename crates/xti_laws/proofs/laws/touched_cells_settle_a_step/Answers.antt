use Rattle.xti_laws.proofs.TouchedCells.{touched-reads, touched-changes}
use Rattle.xti_laws.proofs.TouchedAgain.{touched-again}
use Rattle.xti_laws.proofs.KnownPlaces.{known-places}
use Rattle.xti_laws.proofs.laws.touched_cells_settle_a_step.Goals as goal

pub returns-clause-reads : goal.returns-clause-reads
returns-clause-reads c p w call k n g = touched-reads p w call g k n

pub returns-clause-changes : goal.returns-clause-changes
returns-clause-changes c p w call g = touched-changes p w call g

pub returns-clause-again : goal.returns-clause-again
returns-clause-again c = touched-again

pub returns-clause-known : goal.returns-clause-known
returns-clause-known c = known-places
