use Rattle.xti_laws.proofs.WaitingForWants.{blocked-as-wanted}
use Rattle.xti_laws.proofs.GoodArguments.{blocked-good}
use Rattle.xti_laws.proofs.laws.steps_wait_for_their_wants.Goals as goal

pub returns-clause-as_wanted : goal.returns-clause-as_wanted
returns-clause-as_wanted c = blocked-as-wanted

pub returns-clause-good : goal.returns-clause-good
returns-clause-good c = blocked-good
