-- Round robin goes on from any history of its script.
use Rattle.xti_model.proofs.laws.robin_goes_on.Goals as goal
use Rattle.xti_model.proofs.GoingOn.{robin-follows, robin-complete}

pub returns-clause-follows : goal.returns-clause-follows
returns-clause-follows c p lines n past h = robin-follows h n

pub returns-clause-complete : goal.returns-clause-complete
returns-clause-complete c p lines n past h le = robin-complete h n le
