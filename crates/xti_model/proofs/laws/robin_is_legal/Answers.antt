-- Round robin goes on legally.
use Rattle.std.proofs.Common.{[]}
use Rattle.xti_model.specs.Robin.{most_steps}
use Rattle.xti_model.proofs.laws.robin_is_legal.Goals as goal
use Rattle.xti_model.proofs.Legality.{robin_from-legal}

pub returns-clause-goes_on : goal.returns-clause-goes_on
returns-clause-goes_on c p lines n past l = robin_from-legal p lines n past l

pub returns-clause-whole : goal.returns-clause-whole
returns-clause-whole c s = robin_from-legal s.providers s.lines most_steps [] tt
