-- Each worker follows its lines.
use Rattle.xti_model.specs.Robin.{most_steps}
use Rattle.xti_model.proofs.laws.robin_follows.Goals as goal
use Rattle.xti_model.proofs.GoingOn.{history-begins, robin-follows}

pub returns : goal.returns
returns c s = robin-follows (history-begins s.providers s.lines) most_steps
