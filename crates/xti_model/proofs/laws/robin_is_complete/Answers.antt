-- Round robin ends where each worker is finished or blocked.
use Rattle.xti_model.specs.Robin.{most_steps}
use Rattle.xti_model.proofs.laws.robin_is_complete.Goals as goal
use Rattle.xti_model.proofs.GoingOn.{history-begins, robin-complete}

pub returns : goal.returns
returns c s h = robin-complete (history-begins s.providers s.lines) most_steps h
