use Rattle.xti_laws.proofs.NeverAnswered.{answer, answers-in-legal}
use Rattle.xti_laws.proofs.sound.some_errors_are_never_answered.Goals as goal

pub returns-clause-step : goal.returns-clause-step
returns-clause-step c = answer

pub returns-clause-history : goal.returns-clause-history
returns-clause-history c = answers-in-legal
