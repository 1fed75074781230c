use Rattle.std.specs.Prelude.{[]}
use Rattle.xti_model.specs.World.{opening}
use Rattle.xti_laws.proofs.Steps.{sound-step, bound-step}
use Rattle.xti_laws.proofs.RequestHistories.{opening-sound, after-sound}
use Rattle.xti_model.specs.History.{after}
use Rattle.xti_laws.proofs.OldestDisconnect.{takes-outstanding}
use Rattle.xti_laws.proofs.requests.requests_stay_linked.Goals as goal

pub returns-clause-start : goal.returns-clause-start
returns-clause-start c = λ p. ((opening-sound p).links, (opening-sound p).bound)

pub returns-clause-step : goal.returns-clause-step
returns-clause-step c = λ p w d g z s h. (sound-step p w d g s z.0 z.1 h, bound-step p w d g s z.1 h)

pub returns-clause-history : goal.returns-clause-history
returns-clause-history c = λ p entries. ((after-sound p (opening p) [] entries (opening-sound p)).links, (after-sound p (opening p) [] entries (opening-sound p)).bound)

pub returns-clause-taken : goal.returns-clause-taken
returns-clause-taken c = λ p entries d. takes-outstanding p (after p entries) d (after-sound p (opening p) [] entries (opening-sound p)).links
