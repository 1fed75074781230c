use Rattle.xti_model.specs.Robin.{robin}
use Rattle.xti_laws_streams.proofs.Histories.{prefix-law, waiting-law, release-law}
use Rattle.xti_laws_streams.proofs.FollowedScripts.{run-bytes, robin-run}
use Rattle.xti_laws_streams.proofs.laws.replays_keep_order.Goals as goal

pub returns-clause-prefix : goal.returns-clause-prefix
returns-clause-prefix c = λ s h. prefix-law s.providers (robin s) (robin-run s).legal (run-bytes s (robin s) (robin-run s) h)

pub returns-clause-waiting : goal.returns-clause-waiting
returns-clause-waiting c = λ s h. waiting-law s.providers (robin s) (robin-run s).legal (run-bytes s (robin s) (robin-run s) h)

pub returns-clause-release : goal.returns-clause-release
returns-clause-release c = λ s h. release-law s.providers (robin s) (robin-run s).legal (run-bytes s (robin s) (robin-run s) h)
