use Rattle.xti_script_reader.proofs.ByteFields.{script_sends_bytes}
use Rattle.xti_laws_streams.proofs.Histories.{prefix-law, waiting-law, release-law}
use Rattle.xti_laws_streams.proofs.FollowedScripts.{run-bytes}
use Rattle.xti_laws_streams.proofs.laws.scripts_keep_order.Goals as goal

pub returns-clause-prefix : goal.returns-clause-prefix
returns-clause-prefix c = λ s entries h r. prefix-law s.providers entries r.legal (run-bytes s entries r (script_sends_bytes s h))

pub returns-clause-waiting : goal.returns-clause-waiting
returns-clause-waiting c = λ s entries h r. waiting-law s.providers entries r.legal (run-bytes s entries r (script_sends_bytes s h))

pub returns-clause-release : goal.returns-clause-release
returns-clause-release c = λ s entries h r. release-law s.providers entries r.legal (run-bytes s entries r (script_sends_bytes s h))
