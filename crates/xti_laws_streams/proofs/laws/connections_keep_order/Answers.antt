use Rattle.xti_laws_streams.proofs.Histories.{prefix-law, waiting-law, release-law}
use Rattle.xti_laws_streams.proofs.laws.connections_keep_order.Goals as goal

pub returns-clause-prefix : goal.returns-clause-prefix
returns-clause-prefix c p entries h = prefix-law p entries h.0 h.1

pub returns-clause-waiting : goal.returns-clause-waiting
returns-clause-waiting c p entries h = waiting-law p entries h.0 h.1

pub returns-clause-release : goal.returns-clause-release
returns-clause-release c p entries h = release-law p entries h.0 h.1
