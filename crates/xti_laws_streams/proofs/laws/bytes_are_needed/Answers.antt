use Rattle.xti_laws_streams.proofs.BytesAreNeeded.{prefix-needs, waiting-needs, release-needs}
use Rattle.xti_laws_streams.proofs.laws.bytes_are_needed.Goals as goal

pub returns : goal.returns
returns c = record { prefix = prefix-needs; waiting = waiting-needs; release = release-needs }
