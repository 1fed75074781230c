use Rattle.xti_gbn.specs.Link.{after}
use Rattle.xti_gbn.proofs.Soundness.{prefix-length, sound-after}
use Rattle.xti_gbn.proofs.link.links_keep_order.Goals as goal

pub returns-clause-prefix : goal.returns-clause-prefix
returns-clause-prefix c = λ events. (sound-after events).prefix

pub returns-clause-delivered : goal.returns-clause-delivered
returns-clause-delivered c = λ events. prefix-length (after events).delivered (after events).offered (sound-after events).prefix

pub returns-clause-acknowledged : goal.returns-clause-acknowledged
returns-clause-acknowledged c = λ events. (sound-after events).acknowledged

pub returns-clause-window : goal.returns-clause-window
returns-clause-window c = λ events. (sound-after events).window
