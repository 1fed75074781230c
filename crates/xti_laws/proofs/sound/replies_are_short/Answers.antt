use Rattle.xti_laws.proofs.ShortReplies.{replies-short}
use Rattle.xti_laws.proofs.sound.replies_are_short.Goals as goal

pub returns : goal.returns
returns c = record { short = λ p w d g h s. replies-short p w h d g s }
