use Rattle.xti_gbn.proofs.Spellings.{texts-tell}
use Rattle.xti_gbn.proofs.wire.texts_tell_wires.Goals as goal

pub returns : goal.returns
returns c = texts-tell
