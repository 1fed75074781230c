use Rattle.xti_laws.proofs.ByteHistories.{history-values}
use Rattle.xti_laws.proofs.bytes.answers_have_values.Goals as goal

pub returns : goal.returns
returns c = record { values = λ p entries v l b. history-values p entries (c.worlds_stay_sound.ensures.start p) (λ w call g. c.worlds_stay_sound.ensures.step p w call g v) v b l }
