use Rattle.xti_laws_texts.proofs.Texts.{one-answer}
use Rattle.xti_laws_texts.proofs.laws.answers_differ_in_text.Goals as goal

pub returns : goal.returns
returns c = record { told = λ v o a h n q b g e. one-answer v o q a b h n g e }
