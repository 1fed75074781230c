use Rattle.xti_laws.proofs.InForm.{in-form}
use Rattle.xti_laws.proofs.answers.steps_answer_in_form.Goals as goal

pub returns : goal.returns
returns c = record { form = in-form }
