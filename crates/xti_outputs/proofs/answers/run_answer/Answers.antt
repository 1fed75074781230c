use Rattle.std.proofs.Common.{inr}
use Rattle.std.proofs.lemmas.Result.{IfOk-weaker}
use Rattle.xti_outputs.proofs.answers.run_answer.Goals as goal

pub returns-in-Err : goal.returns-in-Err
returns-in-Err g c = IfOk-weaker c.refused_script.result _ _ (λ a refused. inr (refused c.args.input (rw c.as_slice.ensures at c.in-Err.ensures.bad))) c.refused_script.ensures
