use Rattle.xti_threads.proofs.Works.{steps-answered, steps-halted}
use Rattle.xti_threads.proofs.working.make_call.Goals as goal

pub returns-in-Ok-clause-made : goal.returns-in-Ok-clause-made
returns-in-Ok-clause-made g c = steps-answered c.in-Ok.ensures.made

pub returns-in-Ok-clause-begun : goal.returns-in-Ok-clause-begun
returns-in-Ok-clause-begun g c = λ ok. record { reply = c.in-Ok.reply; answered = c.in-Ok.ensures.made; begun = c.begin_line.ensures ok }

pub returns-in-Err-clause-made : goal.returns-in-Err-clause-made
returns-in-Err-clause-made g c = steps-halted c.in-Err.field-0 c.in-Err.ensures.made
