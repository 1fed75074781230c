use Rattle.xti_script.proofs.ScriptTexts.{script_again}
use Rattle.xti_script.specs.Canonical.{script_text}
use Rattle.xti_script.proofs.laws.scripts_are_read_back.Goals as goal

pub returns-clause-written : goal.returns-clause-written
returns-clause-written c = script_again

pub returns-clause-same : goal.returns-clause-same
returns-clause-same c = λ s other h u i. c.one_script.ensures (script_text s) other s i (script_again s h u)
