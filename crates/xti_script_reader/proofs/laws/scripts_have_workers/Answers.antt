use Rattle.xti_script_reader.proofs.ScriptLaws.{script_has_workers}
use Rattle.xti_script_reader.proofs.laws.scripts_have_workers.Goals as goal

pub returns : goal.returns
returns c = script_has_workers
