use Rattle.xti_script_reader.proofs.ScriptLaws.{script_is_small}
use Rattle.xti_script_reader.proofs.laws.scripts_are_small.Goals as goal

pub returns : goal.returns
returns c = script_is_small
