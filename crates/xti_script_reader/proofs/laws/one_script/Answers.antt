use Rattle.xti_script_reader.proofs.Scripts.{same_script}
use Rattle.xti_script_reader.proofs.laws.one_script.Goals as goal

pub returns : goal.returns
returns c = same_script
