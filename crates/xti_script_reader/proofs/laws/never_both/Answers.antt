use Rattle.xti_script_reader.proofs.Scripts.{not_both}
use Rattle.xti_script_reader.proofs.laws.never_both.Goals as goal

pub returns : goal.returns
returns c = not_both
