use Rattle.xti_script_reader.proofs.Scripts.{found, only, bad}
use Rattle.xti_script_reader.proofs.script_text.read_script.Goals as goal

pub returns-clause-found : goal.returns-clause-found
returns-clause-found c = found c.args.text.now c.read_all.result c.read_all.ensures

pub returns-clause-only : goal.returns-clause-only
returns-clause-only c = only c.args.text.now c.read_all.result c.read_all.ensures

pub returns-clause-bad : goal.returns-clause-bad
returns-clause-bad c = bad c.args.text.now c.read_all.result c.read_all.ensures
