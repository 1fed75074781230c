use Rattle.xti_script_reader.proofs.TextSets.{has_more}
use Rattle.xti_script_reader.proofs.names.add_text.Goals as goal

pub returns-clause-ok : goal.returns-clause-ok
returns-clause-ok c = has_more c.args.texts.now c.insert.new.self c.in_ok-from_slice.field-0 c.args.text.now c.in_ok-from_slice.ensures.items c.in_ok-insert.ensures.updates
