use Rattle.xti_script_reader.proofs.ByteFields.{script_has_byte_arguments, script_sends_bytes}
use Rattle.xti_script_reader.proofs.laws.scripts_send_bytes.Goals as goal

pub returns-clause-arguments : goal.returns-clause-arguments
returns-clause-arguments c = script_has_byte_arguments

pub returns-clause-sends : goal.returns-clause-sends
returns-clause-sends c = script_sends_bytes
