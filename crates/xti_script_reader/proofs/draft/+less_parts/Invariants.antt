use Rattle.std.proofs.Common.{length}
use Rattle.xti_script_reader.proofs.draft.+less_parts.Given as goal

abbrev pub decreases-less_parts : goal.decreases-less_parts
decreases-less_parts l = length l.parts.now
