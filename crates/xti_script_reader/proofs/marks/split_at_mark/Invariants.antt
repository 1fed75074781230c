use Rattle.std.proofs.Common.{◌+◌, ◌≤◌, length}
use Rattle.xti_script_reader.proofs.FirstMark.{Passed}
use Rattle.xti_script_reader.proofs.marks.split_at_mark.Given as goal

abbrev pub invariant-loop-rest : goal.invariant-loop-rest
invariant-loop-rest l = record { lines : l.lines + length l.rest ≤ length l.text; passed : Passed l.text l.rest l.lines }

abbrev pub decreases-loop-rest : goal.decreases-loop-rest
decreases-loop-rest l = length l.rest
