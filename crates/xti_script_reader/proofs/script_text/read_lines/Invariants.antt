use Rattle.std.proofs.Common.{◌≡◌, ◌+◌, ◌≤◌, [], length}
use Rattle.xti_words.specs.Texts.{lines_of}
use Rattle.xti_script_reader.specs.Reading.{lines_from}
use Rattle.xti_script_reader.proofs.script_text.read_lines.Given as goal

abbrev pub invariant-loop-rest : goal.invariant-loop-rest
invariant-loop-rest l = record {
  number : l.number + length l.rest ≤ l.first + length l.text;
  read : lines_from l.version l.number l.draft (lines_of l.rest) ≡ lines_from l.version l.first [] (lines_of l.text);
}

abbrev pub decreases-loop-rest : goal.decreases-loop-rest
decreases-loop-rest l = length l.rest
