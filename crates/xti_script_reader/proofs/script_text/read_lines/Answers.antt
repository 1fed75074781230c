use Rattle.std.proofs.Common.{arith}
use Rattle.xti_script_reader.proofs.Loop.{goes_on, is_wrong, is_over, ends}
use Rattle.xti_script_reader.proofs.script_text.read_lines.Goals as goal

pub loop-rest-preserved : goal.loop-rest-preserved
loop-rest-preserved c = record {
  number = omega (arith, c.first_line.ensures.shorter);
  read = goes_on _ _ _ c.loop-rest.rest.now _ c.first_line.result.1.now _ _ _ c.first_line.ensures.lines c.in_ok-read_line.ensures c.in-Read.is c.loop-rest.invariant.read;
}

pub returns-in-Wrong : goal.returns-in-Wrong
returns-in-Wrong c = is_wrong _ _ _ c.loop-rest.rest.now _ c.first_line.result.1.now _ _ _ c.first_line.ensures.lines c.in_ok-read_line.ensures c.in-Wrong.is c.loop-rest.invariant.read

pub returns-in-TooMany : goal.returns-in-TooMany
returns-in-TooMany c = is_over _ _ _ c.loop-rest.rest.now _ c.first_line.result.1.now _ _ _ c.first_line.ensures.lines c.in_ok-read_line.ensures c.in-TooMany.is c.loop-rest.invariant.read

pub returns : goal.returns
returns c = rw c.finish.ensures (ends _ _ _ c.loop-rest.rest.now _ _ c.loop-rest-test.false c.is_empty.ensures c.loop-rest.invariant.read)
