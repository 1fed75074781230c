use Rattle.std.proofs.Common.{arith}
use Rattle.xti_script_reader.proofs.FirstMark.{goes_on}
use Rattle.xti_script_reader.proofs.marks.split_at_mark.Goals as goal

pub loop-rest-preserved : goal.loop-rest-preserved
loop-rest-preserved c = record {
  lines = omega (arith, c.first_line.ensures.shorter);
  passed = goes_on c.args.text.now c.loop-rest.rest.now _ c.first_line.result.1.now _ _ c.loop-rest.invariant.passed (omega (arith, c.first_line.ensures.shorter)) c.first_line.ensures.lines c.first_line.ensures.end c.is_mark.ensures c.if-is_mark.false;
}
