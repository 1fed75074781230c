use Rattle.std.proofs.Common.{Some, None, inl, arith}
use Rattle.xti_words.proofs.LineEnd.{position_is}
use Rattle.xti_words.proofs.Lines.{lines_found, lines_none, line_ends}
use Rattle.xti_words.proofs.texts.first_line.Goals as goal

pub returns-in-Some-clause-lines : goal.returns-in-Some-clause-lines
returns-in-Some-clause-lines c = lines_found c.args.text.now _ _ (omega arith) (position_is c.args.text.now (Some c.in-Some.end) c.in-Some.ensures)

pub returns-in-None-clause-lines : goal.returns-in-None-clause-lines
returns-in-None-clause-lines c = lines_none c.args.text.now c.requires (position_is c.args.text.now None c.in-None.ensures)

pub returns-in-Some-clause-end : goal.returns-in-Some-clause-end
returns-in-Some-clause-end c = inl (line_ends c.args.text.now _ _ (omega arith) (position_is c.args.text.now (Some c.in-Some.end) c.in-Some.ensures))
