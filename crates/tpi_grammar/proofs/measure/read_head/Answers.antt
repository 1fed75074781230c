use Rattle.std.proofs.Common.{drop, sym, ap, ◌∙◌, arith}
use Rattle.tpi_grammar.specs.Form.{scan}
use Rattle.tpi_grammar.specs.Word.{meets}
use Rattle.tpi_grammar.specs.Frame.{size_range, data_range, frame}
use Rattle.tpi_grammar.specs.Kinds.{row_of}
use Rattle.tpi_grammar.proofs.WordForms.{and_true}
use Rattle.tpi_grammar.proofs.AtOnce.{head_scan, head_text}
use Rattle.tpi_grammar.proofs.KindRows.{row_in}
use Rattle.tpi_grammar.proofs.measure.read_head.Goals as goal

pub returns-then-may_count-clause-scans : goal.returns-then-may_count-clause-scans
returns-then-may_count-clause-scans c =
    let met = and_true (meets 1 c.in_ok-size.size (size_range (row_of c.in_ok-kind.kind))) (meets 1 c.in_ok-count.count (data_range (row_of c.in_ok-kind.kind))) (sym c.may_count.ensures ∙ c.if-may_count.true) in
    let text = head_text c.args.input.now c.in_ok-size.size c.in_ok-count.count c.in_ok-number.number (row_of c.in_ok-kind.kind) c.in_ok-size.ensures.word c.in_ok-count.ensures.word c.in_ok-number.ensures.word c.in_ok-kind.ensures.some in
    ap (scan frame) text
    ∙ head_scan (row_of c.in_ok-kind.kind) c.in_ok-size.size c.in_ok-count.count (drop 12 c.args.input.now) (row_in c.in_ok-kind.kind) (omega arith) (omega arith) met.0 met.1
