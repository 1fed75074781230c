use Rattle.std.proofs.Common.{drop, sym, ap, ◌∙◌, arith}
use Rattle.tpi_grammar.specs.Form.{scan}
use Rattle.tpi_grammar.specs.Word.{word}
use Rattle.tpi_grammar.proofs.SpelledWords.{word_scan}
use Rattle.tpi_grammar.proofs.word.read_word.Goals as goal

pub returns-then-is_viable-clause-scans : goal.returns-then-is_viable-clause-scans
returns-then-is_viable-clause-scans g c = λ next.
    ap (scan (word (g.C.Choice.ranges c.args.choice.now) next)) c.in-Some.ensures.word
    ∙ word_scan (g.C.Choice.ranges c.args.choice.now) next c.in-Some.value (drop 4 c.args.bytes.now) (omega arith) (sym c.is_viable.ensures ∙ c.if-is_viable.true)
