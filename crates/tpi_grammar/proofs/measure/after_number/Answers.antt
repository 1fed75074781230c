use Rattle.std.proofs.Common.{ap, ◌∙◌}
use Rattle.tpi_grammar.specs.Form.{scan}
use Rattle.tpi_grammar.specs.Frame.{form_of}
use Rattle.tpi_grammar.proofs.measure.after_number.Goals as goal

pub returns-clause-scans : goal.returns-clause-scans
returns-clause-scans c = c.measure_body.ensures.scans ∙ ap (λ r. scan (form_of c.args.size c.args.count r) c.args.bytes.now) c.kind_of.ensures
