use Rattle.std.proofs.Common.{sym, subst}
use Rattle.tpi_grammar.specs.Measured.{MeansFrame}
use Rattle.tpi_grammar.specs.Form.{scan}
use Rattle.tpi_grammar.specs.Frame.{frame}
use Rattle.tpi_grammar.proofs.Finished.{frame_live}
use Rattle.tpi_grammar.proofs.Reading.{exact}
use Rattle.tpi_grammar.proofs.Meaning.{means_frame}
use Rattle.tpi_grammar.proofs.measure.measure_frame.Goals as goal

pub returns : goal.returns
returns c = subst (λ o. MeansFrame c.args.input.now o) (sym c.scan_frame.ensures) (means_frame c.args.input.now (scan frame c.args.input.now) (exact frame frame_live c.args.input.now))
