use Rattle.tpi_grammar.proofs.Reading.{exact}
use Rattle.tpi_grammar.proofs.laws.reading_law.Goals as goal

pub returns : goal.returns
returns c = exact
