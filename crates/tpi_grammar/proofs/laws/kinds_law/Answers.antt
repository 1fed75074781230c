use Rattle.tpi_grammar.proofs.KindRows.{row_in, kind_in}
use Rattle.tpi_grammar.proofs.laws.kinds_law.Goals as goal

pub returns-clause-listed : goal.returns-clause-listed
returns-clause-listed c = row_in

pub returns-clause-all : goal.returns-clause-all
returns-clause-all c = kind_in
