use Rattle.tpi_grammar.proofs.OneSpelling.{one_filled}
use Rattle.tpi_grammar.proofs.FrameLists.{apart}
use Rattle.tpi_grammar.proofs.laws.one_spelling.Goals as goal

pub returns-clause-one : goal.returns-clause-one
returns-clause-one c = one_filled

pub returns-clause-apart : goal.returns-clause-apart
returns-clause-apart c = apart
