use Rattle.std.proofs.Common.{sym, ap, map, ◌∙◌}
use Rattle.tpi_grammar.specs.Word.{viable}
use Rattle.tpi_grammar.specs.Frame.{left, size_range, data_range}
use Rattle.tpi_grammar.specs.Kinds.{row_of}
use Rattle.tpi_grammar.proofs.Choices.{viable_left}
use Rattle.tpi_grammar.proofs.sizes.any_count.Goals as goal

pub returns : goal.returns
returns c = c.some_count.ensures ∙ sym (viable_left row_of size_range data_range c.args.size c.args.unit c.args.x c.kinds.result.now) ∙ ap (λ t. viable (map data_range (left size_range c.args.size t)) c.args.unit c.args.x) c.kinds.ensures
