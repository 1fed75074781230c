use Rattle.std.proofs.Common.{sym, ap, map, ◌∙◌}
use Rattle.tpi_grammar.specs.Word.{viable}
use Rattle.tpi_grammar.specs.Frame.{left, size_range, data_range, number_range}
use Rattle.tpi_grammar.specs.Kinds.{row_of}
use Rattle.tpi_grammar.proofs.Choices.{viable_left_twice}
use Rattle.tpi_grammar.proofs.sizes.any_number.Goals as goal

pub returns : goal.returns
returns c = c.some_number.ensures ∙ sym (viable_left_twice row_of size_range data_range number_range c.args.size c.args.count c.args.unit c.args.x c.kinds.result.now)
    ∙ ap (λ t. viable (map number_range (left data_range c.args.count (left size_range c.args.size t))) c.args.unit c.args.x) c.kinds.ensures
