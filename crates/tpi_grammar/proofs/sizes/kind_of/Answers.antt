use Rattle.std.proofs.Common.{sym, ap, ◌∙◌, option_map}
use Rattle.tpi_grammar.specs.Frame.{first_row, left, size_range, data_range, number_range}
use Rattle.tpi_grammar.specs.Kinds.{row_of}
use Rattle.tpi_grammar.proofs.Choices.{first_left}
use Rattle.tpi_grammar.proofs.sizes.kind_of.Goals as goal

pub returns : goal.returns
returns c = ap (option_map row_of) c.first_kind.ensures
    ∙ sym (first_left row_of size_range data_range number_range c.args.size c.args.count c.args.number c.kinds.result.now)
    ∙ ap (λ t. first_row (left number_range c.args.number (left data_range c.args.count (left size_range c.args.size t)))) c.kinds.ensures
