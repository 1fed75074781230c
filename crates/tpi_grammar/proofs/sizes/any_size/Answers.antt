use Rattle.std.proofs.Common.{sym, ap, map, ◌∙◌}
use Rattle.tpi_grammar.specs.Word.{viable}
use Rattle.tpi_grammar.specs.Frame.{size_range}
use Rattle.tpi_grammar.specs.Kinds.{row_of}
use Rattle.tpi_grammar.proofs.Choices.{viable_map}
use Rattle.tpi_grammar.proofs.sizes.any_size.Goals as goal

pub returns : goal.returns
returns c = c.some_size.ensures ∙ sym (viable_map row_of size_range c.args.unit c.args.x c.kinds.result.now) ∙ ap (λ t. viable (map size_range t) c.args.unit c.args.x) c.kinds.ensures
