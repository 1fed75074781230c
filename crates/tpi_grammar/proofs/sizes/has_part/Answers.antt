use Rattle.std.proofs.Common.{◌∙◌}
use Rattle.tpi_grammar.specs.Kinds.{slot_view}
use Rattle.tpi_grammar.proofs.Choices.{any_map}
use Rattle.tpi_grammar.proofs.sizes.has_part.Goals as goal

pub returns : goal.returns
returns c = c.any_part.ensures ∙ any_map slot_view c.args.slots.now
