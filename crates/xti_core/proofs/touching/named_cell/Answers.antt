use Rattle.std.proofs.Common.{◌∙◌, [], ap, sym}
use Rattle.std.specs.Prelude.{option_to_list}
use Rattle.std.proofs.lemmas.List.{append-nil}
use Rattle.xti_model.specs.Cells.{listed}
use Rattle.xti_model.proofs.RisingNumbers.{listed-none}
use Rattle.xti_core.proofs.touching.named_cell.Goals as goal

pub returns : goal.returns
returns c = c.with.ensures.cells [] (c.new.ensures ∙ sym listed-none) ∙ ap listed (append-nil (option_to_list c.place_of_named.result) ∙ c.place_of_named.ensures)
