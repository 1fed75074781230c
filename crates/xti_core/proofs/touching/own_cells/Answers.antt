use Rattle.std.proofs.Common.{◌∙◌, [], sym}
use Rattle.std.specs.Prelude.{option_to_list}
use Rattle.xti_model.proofs.RisingNumbers.{listed-none}
use Rattle.xti_core.proofs.Listing.{own-put}
use Rattle.xti_core.proofs.touching.own_cells.Goals as goal

pub returns : goal.returns
returns c = own-put c.with.result (option_to_list c.args.other) c.place_of.result _ (c.with.ensures.cells _ (c.with-others.ensures.cells [] (c.new.ensures ∙ sym listed-none))) c.place_of.ensures.place
