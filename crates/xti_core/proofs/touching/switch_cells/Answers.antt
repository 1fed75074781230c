use Rattle.std.proofs.Common.{◌∙◌, [], ap, sym}
use Rattle.std.specs.Prelude.{option_to_list}
use Rattle.std.proofs.lemmas.List.{append-nil}
use Rattle.xti_model.proofs.RisingNumbers.{listed-none}
use Rattle.xti_core.specs.Touches.{with_switch}
use Rattle.xti_core.proofs.touching.switch_cells.Goals as goal

pub returns : goal.returns
returns c = c.with_own_and_switch.ensures _ (c.with.ensures.cells [] (c.new.ensures ∙ sym listed-none)) ∙ ap (with_switch c.args.lent.now c.args.fd.0) (append-nil (option_to_list c.args.other))
