use Rattle.std.proofs.Common.{◌∙◌, [], sym, ap, ◌∷◌}
use Rattle.std.specs.Prelude.{option_to_list}
use Rattle.xti_model.specs.declared.profile.Providers.{Providers}
use Rattle.xti_model.specs.Switch.{opening_place}
use Rattle.xti_model.specs.World.{the_switch, switch_number}
use Rattle.xti_lent.specs.Lending.{cells}
use Rattle.xti_model.specs.Cells.{listed}
use Rattle.xti_model.proofs.RisingNumbers.{listed-none}
use Rattle.xti_core.proofs.Listing.{put-none}
use Rattle.xti_core.proofs.touching.opening_cells.Goals as goal

pub returns : goal.returns
returns c = c.with.ensures.cells _ (put-none c.with-place.result c.opening_place.result _ (c.with-place.ensures.cells [] (c.new.ensures ∙ sym listed-none)) c.opening_place.ensures)
    ∙ ap (λ s. listed (s ∷ option_to_list (opening_place c.args.lent.now.providers (the_switch c.args.lent.now.providers (cells c.args.lent.now)) c.args.prov))) (c.switch_number.ensures ∙ ap (λ (q : Providers). switch_number q) c.providers.ensures.providers)
