use Rattle.std.proofs.Common.{◌∙◌, [], ◌∷◌, ◌++◌, ap, sym}
use Rattle.std.specs.Prelude.{option_to_list}
use Rattle.xti_model.specs.declared.profile.Providers.{Providers}
use Rattle.xti_model.specs.World.{switch_number}
use Rattle.xti_model.specs.Cells.{listed}
use Rattle.xti_model.specs.Spot.{spot_bytes}
use Rattle.xti_model.proofs.RisingNumbers.{listed-none}
use Rattle.xti_end.specs.Held.{parts}
use Rattle.xti_lent.specs.Lending.{cells}
use Rattle.xti_core.proofs.Listing.{mark-parts, marked-put, unmarked-put}
use Rattle.xti_core.proofs.touching.marked_cells.Goals as goal

pub returns-in-Some-clause-cells : goal.returns-in-Some-clause-cells
returns-in-Some-clause-cells c =
    let q = c.switch_number.ensures ∙ ap (λ (q : Providers). switch_number q) c.providers.ensures.providers in
    marked-put c.args.lent.now.providers (cells c.args.lent.now) (parts c.args.e.now) (spot_bytes c.in-Some.address) _ c.prov.result c.with.result c.place_of_named.result _ (c.with.ensures.cells _ (c.with-marked.ensures.cells [] (c.new.ensures ∙ sym listed-none)) ∙ ap (λ s. listed (s ∷ (option_to_list c.place_of_named.result ++ []))) q)
    c.place_of_named.ensures c.bound-receiver.ensures c.prov.ensures c.as_slice.ensures (c.in-Some.ensures ∙ mark-parts c.args.e.now c.requires)

pub returns-in-None-clause-cells : goal.returns-in-None-clause-cells
returns-in-None-clause-cells c = unmarked-put c.args.lent.now.providers (cells c.args.lent.now) (parts c.args.e.now) c.new-in-None.result (c.new-in-None.ensures ∙ sym listed-none) (c.in-None.ensures ∙ mark-parts c.args.e.now c.requires)
