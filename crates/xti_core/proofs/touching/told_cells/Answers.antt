use Rattle.std.proofs.Common.{◌∙◌, [], ap, sym}
use Rattle.xti_model.specs.Cells.{listed}
use Rattle.xti_model.specs.Touched.{cell_of}
use Rattle.xti_model.proofs.RisingNumbers.{listed-none}
use Rattle.xti_end.specs.Held.{parts, peer_at, target_at}
use Rattle.xti_core.proofs.Listing.{open-body, told-put}
use Rattle.xti_core.proofs.touching.told_cells.Goals as goal

pub returns-clause-cells : goal.returns-clause-cells
returns-clause-cells c =
    let p = c.args.lent.now.providers in
    let b = open-body c.args.e.now c.requires in
    c.with.ensures.cells _ (c.with-asking.ensures.cells _ (c.with-caller.ensures.cells [] (c.new.ensures ∙ sym listed-none)))
    ∙ ap listed (told-put p c.args.seq.0 (parts c.args.e.now) c.place_of_named-3.result c.place_of_named-2.result c.place_of_named.result (c.place_of_named-3.ensures ∙ ap (cell_of p) (c.peer.ensures ∙ ap peer_at b)) (c.place_of_named-2.ensures ∙ ap (cell_of p) (c.target.ensures ∙ ap target_at b)) (c.place_of_named.ensures ∙ ap (cell_of p) c.caller.ensures))
