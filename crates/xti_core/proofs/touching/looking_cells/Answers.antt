use Rattle.std.proofs.Common.{◌∙◌, ap, ◌∷◌}
use Rattle.xti_model.specs.Cells.{listed}
use Rattle.xti_model.specs.World.{place_of, endpoint}
use Rattle.xti_model.specs.Touched.{of_some}
use Rattle.xti_lent.specs.Lending.{cells}
use Rattle.xti_core.specs.Touches.{looked_at}
use Rattle.xti_core.proofs.Listing.{looking-put, body-is}
use Rattle.xti_core.proofs.touching.looking_cells.Goals as goal

pub returns-in-Some : goal.returns-in-Some
returns-in-Some c =
    let l = c.args.lent.now in
    looking-put l.providers (cells l) c.args.fd.0 c.place_of.result (endpoint l.providers (cells l) c.args.fd.0) c.in-Some.e.now c.with.result c.place_of_named.result _ (c.with.ensures.cells _ (c.with-others.ensures.cells _ c.marked_cells.ensures.cells)) c.place_of.ensures.place
    c.place_of_named.ensures c.peer.ensures (body-is l.providers c.in-Some.e.now c.args.fd.0 c.in-Some.ensures.open) c.in-Some.ensures.endpoint

pub returns-in-None : goal.returns-in-None
returns-in-None c =
    let l = c.args.lent.now in
    c.own_cells.ensures ∙ ap (λ o. listed (place_of l.providers c.args.fd.0 ∷ of_some o (looked_at l))) c.in-None.ensures.endpoint
