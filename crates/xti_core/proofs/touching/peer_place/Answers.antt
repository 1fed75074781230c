use Rattle.std.proofs.Common.{◌∙◌, ap}
use Rattle.xti_model.specs.Touched.{of_some, cell_of, peer_cell}
use Rattle.xti_end.specs.Held.{peer_at}
use Rattle.xti_core.proofs.Listing.{body-is}
use Rattle.xti_core.proofs.touching.peer_place.Goals as goal

pub returns-in-Some : goal.returns-in-Some
returns-in-Some c =
    let p = c.args.lent.now.providers in
    c.place_of_named.ensures ∙ (ap (cell_of p) (c.peer.ensures ∙ ap peer_at (body-is p c.in-Some.e.now c.args.fd.0 c.in-Some.ensures.open)) ∙ ap (λ o. of_some o (peer_cell p)) c.in-Some.ensures.endpoint)
