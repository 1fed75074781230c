use Rattle.std.proofs.Common.{◌∙◌, ap, ◌∷◌}
use Rattle.xti_model.specs.Cells.{listed}
use Rattle.xti_model.specs.World.{place_of}
use Rattle.xti_model.specs.Touched.{of_some}
use Rattle.xti_end.specs.Held.{parts}
use Rattle.xti_core.specs.Touches.{told}
use Rattle.xti_core.proofs.touching.disconnecting_cells.Goals as goal

pub returns-in-Some : goal.returns-in-Some
returns-in-Some c =
    let p = c.args.lent.now.providers in
    c.with.ensures.cells _ c.told_cells.ensures.cells ∙ (ap (λ n. listed (n ∷ told p c.args.seq.0 (parts c.in-Some.e.now))) c.place_of.ensures.place ∙ ap (λ o. listed (place_of p c.args.fd.0 ∷ of_some o (told p c.args.seq.0))) c.in-Some.ensures.endpoint)

pub returns-in-None : goal.returns-in-None
returns-in-None c =
    let p = c.args.lent.now.providers in
    c.own_cells.ensures ∙ ap (λ o. listed (place_of p c.args.fd.0 ∷ of_some o (told p c.args.seq.0))) c.in-None.ensures.endpoint
