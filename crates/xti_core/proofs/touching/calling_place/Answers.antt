use Rattle.std.proofs.Common.{◌∙◌, ap}
use Rattle.xti_model.specs.Touched.{of_some, cell_of, caller_cell}
use Rattle.xti_core.proofs.touching.calling_place.Goals as goal

pub returns-in-Some : goal.returns-in-Some
returns-in-Some c =
    let p = c.args.lent.now.providers in
    c.place_of_named.ensures ∙ (ap (cell_of p) c.caller.ensures ∙ ap (λ o. of_some o (caller_cell p c.args.seq.0)) c.in-Some.ensures.endpoint)
