use Rattle.std.proofs.Common.{◌∙◌, ap, sym, []}
use Rattle.xti_model.specs.World.{place_of}
use Rattle.xti_model.specs.Touched.{of_some}
use Rattle.xti_model.proofs.RisingNumbers.{listed-none}
use Rattle.xti_core.specs.Touches.{known, with_switch}
use Rattle.xti_core.proofs.Listing.{body-is}
use Rattle.xti_core.proofs.Fitting.{held-sound}
use Rattle.xti_core.proofs.touching.closing_cells.Goals as goal

pub known_cells-requires : goal.known_cells-requires
known_cells-requires c = held-sound c.args.lent.now (place_of c.args.lent.now.providers c.args.fd.0) c.in-Some.e.now c.requires.sound c.in-Some.ensures.held

pub returns-in-Some : goal.returns-in-Some
returns-in-Some c =
    let l = c.args.lent.now in
    c.with_own_and_switch.ensures _ c.known_cells.ensures.cells ∙ ap (λ o. with_switch l c.args.fd.0 (of_some o (known l.providers))) (body-is l.providers c.in-Some.e.now c.args.fd.0 c.in-Some.ensures.open ∙ c.in-Some.ensures.endpoint)

pub returns-in-None : goal.returns-in-None
returns-in-None c =
    let l = c.args.lent.now in
    c.with_own_and_switch-in-None.ensures [] (c.new.ensures ∙ sym listed-none) ∙ ap (λ o. with_switch l c.args.fd.0 (of_some o (known l.providers))) c.in-None.ensures.endpoint
