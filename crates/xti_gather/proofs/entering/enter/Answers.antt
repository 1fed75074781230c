use Rattle.std.proofs.Common.{◌∷◌, [], sym, subst}
use Rattle.xti_model.specs.declared.profile.Providers.{Providers}
use Rattle.xti_gather.specs.Cells.{StandsFor}
use Rattle.xti_gather.proofs.Holdings.{entered_lends}
use Rattle.xti_gather.proofs.entering.enter.Goals as goal

pub returns-clause-lends : goal.returns-clause-lends
returns-clause-lends g c =
    let e = c.enter-value.ensures.value in
    let t = c.lend_cell.ensures in
    let stands = subst (λ (p : Providers). StandsFor p c.enter-value.result ((c.args.cell, e.0) ∷ [])) (sym c.requires.lends.providers) e.2 in
    entered_lends c.args.seat.now.view c.enter-value.new.seat.view c.args.lent.now c.lend_cell.new.lent c.args.cell e.0 c.requires.lends e.1 e.3 t.providers t.loan (t.here e.0 stands) t.others
