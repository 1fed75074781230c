use Rattle.std.proofs.Common.{◌≡◌, ◌∷◌, [], ◌∙◌, sym, ap, subst}
use Rattle.xti_model.specs.World.{switch_cell, switch_number}
use Rattle.xti_end.specs.Held.{cell}
use Rattle.xti_lent.specs.Lending.{Lending, cell_lent}
use Rattle.xti_core.specs.Standing.{IsLoan}
use Rattle.xti_gather.proofs.Loans.{switch-back, back-loan, back-here, back-others, back-cell}
use Rattle.xti_gather.proofs.lending.take_cell.Goals as goal

pub returns-in-Some-clause-value : goal.returns-in-Some-clause-value
returns-in-Some-clause-value c =
    let s : c.args.cell ≡ switch_number c.args.lent.now.providers = c.if-cell-switch_number.true ∙ (c.switch_number.ensures ∙ ap switch_number c.providers.ensures.providers) in
    let q = switch-back c.args.lent.now c.in-Some.r c.in-Some.ensures.registry in
    (switch_cell c.in-Some.r.value.switch, ap (cell_lent c.args.lent.now) s ∙ q.0, λ i. (s i, switch_cell c.in-Some.r.value.switch) ∷ [])

pub returns-in-Some-take_back-clause-loan : goal.returns-in-Some-take_back-clause-loan
returns-in-Some-take_back-clause-loan c = subst IsLoan (sym c.take_back.ensures.left) (back-loan c.args.lent.now c.args.cell c.requires.loan)

pub returns-in-Some-take_back-clause-value : goal.returns-in-Some-take_back-clause-value
returns-in-Some-take_back-clause-value c =
    let q = back-cell c.args.lent.now c.args.cell c.in-Some-take_back.e c.requires.loan c.in-Some-take_back.ensures.endpoint in
    (cell c.in-Some-take_back.e.value, q.0, q.1)

pub returns-in-Some-take_back-clause-here : goal.returns-in-Some-take_back-clause-here
returns-in-Some-take_back-clause-here c = ap (λ (l : Lending). cell_lent l c.args.cell) c.take_back.ensures.left ∙ back-here c.args.lent.now c.args.cell c.requires.loan (λ e. c.if-cell-switch_number.false (e ∙ sym (c.switch_number.ensures ∙ ap switch_number c.providers.ensures.providers)))

pub returns-in-Some-take_back-clause-others : goal.returns-in-Some-take_back-clause-others
returns-in-Some-take_back-clause-others c = λ n ne. ap (λ (l : Lending). cell_lent l n) c.take_back.ensures.left ∙ back-others c.args.lent.now c.args.cell n ne

pub returns-in-None-take_back-clause-loan : goal.returns-in-None-take_back-clause-loan
returns-in-None-take_back-clause-loan c = subst IsLoan (sym c.take_back.ensures.left) (back-loan c.args.lent.now c.args.cell c.requires.loan)

pub returns-in-None-take_back-clause-here : goal.returns-in-None-take_back-clause-here
returns-in-None-take_back-clause-here c = ap (λ (l : Lending). cell_lent l c.args.cell) c.take_back.ensures.left ∙ back-here c.args.lent.now c.args.cell c.requires.loan (λ e. c.if-cell-switch_number.false (e ∙ sym (c.switch_number.ensures ∙ ap switch_number c.providers.ensures.providers)))

pub returns-in-None-take_back-clause-others : goal.returns-in-None-take_back-clause-others
returns-in-None-take_back-clause-others c = λ n ne. ap (λ (l : Lending). cell_lent l n) c.take_back.ensures.left ∙ back-others c.args.lent.now c.args.cell n ne
