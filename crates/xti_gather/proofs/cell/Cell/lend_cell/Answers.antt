use Rattle.std.proofs.Common.{◌∷◌, [], ◌∙◌, sym, ap, subst, Some, arith}
use Rattle.xti_lent.specs.Lending.{Lending, cell_lent}
use Rattle.xti_core.specs.Standing.{IsLoan}
use Rattle.xti_gather.specs.Cells.{StandsFor}
use Rattle.xti_gather.proofs.Loans.{end-is, held-none, has-room, push-loan, push-cell, push-others}
use Rattle.xti_model.proofs.PlaceNumbers.{most-places}
use Rattle.xti_gather.proofs.cell.Cell.lend_cell.Goals as goal

pub lend-requires-clause-room : goal.lend-requires-clause-room
lend-requires-clause-room c =
    let s = end-is c.args.lent.now.providers c.in-End.e c.args.cell c.requires.stands.0 (subst (λ z. StandsFor c.args.lent.now.providers z ((c.args.cell, c.requires.stands.0) ∷ [])) c.in-End.is c.requires.stands.1) in
    let room = has-room c.args.lent.now c.args.cell c.requires.loan s.0 (held-none c.args.lent.now c.args.cell s.0 c.requires.apart) in
    omega (arith, room, most-places c.args.lent.now.providers)

pub returns-in-End-clause-loan : goal.returns-in-End-clause-loan
returns-in-End-clause-loan c =
    let s = end-is c.args.lent.now.providers c.in-End.e c.args.cell c.requires.stands.0 (subst (λ z. StandsFor c.args.lent.now.providers z ((c.args.cell, c.requires.stands.0) ∷ [])) c.in-End.is c.requires.stands.1) in
    subst IsLoan (sym c.lend.ensures) (push-loan c.args.lent.now c.args.cell c.in-End.e.value c.requires.loan s.0 s.1 (held-none c.args.lent.now c.args.cell s.0 c.requires.apart))

pub returns-in-End-clause-here : goal.returns-in-End-clause-here
returns-in-End-clause-here c = λ m t.
    let s = end-is c.args.lent.now.providers c.in-End.e c.args.cell m (subst (λ z. StandsFor c.args.lent.now.providers z ((c.args.cell, m) ∷ [])) c.in-End.is t) in
    ap (λ (l : Lending). cell_lent l c.args.cell) c.lend.ensures ∙ (push-cell c.args.lent.now c.args.cell c.in-End.e.value c.requires.loan s.0 (held-none c.args.lent.now c.args.cell s.0 c.requires.apart) ∙ ap (λ z. Some z) (sym s.2))

pub returns-in-End-clause-others : goal.returns-in-End-clause-others
returns-in-End-clause-others c = λ n ne. ap (λ (l : Lending). cell_lent l n) c.lend.ensures ∙ push-others c.args.lent.now c.args.cell c.in-End.e.value c.requires.loan n ne
