use Rattle.std.proofs.Common.{◌∷◌, [], ℕ, refl, sym, ap, subst}
use Rattle.std.specs.Prelude.{is_some}
use Rattle.xti_model.specs.declared.profile.Providers.{Providers}
use Rattle.xti_hall.specs.Seats.{bare}
use Rattle.xti_hall_rule.specs.declared.view.View.{View}
use Rattle.xti_hall_rule.specs.Steps.{refused_at}
use Rattle.xti_lent.specs.Lending.{Lending}
use Rattle.xti_gather.specs.Cells.{StandsFor}
use Rattle.xti_gather.specs.Lends.{Lends}
use Rattle.xti_gather.proofs.Holdings.{entered_lends}
use Rattle.xti_gather.proofs.entering.try_enter.Goals as goal

-- a refusal changes nothing of what is lent
refused_lends : (v : View) (l : Lending) (i : ℕ) → Lends v l → Lends (refused_at v i) l
refused_lends v l i lends = record { providers = lends.providers; loan = lends.loan; held = lends.held; somewhen = lends.somewhen }

pub returns-in-Some-clause-lends : goal.returns-in-Some-clause-lends
returns-in-Some-clause-lends c =
    let e = c.in-Some.ensures.value in
    let t = c.lend_cell.ensures in
    let stands = subst (λ (p : Providers). StandsFor p c.in-Some.value ((c.args.cell, e.0) ∷ [])) (sym c.requires.lends.providers) e.2 in
    entered_lends c.args.seat.now.view c.try_enter.new.seat.view c.args.lent.now c.lend_cell.new.lent c.args.cell e.0 c.requires.lends e.1 e.3 t.providers t.loan (t.here e.0 stands) t.others

pub returns-in-Some-clause-tried : goal.returns-in-Some-clause-tried
returns-in-Some-clause-tried c =
    let e = c.in-Some.ensures.value in
    let t = c.lend_cell.ensures in
    let stands = subst (λ (p : Providers). StandsFor p c.in-Some.value ((c.args.cell, e.0) ∷ [])) (sym c.requires.lends.providers) e.2 in
    (ap is_some (t.here e.0 stands), e.1.refused)

pub returns-in-Some-clause-rest : goal.returns-in-Some-clause-rest
returns-in-Some-clause-rest c = c.in-Some.ensures.value.1.rest

pub returns-in-None-clause-rest : goal.returns-in-None-clause-rest
returns-in-None-clause-rest c = ap bare c.in-None.ensures.refused

pub returns-in-None-clause-lends : goal.returns-in-None-clause-lends
returns-in-None-clause-lends c = subst (λ (z : View). Lends z c.args.lent.now) (sym c.in-None.ensures.refused) (refused_lends c.args.seat.now.view c.args.lent.now c.args.cell c.requires.lends)

pub returns-in-None-clause-tried : goal.returns-in-None-clause-tried
returns-in-None-clause-tried c = c.in-None.ensures.refused

pub returns-in-None-clause-others : goal.returns-in-None-clause-others
returns-in-None-clause-others c = λ n ne. refl
