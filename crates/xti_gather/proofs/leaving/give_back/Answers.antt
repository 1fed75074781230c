use Rattle.std.proofs.Common.{◌≡◌, ◌∙◌, ℕ, Bool, true, false, None, refl, sym, subst}
use Rattle.xti_model.specs.World.{is_among}
use Rattle.xti_lent.specs.Lending.{cell_lent, is_lent}
use Rattle.xti_gather.proofs.Numbers.{not-both, is-not}
use Rattle.xti_gather.proofs.Orders.{fewer-lent}
use Rattle.xti_gather.proofs.Holdings.{same-providers}
use Rattle.xti_gather.proofs.Staying.{stays-on, still-in}
use Rattle.xti_gather.proofs.leaving.give_back.Goals as goal

pub leave-requires-clause-hall : goal.leave-requires-clause-hall
leave-requires-clause-hall c = still-in c.args.hall.now c.args.seat.now c.loop-cell.seat c.args.lent.now c.loop-cell.lent c.requires.hall c.requires.lends c.loop-cell.invariant.stays

pub loop-cell-smaller : goal.loop-cell-smaller
loop-cell-smaller c =
    let inv = c.loop-cell.invariant in
    let t = c.leave.ensures in
    fewer-lent c.loop-cell.lent c.leave.new.lent c.in-Some.cell inv.stays.lends.loan (same-providers c.loop-cell.seat.view c.leave.new.seat.view c.loop-cell.lent c.leave.new.lent inv.stays.lends t.lends t.rest) c.in-Some.ensures.0 t.gone t.others

pub loop-cell-preserved : goal.loop-cell-preserved
loop-cell-preserved c =
    let inv = c.loop-cell.invariant in
    let t = c.leave.ensures in
    record {
      stays = stays-on c.args.seat.now c.loop-cell.seat c.leave.new.seat c.loop-cell.lent c.leave.new.lent inv.stays t.hall t.rest t.lends;
      refused = t.refused ∙ inv.refused;
      kept = λ n i. t.others n (λ s. not-both (is_among c.args.cells.now n) i (subst (λ z. is_among c.args.cells.now z ≡ false) (sym s) c.in-Some.ensures.1)) ∙ inv.kept n i;
    }

pub returns-clause-only : goal.returns-clause-only
returns-clause-only c = λ n i. go n i (is_lent c.loop-cell.lent n) refl
  where
    go : (n : ℕ) → is_among c.args.cells.now n ≡ false → (b : Bool) → is_lent c.loop-cell.lent n ≡ b → cell_lent c.loop-cell.lent n ≡ None
    go n i true e = absurd (not-both (is_among c.args.cells.now n) (c.in_default.ensures n e) i)
    go n i false e = is-not (cell_lent c.loop-cell.lent n) e
