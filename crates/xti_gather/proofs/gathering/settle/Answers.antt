use Rattle.std.proofs.Common.{◌<◌, ◌+◌, List, ℕ, ◌∙◌, refl, sym, ap, subst}
use Rattle.xti_model.specs.declared.profile.Providers.{Providers}
use Rattle.xti_lent.specs.Lending.{cell_lent}
use Rattle.xti_hall_rule.specs.declared.view.View.{View}
use Rattle.xti_lent.proofs.Named.{all-among}
use Rattle.xti_model.specs.World.{places}
use Rattle.xti_gather.specs.Lends.{Just}
use Rattle.xti_gather.specs.Orders.{AreCells}
use Rattle.xti_gather.proofs.Wholes.{lends-sound, lends-cells}
use Rattle.xti_gather.proofs.Holdings.{just_lent, same-providers, still-of}
use Rattle.xti_gather.proofs.gathering.settle.Goals as goal

pub loop-init : goal.loop-init
loop-init g c = record { hall = refl; id = refl; rest = refl; lends = c.requires.lends; providers = refl }

pub returns-in_default-clause-first : goal.returns-in_default-clause-first
returns-in_default-clause-first g c =
    let inv = c.loop.invariant in
    subst (λ (p : Providers). AreCells p c.touch-cells.result) inv.providers
    (subst (λ (ns : List ℕ). AreCells c.loop.lent.providers ns) (sym c.touch-cells.ensures) (lends-cells c.loop.seat.view c.loop.lent c.args.call.now inv.lends))

pub touch-cells-requires-clause-sound : goal.touch-cells-requires-clause-sound
touch-cells-requires-clause-sound g c = lends-sound c.loop.seat.view c.loop.lent c.loop.invariant.lends

pub returns-in_default-clause-just : goal.returns-in_default-clause-just
returns-in_default-clause-just g c =
    let inv = c.loop.invariant in
    subst (λ (p : Providers). Just p (cell_lent c.give_back.new.lent) c.args.call.now) inv.providers
    (just_lent c.loop.lent.providers c.args.call.now (cell_lent c.loop.lent) (cell_lent c.give_back.new.lent) c.touch-cells.result c.touch-cells.ensures c.give_back.ensures.kept c.give_back.ensures.only c.in_default.ensures)

pub leave_unless_in_order-requires-clause-cell : goal.leave_unless_in_order-requires-clause-cell
leave_unless_in_order-requires-clause-cell g c =
    let p = c.loop.lent.providers in
    let cells = subst (λ (ns : List ℕ). AreCells p ns) (sym c.touch-cells.ensures) (lends-cells c.loop.seat.view c.loop.lent c.args.call.now c.loop.invariant.lends) in
    let same = same-providers c.loop.seat.view c.give_back.new.seat.view c.loop.lent c.give_back.new.lent c.loop.invariant.lends c.give_back.ensures.lends c.give_back.ensures.rest in
    subst (λ (q : Providers). c.in-Some-missing.least < places q + 1) (sym same)
    (all-among (λ n. n < places p + 1) c.touch-cells.result c.in-Some-missing.least cells c.in-Some-missing.ensures.among)

pub enter_missing-requires-clause-cells : goal.enter_missing-requires-clause-cells
enter_missing-requires-clause-cells g c =
    let inv = c.loop.invariant in
    let cells = subst (λ (ns : List ℕ). AreCells c.loop.lent.providers ns) (sym c.touch-cells.ensures) (lends-cells c.loop.seat.view c.loop.lent c.args.call.now inv.lends) in
    let t = c.leave_unless_in_order.ensures in
    subst (λ (p : Providers). AreCells p c.touch-cells.result) (sym (same-providers c.loop.seat.view c.leave_unless_in_order.new.seat.view c.loop.lent c.leave_unless_in_order.new.lent inv.lends t.lends (t.rest ∙ c.give_back.ensures.rest))) cells

pub give_back-requires-clause-hall : goal.give_back-requires-clause-hall
give_back-requires-clause-hall g c =
    let inv = c.loop.invariant in still-of c.args.hall.now c.args.seat.now c.loop.seat c.args.lent.now.providers c.loop.lent.providers c.requires.hall inv.hall inv.rest inv.providers

pub leave_unless_in_order-requires-clause-hall : goal.leave_unless_in_order-requires-clause-hall
leave_unless_in_order-requires-clause-hall g c =
    let inv = c.loop.invariant in let a = c.give_back.ensures in
    still-of c.args.hall.now c.args.seat.now c.give_back.new.seat c.args.lent.now.providers c.give_back.new.lent.providers c.requires.hall (a.hall.0 ∙ inv.hall) (a.rest ∙ inv.rest) (same-providers c.loop.seat.view c.give_back.new.seat.view c.loop.lent c.give_back.new.lent inv.lends a.lends (a.rest) ∙ inv.providers)

pub enter_missing-requires-clause-hall : goal.enter_missing-requires-clause-hall
enter_missing-requires-clause-hall g c =
    let inv = c.loop.invariant in let a = c.give_back.ensures in let b = c.leave_unless_in_order.ensures in
    still-of c.args.hall.now c.args.seat.now c.leave_unless_in_order.new.seat c.args.lent.now.providers c.leave_unless_in_order.new.lent.providers c.requires.hall (b.hall.0 ∙ (a.hall.0 ∙ inv.hall)) (b.rest ∙ (a.rest ∙ inv.rest)) (same-providers c.loop.seat.view c.leave_unless_in_order.new.seat.view c.loop.lent c.leave_unless_in_order.new.lent inv.lends b.lends (b.rest ∙ a.rest) ∙ inv.providers)

pub enter_missing-requires-clause-free : goal.enter_missing-requires-clause-free
enter_missing-requires-clause-free g c =
    let inv = c.loop.invariant in let a = c.give_back.ensures in let b = c.leave_unless_in_order.ensures in ap (λ (z : View). z.journal) (b.rest ∙ (a.rest ∙ inv.rest)) ∙ c.requires.free

pub loop-preserved : goal.loop-preserved
loop-preserved g c =
    let inv = c.loop.invariant in let a = c.give_back.ensures in let b = c.leave_unless_in_order.ensures in let t = c.enter_missing.ensures in
    record {
      hall = t.hall.0 ∙ (b.hall.0 ∙ (a.hall.0 ∙ inv.hall));
      id = t.hall.1 ∙ (b.hall.1 ∙ (a.hall.1 ∙ inv.id));
      rest = t.rest ∙ (b.rest ∙ (a.rest ∙ inv.rest));
      lends = t.lends;
      providers = same-providers c.loop.seat.view c.enter_missing.new.seat.view c.loop.lent c.enter_missing.new.lent inv.lends t.lends (t.rest ∙ (b.rest ∙ a.rest)) ∙ inv.providers;
    }

pub returns-in_default-clause-hall : goal.returns-in_default-clause-hall
returns-in_default-clause-hall g c =
    let inv = c.loop.invariant in let a = c.give_back.ensures in (a.hall.0 ∙ inv.hall, a.hall.1 ∙ inv.id)

pub returns-in_default-clause-rest : goal.returns-in_default-clause-rest
returns-in_default-clause-rest g c =
    let inv = c.loop.invariant in let a = c.give_back.ensures in a.rest ∙ inv.rest

pub returns-in_default-clause-providers : goal.returns-in_default-clause-providers
returns-in_default-clause-providers g c =
    let inv = c.loop.invariant in let a = c.give_back.ensures in
    same-providers c.loop.seat.view c.give_back.new.seat.view c.loop.lent c.give_back.new.lent inv.lends a.lends (a.rest) ∙ inv.providers
