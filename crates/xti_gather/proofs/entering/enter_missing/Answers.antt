use Rattle.std.proofs.Common.{◌≡◌, ◌<◌, ◌+◌, true, sym, subst, arith}
use Rattle.xti_model.specs.declared.profile.Providers.{Providers}
use Rattle.xti_model.specs.World.{places}
use Rattle.xti_lent.specs.Lending.{is_lent}
use Rattle.xti_lent.proofs.Named.{all-among}
use Rattle.xti_gather.proofs.Numbers.{all-get, among-get, get-within}
use Rattle.xti_gather.proofs.Orders.{so-far-none, so-far-one, so-far-below}
use Rattle.xti_gather.proofs.Staying.{stays-first, stays-on, still-free, still-in, still-providers}
use Rattle.xti_gather.proofs.entering.enter_missing.Goals as goal

pub loop-place-init : goal.loop-place-init
loop-place-init g c = record { stays = stays-first c.args.seat.now c.args.lent.now c.requires.lends; so_far = so-far-none c.args.lent.now c.args.cells.now c.requires.order }

pub unreachable-requires : goal.unreachable-requires
unreachable-requires g c = get-within c.args.cells.now c.loop-place.place (let l = c.loop-place-test.true in let m = c.len-place-end.ensures.len in omega (arith, l, m)) (sym c.in_default.ensures)

pub enter-requires-clause-hall : goal.enter-requires-clause-hall
enter-requires-clause-hall g c = still-in c.args.hall.now c.args.seat.now c.loop-place.seat c.args.lent.now c.loop-place.lent c.requires.hall c.requires.lends c.loop-place.invariant.stays

pub enter-requires-clause-free : goal.enter-requires-clause-free
enter-requires-clause-free g c = still-free c.args.seat.now c.loop-place.seat c.loop-place.lent c.requires.free c.loop-place.invariant.stays

pub enter-requires-clause-cell : goal.enter-requires-clause-cell
enter-requires-clause-cell g c =
    let inv = c.loop-place.invariant in
    let p = still-providers c.args.seat.now c.loop-place.seat c.args.lent.now c.loop-place.lent c.requires.lends inv.stays in
    let lt = all-among (λ n. n < places c.args.lent.now.providers + 1) c.args.cells.now c.in-Some.cell c.requires.cells (among-get c.args.cells.now c.loop-place.place c.in-Some.cell (sym c.in-Some.ensures)) in
    subst (λ (q : Providers). c.in-Some.cell < places q + 1) (sym p) lt

pub enter-requires-clause-order : goal.enter-requires-clause-order
enter-requires-clause-order g c = λ gone. so-far-below c.loop-place.lent c.args.cells.now c.loop-place.place c.in-Some.cell c.loop-place.invariant.so_far (sym c.in-Some.ensures) gone

pub loop-place-preserved : goal.loop-place-preserved
loop-place-preserved g c =
    let inv = c.loop-place.invariant in
    let t = c.enter.ensures in
    record {
      stays = stays-on c.args.seat.now c.loop-place.seat c.enter.new.seat c.loop-place.lent c.enter.new.lent inv.stays t.hall t.rest t.lends;
      so_far = so-far-one c.loop-place.lent c.enter.new.lent c.args.cells.now c.loop-place.place c.in-Some.cell c.len-place-end.ensures.rising inv.so_far (sym c.in-Some.ensures) t.here t.others;
    }

pub returns-clause-all : goal.returns-clause-all
returns-clause-all g c = all-get (λ n. is_lent c.loop-place.lent n ≡ true) c.args.cells.now (λ k n lt e. c.loop-place.invariant.so_far.before k n (omega (arith, lt, c.loop-place-test.false, c.len-place-end.ensures.len)) e)
