use Rattle.std.proofs.Common.{◌∙◌, refl, sym, ap, arith}
use Rattle.xti_model.specs.World.{places}
use Rattle.xti_gather.proofs.Marks.{entered-none, entered-below, entered-one, entered-past}
use Rattle.xti_gather.proofs.Staying.{stays-first, stays-on, still-free, still-in, still-providers}
use Rattle.xti_gather.proofs.glancing.entering.enter_marked.Goals as goal
use Rattle.xti_gather.proofs.glancing.entering.enter_marked.Goals.{then-is_marked, else-is_marked}

pub loop-cell-init : goal.loop-cell-init
loop-cell-init g c = record {
  stays = stays-first c.args.seat.now c.args.lent.now c.requires.lends;
  refused = refl;
  so_far = entered-none c.args.lent.now c.args.marks.now c.requires.order;
}

pub enter-requires-clause-hall : goal.enter-requires-clause-hall
enter-requires-clause-hall g c = still-in c.args.hall.now c.args.seat.now c.loop-cell.seat c.args.lent.now c.loop-cell.lent c.requires.hall c.requires.lends c.loop-cell.invariant.stays

pub enter-requires-clause-free : goal.enter-requires-clause-free
enter-requires-clause-free g c = still-free c.args.seat.now c.loop-cell.seat c.loop-cell.lent c.requires.free c.loop-cell.invariant.stays

pub enter-requires-clause-cell : goal.enter-requires-clause-cell
enter-requires-clause-cell g c =
    let inv = c.loop-cell.invariant in
    let p = still-providers c.args.seat.now c.loop-cell.seat c.args.lent.now c.loop-cell.lent c.requires.lends inv.stays in
    let q = ap places p in
    let r = ap places c.providers.ensures.providers in
    let lt = c.loop-cell-test.true in
    omega (arith, q, r, lt)

pub enter-requires-clause-order : goal.enter-requires-clause-order
enter-requires-clause-order g c = λ gone. entered-below c.loop-cell.lent c.args.marks.now c.loop-cell.cell c.loop-cell.invariant.so_far (sym c.is_marked.ensures ∙ c.if-is_marked.true) gone

pub loop-cell-preserved : goal.loop-cell-preserved
loop-cell-preserved g c =
    let inv = c.loop-cell.invariant in
    elim c.if-is_marked.branch [
      | then-is_marked w ↦
          let t = w.enter.ensures in
          rw (w.seat-is, w.lent-is) (record {
            stays = stays-on c.args.seat.now c.loop-cell.seat w.enter.new.seat c.loop-cell.lent w.enter.new.lent inv.stays t.hall t.rest t.lends;
            refused = t.refused ∙ inv.refused;
            so_far = entered-one c.loop-cell.lent w.enter.new.lent c.args.marks.now c.loop-cell.cell inv.so_far t.here t.others;
          })
      | else-is_marked w ↦
          rw (w.seat-is, w.lent-is) (record {
            stays = inv.stays;
            refused = inv.refused;
            so_far = entered-past c.loop-cell.lent c.args.marks.now c.loop-cell.cell inv.so_far (sym c.is_marked.ensures ∙ w.if-is_marked.false);
          })
    ]
