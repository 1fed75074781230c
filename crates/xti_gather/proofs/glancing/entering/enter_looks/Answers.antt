use Rattle.std.proofs.Common.{◌∙◌, ◌<◌, ◌+◌, refl, sym, ap, subst}
use Rattle.std.specs.List.{AllByRecursion}
use Rattle.xti_model.specs.declared.call.Call.TheVariants.{TLookAt}
use Rattle.xti_model.specs.World.{places}
use Rattle.xti_gather.proofs.Wholes.{lends-sound, lends-cells}
use Rattle.xti_gather.specs.Marks.{looked_at}
use Rattle.xti_gather.proofs.Marks.{fewer-unmarked, not-marked}
use Rattle.xti_gather.proofs.Staying.{stays-first, stays-on, still-free, still-in, still-providers}
use Rattle.xti_gather.proofs.glancing.entering.enter_looks.Goals as goal

pub loop-first-init : goal.loop-first-init
loop-first-init g c = record {
  stays = stays-first c.args.seat.now c.args.lent.now c.requires.lends;
  refused = refl;
  length_is = refl;
  marked = c.requires.marks;
}

pub next_wanted-requires-clause-sound : goal.next_wanted-requires-clause-sound
next_wanted-requires-clause-sound g c = lends-sound c.loop-first.seat.view c.loop-first.lent c.loop-first.invariant.stays.lends

pub next_wanted-requires-clause-room : goal.next_wanted-requires-clause-room
next_wanted-requires-clause-room g c =
    let inv = c.loop-first.invariant in
    inv.length_is ∙ (c.requires.room ∙ ap (λ n. n + 1) (sym (ap places (still-providers c.args.seat.now c.loop-first.seat c.args.lent.now c.loop-first.lent c.requires.lends inv.stays))))

pub next_wanted-requires-clause-cells : goal.next_wanted-requires-clause-cells
next_wanted-requires-clause-cells g c = λ fd.
    let inv = c.loop-first.invariant in
    let same = inv.length_is ∙ (c.requires.room ∙ ap (λ n. n + 1) (sym (ap places (still-providers c.args.seat.now c.loop-first.seat c.args.lent.now c.loop-first.lent c.requires.lends inv.stays)))) in
    subst (λ k. AllByRecursion (λ n. n < k) (looked_at c.loop-first.lent fd)) (sym same) (lends-cells c.loop-first.seat.view c.loop-first.lent (TLookAt fd) inv.stays.lends)

pub enter_from-requires-clause-hall : goal.enter_from-requires-clause-hall
enter_from-requires-clause-hall g c = still-in c.args.hall.now c.args.seat.now c.loop-first.seat c.args.lent.now c.loop-first.lent c.requires.hall c.requires.lends c.loop-first.invariant.stays

pub enter_from-requires-clause-free : goal.enter_from-requires-clause-free
enter_from-requires-clause-free g c = still-free c.args.seat.now c.loop-first.seat c.loop-first.lent c.requires.free c.loop-first.invariant.stays

pub enter_from-requires-clause-room : goal.enter_from-requires-clause-room
enter_from-requires-clause-room g c =
    let inv = c.loop-first.invariant in
    c.next_wanted.ensures.length ∙ (inv.length_is ∙ (c.requires.room ∙ ap (λ n. n + 1) (sym (ap places (still-providers c.args.seat.now c.loop-first.seat c.args.lent.now c.loop-first.lent c.requires.lends inv.stays)))))

pub loop-first-preserved : goal.loop-first-preserved
loop-first-preserved g c =
    let inv = c.loop-first.invariant in
    let t = c.enter_from.ensures in
    record {
      stays = stays-on c.args.seat.now c.loop-first.seat c.enter_from.new.seat c.loop-first.lent c.enter_from.new.lent inv.stays t.hall t.rest t.lends;
      refused = t.refused ∙ inv.refused;
      length_is = c.next_wanted.ensures.length ∙ inv.length_is;
      marked = t.all;
    }

pub loop-first-smaller : goal.loop-first-smaller
loop-first-smaller g c =
    let inv = c.loop-first.invariant in
    let n = c.next_wanted.ensures in
    fewer-unmarked c.loop-first.marks c.next_wanted.new.marks c.in-Some.first n.length n.kept (not-marked c.loop-first.lent c.loop-first.marks c.in-Some.first inv.marked c.in-Some.ensures.next.gone) c.in-Some.ensures.next.marked
