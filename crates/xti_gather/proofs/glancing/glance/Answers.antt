use Rattle.std.proofs.Common.{◌<◌, ◌+◌, ◌∙◌, refl, sym, ap}
use Rattle.std.specs.Prelude.{option_map}
use Rattle.xti_model.specs.declared.call.Call.TheVariants.{TLookAt}
use Rattle.xti_model.specs.World.{places}
use Rattle.xti_model.specs.Touched.{touched}
use Rattle.xti_lent.specs.Lending.{cells}
use Rattle.xti_lent.proofs.Named.{all-among}
use Rattle.xti_core.specs.declared.looking.Sight.{Sight}
use Rattle.xti_hall_rule.specs.declared.setting.Setting.{Setting}
use Rattle.xti_hall_rule.specs.declared.view.View.{View}
use Rattle.xti_gather.proofs.Wholes.{lends-sound, lends-cells}
use Rattle.xti_gather.proofs.Holdings.{nothing_lends, same-providers, still-of}
use Rattle.xti_gather.proofs.Ends.{when-true, when-false, still-same, held-up, lends-still, looks-over, shown-then, less-left}
use Rattle.xti_gather.proofs.glancing.glance.Goals as goal

pub loop-cell-init : goal.loop-cell-init
loop-cell-init c =
    let p = ap (λ (s : Setting). s.providers) (sym c.requires.hall.1 ∙ sym c.requires.hall.0.1) in record {
      hall = refl;
      id = refl;
      rest = refl;
      refused = refl;
      lends = nothing_lends c.args.seat.now.view c.args.lent.now p c.requires.empty c.requires.none;
      providers = refl;
    }

pub next_cell-requires-clause-sound : goal.next_cell-requires-clause-sound
next_cell-requires-clause-sound c = lends-sound c.loop-cell.seat.view c.loop-cell.lent c.loop-cell.invariant.lends

pub try_enter-requires-clause-hall : goal.try_enter-requires-clause-hall
try_enter-requires-clause-hall c =
    let inv = c.loop-cell.invariant in
    still-of c.args.hall.now c.args.seat.now c.loop-cell.seat c.args.lent.now.providers c.loop-cell.lent.providers c.requires.hall inv.hall inv.rest inv.providers

pub try_enter-requires-clause-free : goal.try_enter-requires-clause-free
try_enter-requires-clause-free c = ap (λ (z : View). z.journal) c.loop-cell.invariant.rest ∙ c.requires.free

pub try_enter-requires-clause-cell : goal.try_enter-requires-clause-cell
try_enter-requires-clause-cell c =
    let p = c.loop-cell.lent.providers in
    all-among (λ n. n < places p + 1) (touched p (cells c.loop-cell.lent) (TLookAt c.args.fd)) c.in-Some.cell (lends-cells c.loop-cell.seat.view c.loop-cell.lent (TLookAt c.args.fd) c.loop-cell.invariant.lends) c.in-Some.ensures.among

pub loop-cell-preserved : goal.loop-cell-preserved
loop-cell-preserved c =
    let inv = c.loop-cell.invariant in
    let t = c.try_enter.ensures in
    let lent = when-true c.try_enter.result _ _ c.if-not-try_enter.false t.tried in
    record {
      hall = t.hall.0 ∙ inv.hall;
      id = t.hall.1 ∙ inv.id;
      rest = t.rest ∙ inv.rest;
      refused = lent.1 ∙ inv.refused;
      lends = t.lends;
      providers = same-providers c.loop-cell.seat.view c.try_enter.new.seat.view c.loop-cell.lent c.try_enter.new.lent inv.lends t.lends t.rest ∙ inv.providers;
    }

pub loop-cell-smaller : goal.loop-cell-smaller
loop-cell-smaller c =
    let inv = c.loop-cell.invariant in
    let t = c.try_enter.ensures in
    let lent = when-true c.try_enter.result _ _ c.if-not-try_enter.false t.tried in
    let p = c.loop-cell.lent.providers in
    less-left c.loop-cell.lent c.try_enter.new.lent (touched p (cells c.loop-cell.lent) (TLookAt c.args.fd)) c.in-Some.cell t.lends.loan
    (same-providers c.loop-cell.seat.view c.try_enter.new.seat.view c.loop-cell.lent c.try_enter.new.lent inv.lends t.lends t.rest) c.in-Some.ensures lent.0 t.others

pub returns-then-not-try_enter-clause-same : goal.returns-then-not-try_enter-clause-same
returns-then-not-try_enter-clause-same c =
    let held = when-false c.try_enter.result _ _ c.if-not-try_enter.true c.try_enter.ensures.tried in
    still-same c.args.seat.now.view c.loop-cell.seat.view c.try_enter.new.seat.view c.leave_all.new.seat.view c.in-Some.cell c.loop-cell.invariant.rest held c.leave_all.ensures.rest

pub returns-then-not-try_enter-clause-finds : goal.returns-then-not-try_enter-clause-finds
returns-then-not-try_enter-clause-finds c =
    let inv = c.loop-cell.invariant in
    let held = when-false c.try_enter.result _ _ c.if-not-try_enter.true c.try_enter.ensures.tried in
    held-up c.args.seat.now.view c.loop-cell.seat.view c.try_enter.new.seat.view c.leave_all.new.seat.view c.loop-cell.lent c.args.fd c.in-Some.cell inv.rest inv.refused inv.lends c.in-Some.ensures.among held c.leave_all.ensures.rest c.leave_all.ensures.refused

pub leave_all-requires-2-clause-lends : goal.leave_all-requires-2-clause-lends
leave_all-requires-2-clause-lends c = lends-still c.loop-cell.seat.view c.length-at.new.seat.view c.loop-cell.lent c.length-at.ensures.seen.0 c.length-at.ensures.seen.1 c.loop-cell.invariant.lends

pub returns-in-Some-shown-clause-finds : goal.returns-in-Some-shown-clause-finds
returns-in-Some-shown-clause-finds c =
    let inv = c.loop-cell.invariant in
    let l = c.length-at.ensures.seen in
    let back = c.leave_all-2.ensures in (
      looks-over c.args.seat.now.view c.loop-cell.seat.view c.length-at.new.seat.view c.leave_all-2.new.seat.view l.0 c.length-at.result inv.rest inv.refused l.1 l.2 back.rest back.refused,
      shown-then c.loop-cell.seat.view c.length-at.new.seat.view c.leave_all-2.new.seat.view c.loop-cell.lent c.args.fd l.0 c.length-at.result inv.lends c.in_default.ensures l.1 l.2 back.rest
          ∙ (sym c.sight_of-shown.ensures ∙ ap (option_map (λ (s : Sight). (s.state, s.event))) c.in-Some-shown.is),
    )

pub returns-in-None-clause-finds : goal.returns-in-None-clause-finds
returns-in-None-clause-finds c =
    let inv = c.loop-cell.invariant in
    let l = c.length-at.ensures.seen in
    let back = c.leave_all-2.ensures in (
      looks-over c.args.seat.now.view c.loop-cell.seat.view c.length-at.new.seat.view c.leave_all-2.new.seat.view l.0 c.length-at.result inv.rest inv.refused l.1 l.2 back.rest back.refused,
      shown-then c.loop-cell.seat.view c.length-at.new.seat.view c.leave_all-2.new.seat.view c.loop-cell.lent c.args.fd l.0 c.length-at.result inv.lends c.in_default.ensures l.1 l.2 back.rest
          ∙ (sym c.sight_of-shown.ensures ∙ ap (option_map (λ (s : Sight). (s.state, s.event))) c.in-None.is),
    )
