use Rattle.std.proofs.Common.{◌≡◌, ◌≤◌, ◌<◌, ◌+◌, ◌++◌, ◌∙◌, ℕ, List, Option, append-nil, length, map, refl, sym, ap, arith}
use Rattle.xti_base.specs.declared.kinds.Fd.{Fd}
use Rattle.xti_core.specs.Looks.{events_among}
use Rattle.xti_hall_rule.specs.declared.setting.Setting.{Setting}
use Rattle.xti_hall_rule.specs.declared.view.View.{View}
use Rattle.xti_gather.proofs.Holdings.{nothing_lends, same-providers, still-of}
use Rattle.xti_model.specs.World.{places}
use Rattle.xti_gather.specs.Glances.{IsSameLater}
use Rattle.xti_gather.proofs.Ends.{later-same, lends-still}
use Rattle.xti_gather.proofs.SurveyEnds.{found-then}
use Rattle.xti_gather.proofs.glancing.surveying.survey.Goals as goal

pub leave_all-requires-clause-lends : goal.leave_all-requires-clause-lends
leave_all-requires-clause-lends g c =
    let l = c.length.ensures.seen in
    lends-still c.enter_looks.new.seat.view c.length.new.seat.view c.enter_looks.new.lent l.0 l.1 c.enter_looks.ensures.lends

pub returns-clause-found : goal.returns-clause-found
returns-clause-found g c =
    let e = c.enter_looks.ensures in
    let l = c.length.ensures.seen in
    let fds = c.args.fds.now in
    c.add_events.ensures
    ∙ (ap (λ (xs : List (Option ℕ)). xs ++ map (λ (fd : Fd). events_among c.enter_looks.new.lent fd.0) fds) c.in_ok-found.ensures.items
    ∙ found-then c.enter_looks.new.seat.view c.length.new.seat.view c.leave_all.new.seat.view c.enter_looks.new.lent fds l.0 c.length.result e.lends e.seen l.1 l.2 c.leave_all.ensures.rest)

pub enter_looks-requires-clause-lends : goal.enter_looks-requires-clause-lends
enter_looks-requires-clause-lends g c =
    let p = ap (λ (s : Setting). s.providers) (sym c.requires.hall.1 ∙ sym c.requires.hall.0.1) in
    nothing_lends c.args.seat.now.view c.args.lent.now p c.requires.empty c.requires.none

pub leave_all-requires-clause-hall : goal.leave_all-requires-clause-hall
leave_all-requires-clause-hall g c =
    let p = ap (λ (s : Setting). s.providers) (sym c.requires.hall.1 ∙ sym c.requires.hall.0.1) in
    let before = nothing_lends c.args.seat.now.view c.args.lent.now p c.requires.empty c.requires.none in
    let e = c.enter_looks.ensures in
    let l = c.length.ensures in
    let still = still-of c.args.hall.now c.args.seat.now c.enter_looks.new.seat c.args.lent.now.providers c.enter_looks.new.lent.providers c.requires.hall e.hall.0 e.rest (same-providers c.args.seat.now.view c.enter_looks.new.seat.view c.args.lent.now c.enter_looks.new.lent before e.lends e.rest) in
    ((l.hall.0 ∙ still.0.0, ap (λ (z : View). z.setting) l.seen.1 ∙ still.0.1), still.1)

pub returns-clause-same : goal.returns-clause-same
returns-clause-same g c =
    let l = c.length.ensures.seen in
    later-same c.args.seat.now.view c.enter_looks.new.seat.view c.length.new.seat.view c.leave_all.new.seat.view l.0 c.length.result c.enter_looks.ensures.rest l.1 l.2 c.leave_all.ensures.rest

pub returns-clause-empty : goal.returns-clause-empty
returns-clause-empty g c =
    let p = ap (λ (s : Setting). s.providers) (sym c.requires.hall.1 ∙ sym c.requires.hall.0.1) in
    let l = c.length.ensures.seen in
    let same = later-same c.args.seat.now.view c.enter_looks.new.seat.view c.length.new.seat.view c.leave_all.new.seat.view l.0 c.length.result c.enter_looks.ensures.rest l.1 l.2 c.leave_all.ensures.rest in
    (c.leave_all.ensures.empty, c.leave_all.ensures.lends.providers ∙ (ap (λ (s : Setting). s.providers) same.setting ∙ sym p))

wide : (n : ℕ) → n < 4294967296 → n < 18446744073709551616
wide n h = omega arith

one-wider : (n : ℕ) → n < 4294967296 → n + 1 < 18446744073709551616
one-wider n h = omega arith

not-later : (v : View) → IsSameLater v v
not-later v = record { setting = refl; number = refl; next = refl; mine = refl; mark = refl; journal = refl; seen = (_, append-nil v.seen) }

room-for : (len n capacity : ℕ) → len ≡ 0 → n ≤ capacity → len + n ≤ capacity
room-for len n capacity e h = omega arith

pub returns-in_err-found-clause-hall : goal.returns-in_err-found-clause-hall
returns-in_err-found-clause-hall g c = (refl, refl)

pub returns-in_err-found-clause-empty : goal.returns-in_err-found-clause-empty
returns-in_err-found-clause-empty g c = (c.requires.empty, refl)

pub returns-in_err-marks-clause-hall : goal.returns-in_err-marks-clause-hall
returns-in_err-marks-clause-hall g c = (refl, refl)

pub returns-in_err-marks-clause-empty : goal.returns-in_err-marks-clause-empty
returns-in_err-marks-clause-empty g c = (c.requires.empty, refl)

pub length-requires : goal.length-requires
length-requires g c =
    let p = ap (λ (s : Setting). s.providers) (sym c.requires.hall.1 ∙ sym c.requires.hall.0.1) in
    let before = nothing_lends c.args.seat.now.view c.args.lent.now p c.requires.empty c.requires.none in
    let e = c.enter_looks.ensures in
    record {
      hall = (still-of c.args.hall.now c.args.seat.now c.enter_looks.new.seat c.args.lent.now.providers c.enter_looks.new.lent.providers c.requires.hall e.hall.0 e.rest
          (same-providers c.args.seat.now.view c.enter_looks.new.seat.view c.args.lent.now c.enter_looks.new.lent before e.lends e.rest)).0;
    }

pub add_events-requires-clause-room : goal.add_events-requires-clause-room
add_events-requires-clause-room g c = room-for _ (length c.args.fds.now) _ c.in_ok-found.ensures.len c.in_ok-found.ensures.capacity

pub returns-clause-hall : goal.returns-clause-hall
returns-clause-hall g c =
    let a = c.leave_all.ensures.hall in
    let b = c.length.ensures.hall in
    let d = c.enter_looks.ensures.hall in
    (a.0 ∙ (b.0 ∙ d.0), a.1 ∙ (b.1 ∙ d.1))

pub returns-clause-none : goal.returns-clause-none
returns-clause-none g c = c.leave_all.ensures.none

pub returns-clause-refused : goal.returns-clause-refused
returns-clause-refused g c = c.leave_all.ensures.refused ∙ (ap (λ (v : View). v.refused) c.length.ensures.seen.1 ∙ c.enter_looks.ensures.refused)

pub overflow_cast-places : goal.overflow_cast-places
overflow_cast-places g c = record { fits = wide c.places.result c.places.type_inv }

pub overflow_add-places : goal.overflow_add-places
overflow_add-places g c = record { fits = one-wider c.places.result c.places.type_inv }

pub enter_looks-requires-clause-room : goal.enter_looks-requires-clause-room
enter_looks-requires-clause-room g c = c.deref_mut.ensures.len ∙ (c.in_ok-marks.ensures.len ∙ ap (λ (n : ℕ). n + 1) (c.places.ensures.places ∙ ap places c.providers.ensures.providers))

pub add_events-requires-clause-places : goal.add_events-requires-clause-places
add_events-requires-clause-places g c = c.enter_looks.ensures.lends.loan.own

pub returns-in_err-found-clause-same : goal.returns-in_err-found-clause-same
returns-in_err-found-clause-same g c = not-later c.args.seat.now.view

pub returns-in_err-marks-clause-same : goal.returns-in_err-marks-clause-same
returns-in_err-marks-clause-same g c = not-later c.args.seat.now.view
