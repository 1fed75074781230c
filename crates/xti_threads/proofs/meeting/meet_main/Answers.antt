use Rattle.std.proofs.Common.{arith, ap, sym, subst, refl, ◌∙◌, ◌≡◌, ◌+◌, vec_len}
use mathlib.Core.List.{IsPrefix}
use Rattle.xti_hall.specs.Seats.{SeatView, AreOfOneHall}
use Rattle.xti_threads.specs.Working.{CameBack}
use Rattle.xti_threads.specs.Starting.{EachFrom}
use Rattle.xti_threads.proofs.Meetings.{leads-own, back-follows, leads-history, follow-more}
use Rattle.xti_threads.proofs.meeting.meet_main.Goals as goal

pub loop-seat-init : goal.loop-seat-init
loop-seat-init c = record {
  ended = refl;
  known = (
    0,
    omega (arith, c.into_iter-seat-iterator.ensures.into_iter_gives.1),
    λ x p. (
      subst (EachFrom (CameBack x c.args._lines.now p.past) 1) (sym c.into_iter-seat-iterator.ensures.into_iter_gives.0) p.back,
      λ k lt le. absurd (omega arith),
    ),
  );
}

pub meet-seat-requires : goal.meet-seat-requires
meet-seat-requires c =
    let p = c.requires.1 in
    let i = c.loop-seat.invariant in
    let k = i.known.2 c.requires.0 p in
    let s = (subst (EachFrom (CameBack c.requires.0 c.args._lines.now p.past) (i.known.0 + 1)) c.in-Some.ensures.steps.0 k.0).0 in
    subst (AreOfOneHall c.in-Some.seat) (sym i.ended) (s.of_x.0 ∙ sym p.leads.of_x.0, s.of_x.1 ∙ sym p.leads.of_x.1)

pub loop-seat-preserved : goal.loop-seat-preserved
loop-seat-preserved c =
    let i = c.loop-seat.invariant in
    let n = i.known.0 in
    let ended = c.args.ended.now in record {
      ended = c.meet-seat.ensures.seat.1 ∙ i.ended;
      known = (
        n + 1,
        omega (arith, i.known.1, c.in-Some.ensures.steps.1),
        λ x p.
            let k = i.known.2 x p in
            let h = subst (EachFrom (CameBack x c.args._lines.now p.past) (n + 1)) c.in-Some.ensures.steps.0 k.0 in
            let whole = subst (λ (s : SeatView). IsPrefix c.in-Some.seat.view.seen s.view.seen) i.ended c.meet-seat.ensures.whole in
            let new = back-follows (n + 1) c.in-Some.seat c.loop-seat.ended.view c.meet-seat.result.view ended.view.seen p.set_up (omega arith) h.0 (leads-own ended p.leads) whole (ap (λ (s : SeatView). s.view.seen) i.ended) c.meet-seat.ensures.met c.meet-seat.ensures.standing in
            (h.1, follow-more c.args._lines.now ended.view.seen n k.1 new),
      );
    }

pub returns-clause-same : goal.returns-clause-same
returns-clause-same c = c.loop-seat.invariant.ended

pub returns-clause-history : goal.returns-clause-history
returns-clause-history c = λ x p.
    let i = c.loop-seat.invariant in
    let k = i.known.2 x p in
    let full : i.known.0 ≡ vec_len c.args.seats = omega (arith, i.known.1, c.in-None.ensures.steps.0) in
    leads-history c.args.ended.now p.set_up p.leads (omega (arith, p.many)) (λ n lt le. k.1 n lt (omega (arith, le, full)))
