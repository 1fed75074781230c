use Rattle.std.proofs.Common.{rules, arith, sym, subst, ◌≡◌, ◌+◌, ℕ, List, vec_len, length}
use Rattle.xti_hall.specs.Seats.{SeatView}
use Rattle.xti_threads.specs.Working.{CameBack}
use Rattle.xti_threads.specs.Starting.{AllBack, AllStarted}
use Rattle.xti_threads.proofs.Threads.{from_snoc}
use Rattle.xti_threads.proofs.starting.join_all.Goals as goal

pub loop-one-init : goal.loop-one-init
loop-one-init g c = let none = c.requires.empty in record {
  many = omega (arith, none.0, c.into_iter-one-iterator.ensures.into_iter_gives.1);
  room = c.requires.room;
  known = λ xti lines setup all. (
    subst (λ (z : ℕ). AllStarted xti lines setup (z + 1) c.into_iter-one-iterator.result.rest.items) (sym {A = ℕ} none.0)
        (subst (AllStarted xti lines setup 1) (sym c.into_iter-one-iterator.ensures.into_iter_gives.0) all),
    subst (AllBack xti lines setup) (sym {A = List SeatView} none.1) tt,
  );
}

pub join-requires : goal.join-requires
join-requires g c =
    let r = c.requires.started in
    let k = c.loop-one.invariant.known r.0 r.1 r.2 r.3 in
    (r.0, r.1, r.2, vec_len c.loop-one.seats + 1, (subst (AllStarted r.0 r.1 r.2 (vec_len c.loop-one.seats + 1)) c.in-Some.ensures.steps.0 k.0).0)

pub push_reserved-requires : goal.push_reserved-requires
push_reserved-requires g c = omega (arith, c.loop-one.invariant.many, c.loop-one.invariant.room, c.in-Some.ensures.steps.1)

pub loop-one-preserved : goal.loop-one-preserved
loop-one-preserved g c =
    let i = c.loop-one.invariant in
    let many : vec_len c.push_reserved.new.self ≡ vec_len c.loop-one.seats + 1 = search rules in
    let count : vec_len c.loop-one.seats ≡ length c.loop-one.seats.items = search rules in record {
      many = omega (arith, i.many, many, c.in-Some.ensures.steps.1);
      room = omega (arith, i.room, c.push_reserved.ensures.capacity);
      known = λ xti lines setup all.
          let k = i.known xti lines setup all in
          let h = subst (AllStarted xti lines setup (vec_len c.loop-one.seats + 1)) c.in-Some.ensures.steps.0 k.0 in (
            subst (λ (z : ℕ). AllStarted xti lines setup (z + 1) c.next.new.self.rest.items) (sym {A = ℕ} many) h.1,
            subst (AllBack xti lines setup) (sym {A = List SeatView} c.push_reserved.ensures.items)
                (from_snoc (CameBack xti lines setup) 1 (vec_len c.loop-one.seats + 1) c.loop-one.seats.items c.join.result k.1 (omega (arith, count))
                (c.join.ensures xti lines setup (vec_len c.loop-one.seats + 1) h.0)),
          );
    }

pub returns-clause-back : goal.returns-clause-back
returns-clause-back g c = λ xti lines setup all. (c.loop-one.invariant.known xti lines setup all).1
