use Rattle.std.proofs.Common.{◌≡◌, ◌<◌, ◌∙◌, ap, sym, subst, rules, arith, length}
use Rattle.std.specs.Vec.{vec_len}
use Rattle.xti_model.specs.World.{places}
use Rattle.xti_registry.specs.Known.{Known}
use Rattle.xti_end.specs.Held.{Held}
use Rattle.xti_gather.proofs.OpeningCells.{AreClosed, none_closed, one_closed, all_stand}
use Rattle.xti_gather.proofs.opening.opening_cells.Goals as goal

pub loop-place-init : goal.loop-place-init
loop-place-init c = record { many = c.in_ok-cells.ensures.len; room = omega (arith, c.in_ok-cells.ensures.exact, c.places.ensures.places); closed = none_closed c.args.p.now c.in_ok-cells.cells.items c.in_ok-cells.ensures.items }

pub push_reserved-requires : goal.push_reserved-requires
push_reserved-requires c = omega (arith, c.loop-place.invariant.many, c.loop-place.invariant.room, c.loop-place-test.true)

pub loop-place-preserved : goal.loop-place-preserved
loop-place-preserved c =
    let count : vec_len c.loop-place.cells ≡ length c.loop-place.cells.items = search rules in
    let below : c.loop-place.place < places c.args.p.now = (let t = c.loop-place-test.true in let e = c.places-place-end.ensures.places in omega (arith, t, e)) in
    record {
      many = search rules;
      room = search rules;
      closed = subst (AreClosed c.args.p.now) (sym c.push_reserved.ensures.items) (one_closed c.args.p.now c.loop-place.cells.items c.loop-place.place c.in_ok-closed.closed c.loop-place.invariant.closed (sym count ∙ c.loop-place.invariant.many) below (ap (λ (e : Held). e.place) c.in_ok-closed.ensures.ok ∙ c.closed.ensures.place) (ap (λ (e : Held). e.generation) c.in_ok-closed.ensures.ok ∙ c.closed.ensures.generation) (ap (λ (e : Held). e.body) c.in_ok-closed.ensures.ok ∙ c.closed.ensures.body));
    }

pub returns-clause-stand : goal.returns-clause-stand
returns-clause-stand c =
    let count : vec_len c.loop-place.cells ≡ length c.loop-place.cells.items = search rules in
    let full : length c.loop-place.cells.items ≡ places c.args.p.now = (let a = c.loop-place.auto.place-end in omega (arith, count, c.loop-place.invariant.many, c.loop-place-test.false, a)) in
    λ _. all_stand c.args.p.now c.loop-place.cells.items c.push_reserved-2.new.self.items c.in_ok-registry.registry c.loop-place.invariant.closed full (ap (λ (k : Known). k.switch) c.in_ok-registry.ensures.ok ∙ c.in_ok-fresh.ensures) c.push_reserved-2.ensures.items
