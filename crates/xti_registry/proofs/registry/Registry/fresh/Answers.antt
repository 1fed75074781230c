use Rattle.std.proofs.Common.{◌≡◌, length, replicate, arith, refl, sym, subst}
use Rattle.std.specs.Prelude.{All}
use Rattle.std.proofs.lemmas.List.{length-replicate}
use Rattle.std.proofs.lemmas.List.Elements.{All-replicate}
use Rattle.xti_model.specs.World.{closed_place, places}
use Rattle.xti_registry.specs.Kept.{CanClose}
use Rattle.xti_registry.proofs.registry.Registry.fresh.Goals as goal

pub returns : goal.returns
returns c =
    let n : c.loop.counter ≡ places c.args.p.now = omega (arith, c.loop-test.false, c.loop.auto.counter-end, c.places-end.ensures.places) in
    rw (c.in_ok-new.ensures.none, c.loop.invariant, n) refl

pub invariant_of-result : goal.invariant_of-result
invariant_of-result c =
    let n : length (replicate c.loop.counter closed_place) ≡ c.loop.counter = length-replicate c.loop.counter closed_place in
    record {
      numbered = rw c.loop.invariant (omega (arith, n, c.loop.auto.counter-end, c.places-end.ensures.most));
      can_close = subst (All CanClose) (sym c.loop.invariant) (All-replicate CanClose c.loop.counter closed_place (λ e. cc));
      chained = c.in_ok-new.ensures.chained;
      room = c.in_ok-new.ensures.room;
    }
