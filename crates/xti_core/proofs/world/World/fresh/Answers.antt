use Rattle.std.proofs.Common.{◌≡◌, ◌∙◌, ◌∷◌, [], ◌++◌, length, length-append, sym, subst, ap, arith}
use Rattle.xti_model.specs.Robin.{numbers}
use Rattle.xti_model.proofs.PlaceNumbers.{most-places}
use Rattle.xti_registry.specs.Known.{Known}
use Rattle.xti_end.specs.Held.{Held}
use Rattle.xti_model.specs.World.{opening, places}
use Rattle.xti_lent.specs.Lending.{Lending, cells}
use Rattle.xti_core.proofs.OpeningWorld.{UnusedFrom, AllClosed, numbers-push, numbers-length, next-apart, unused-push, opens, stands-first, same-standing}
use Rattle.xti_core.proofs.world.World.fresh.Goals as goal

pub lend-requires-clause-apart : goal.lend-requires-clause-apart
lend-requires-clause-apart c = next-apart c.loop-place.lent c.loop-place.place c.loop-place.invariant.numbered

pub lend-requires-clause-room : goal.lend-requires-clause-room
lend-requires-clause-room c = let e = ap length c.loop-place.invariant.numbered ∙ numbers-length 0 c.loop-place.place in omega (arith, e, c.loop-place-test.true, most-places c.args.p.now)

pub loop-place-preserved : goal.loop-place-preserved
loop-place-preserved c =
    let h : c.lend.new.self.held ≡ c.loop-place.lent.held ++ c.in-Ok.closed.value ∷ [] = ap (λ (l : Lending). l.held) c.lend.ensures in
    let n = ap (λ (l : Lending). l.numbers) c.lend.ensures in
    let place : c.in-Ok.closed.value.place ≡ c.closed.result.place = ap (λ (e : Held). e.place) c.in-Ok.ensures.ok in
    record {
      providers = ap (λ (l : Lending). l.providers) c.lend.ensures ∙ c.loop-place.invariant.providers;
      numbered = n ∙ (ap (λ ns. ns ++ c.loop-place.place ∷ []) c.loop-place.invariant.numbered ∙ numbers-push 0 c.loop-place.place c.loop-place.place (omega arith));
      unused = subst (UnusedFrom 0) (sym h) (unused-push 0 c.loop-place.lent.held c.in-Ok.closed.value c.loop-place.invariant.unused (omega (arith, place, c.closed.ensures.place, c.loop-place.invariant.count)) (ap (λ (e : Held). e.generation) c.in-Ok.ensures.ok ∙ c.closed.ensures.generation) (ap (λ (e : Held). e.body) c.in-Ok.ensures.ok ∙ c.closed.ensures.body));
      count = let l = ap length h in omega (arith, l, length-append c.loop-place.lent.held (c.in-Ok.closed.value ∷ []), c.loop-place.invariant.count);
      registry = ap (λ (l : Lending). l.registry) c.lend.ensures ∙ c.loop-place.invariant.registry;
    }

pub invariant_of-result : goal.invariant_of-result
invariant_of-result c =
    let e : c.loop-place.place ≡ places c.args.p.now = omega (arith, c.loop-place-test.false, c.loop-place.auto.place-end) in
    let h : c.lend_registry.new.self.held ≡ c.loop-place.lent.held = ap (λ (l : Lending). l.held) c.lend_registry.ensures in
    let a : AllClosed c.args.p.now c.in_ok-registry.registry.value c.lend_registry.new.self = record {
      providers = ap (λ (l : Lending). l.providers) c.lend_registry.ensures ∙ (c.loop-place.invariant.providers ∙ ap (λ (l : Lending). l.providers) c.new-lent.ensures);
      numbered = ap (λ (l : Lending). l.numbers) c.lend_registry.ensures ∙ (c.loop-place.invariant.numbered ∙ ap (numbers 0) e);
      unused = subst (UnusedFrom 0) (sym h) c.loop-place.invariant.unused;
      count = ap length h ∙ (c.loop-place.invariant.count ∙ e);
      registry = ap (λ (l : Lending). l.registry) c.lend_registry.ensures;
      switch = ap (λ (k : Known). k.switch) c.in_ok-registry.ensures.ok ∙ c.in_ok-fresh.ensures;
    } in
    stands-first c.args.p.now c.in_ok-registry.registry.value c.lend_registry.new.self c.requires a

pub returns : goal.returns
returns c =
    let e : c.loop-place.place ≡ places c.args.p.now = omega (arith, c.loop-place-test.false, c.loop-place.auto.place-end) in
    let h : c.lend_registry.new.self.held ≡ c.loop-place.lent.held = ap (λ (l : Lending). l.held) c.lend_registry.ensures in
    let a : AllClosed c.args.p.now c.in_ok-registry.registry.value c.lend_registry.new.self = record {
      providers = ap (λ (l : Lending). l.providers) c.lend_registry.ensures ∙ (c.loop-place.invariant.providers ∙ ap (λ (l : Lending). l.providers) c.new-lent.ensures);
      numbered = ap (λ (l : Lending). l.numbers) c.lend_registry.ensures ∙ (c.loop-place.invariant.numbered ∙ ap (numbers 0) e);
      unused = subst (UnusedFrom 0) (sym h) c.loop-place.invariant.unused;
      count = ap length h ∙ (c.loop-place.invariant.count ∙ e);
      registry = ap (λ (l : Lending). l.registry) c.lend_registry.ensures;
      switch = ap (λ (k : Known). k.switch) c.in_ok-registry.ensures.ok ∙ c.in_ok-fresh.ensures;
    } in
    same-standing c.lend_registry.new.self.providers c.args.p.now (cells c.lend_registry.new.self) (opening c.args.p.now) a.providers (opens c.args.p.now c.in_ok-registry.registry.value c.lend_registry.new.self a)
