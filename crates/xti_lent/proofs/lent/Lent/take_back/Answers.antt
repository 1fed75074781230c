use Rattle.std.proofs.Common.{◌∙◌, ◌≡◌, ap, sym, length, arith}
use Rattle.std.specs.Prelude.{Box, option_map}
use Rattle.std.specs.declared.alloc.Global.{Global}
use Rattle.xti_registry.specs.Known.{Known}
use Rattle.xti_lent.specs.Kept.{held_of}
use Rattle.xti_lent.proofs.Lookups.{nowhere, found, not-held}
use Rattle.xti_lent.proofs.Slots.{slot-there, held-remove}
use Rattle.xti_lent.proofs.Removals.{removed, absent-number, absent-held, distinct-less, places-less, paired-less}
use Rattle.xti_lent.proofs.lent.Lent.take_back.Goals as goal

pub returns-in_err-i-clause-endpoint : goal.returns-in_err-i-clause-endpoint
returns-in_err-i-clause-endpoint c =
    let n = rw c.as_slice.ensures.value at c.in_err-i.ensures.index in
    rw (← c.self.view_is, c.from_residual.ensures) (nowhere c.args.place c.self.inside.numbers.items (held_of c.self.inside.endpoints.items) c.self.invariant.kept.paired n)

pub returns-in_err-i-clause-left : goal.returns-in_err-i-clause-left
returns-in_err-i-clause-left c =
    let n = rw c.as_slice.ensures.value at c.in_err-i.ensures.index in
    let a = not-held c.args.place c.self.inside.numbers.items (held_of c.self.inside.endpoints.items) c.self.invariant.kept.paired (sym (nowhere c.args.place c.self.inside.numbers.items (held_of c.self.inside.endpoints.items) c.self.invariant.kept.paired n)) in
    rw (← c.self.view_is) (λ i. record {
      providers = c.self.inside.providers;
      numbers = sym (absent-number c.args.place c.self.inside.numbers.items a) i;
      held = sym (absent-held c.args.place c.self.inside.numbers.items (held_of c.self.inside.endpoints.items) a) i;
      registry = option_map (λ (b : Box Known Global). b.value) c.self.inside.registry;
    })

pub invariant_of-self : goal.invariant_of-self
invariant_of-self c =
    let at = rw c.as_slice.ensures.value at c.in_ok-i.ensures.index in
    let f = found c.args.place c.in_ok-i.i c.self.inside.numbers.items (held_of c.self.inside.endpoints.items) c.self.invariant.kept.paired at in
    let r = removed c.args.place c.in_ok-i.i c.self.inside.numbers.items (held_of c.self.inside.endpoints.items) c.self.invariant.kept.paired at in
    let all : length (held_of c.self.inside.endpoints.items) ≡ length c.self.inside.endpoints.items = c.self.invariant.kept.paired ∙ sym c.self.invariant.full in
    let held = held-remove c.self.inside.endpoints.items c.in_ok-i.i all (omega (arith, f.inside, all)) in
    record {
      kept = record {
        valid_providers = c.self.invariant.kept.valid_providers;
        places = rw (c.remove.ensures.items, r.0) (places-less c.self.inside.providers c.args.place c.self.inside.numbers.items c.self.invariant.kept.places);
        distinct = rw (c.remove.ensures.items, r.0) (distinct-less c.args.place c.self.inside.numbers.items c.self.invariant.kept.distinct);
        paired = rw (c.remove.ensures.items, c.remove-2.ensures.items, r.0, held, r.1) (paired-less c.args.place c.self.inside.numbers.items (held_of c.self.inside.endpoints.items) c.self.invariant.kept.paired);
      };
      full = omega (arith, c.self.invariant.full, c.remove.ensures.len, c.remove-2.ensures.len);
    }

pub returns-clause-endpoint : goal.returns-clause-endpoint
returns-clause-endpoint c = rw (← c.self.view_is) (c.into_box.ensures ∙ slot-there c.args.place c.in_ok-i.i c.self.inside.numbers.items c.self.inside.endpoints.items c.remove-2.result c.self.invariant.kept.paired c.self.invariant.full (rw c.as_slice.ensures.value at c.in_ok-i.ensures.index) c.remove-2.ensures.value)

pub returns-clause-left : goal.returns-clause-left
returns-clause-left c =
    let at = rw c.as_slice.ensures.value at c.in_ok-i.ensures.index in
    let f = found c.args.place c.in_ok-i.i c.self.inside.numbers.items (held_of c.self.inside.endpoints.items) c.self.invariant.kept.paired at in
    let r = removed c.args.place c.in_ok-i.i c.self.inside.numbers.items (held_of c.self.inside.endpoints.items) c.self.invariant.kept.paired at in
    let all : length (held_of c.self.inside.endpoints.items) ≡ length c.self.inside.endpoints.items = c.self.invariant.kept.paired ∙ sym c.self.invariant.full in
    rw (← c.self.view_is) (λ i. record {
      providers = c.self.inside.providers;
      numbers = (c.remove.ensures.items ∙ r.0) i;
      held = (ap held_of c.remove-2.ensures.items ∙ held-remove c.self.inside.endpoints.items c.in_ok-i.i all (omega (arith, f.inside, all)) ∙ r.1) i;
      registry = option_map (λ (b : Box Known Global). b.value) c.self.inside.registry;
    })
