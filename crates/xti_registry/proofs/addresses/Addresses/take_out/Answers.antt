use Rattle.std.proofs.Common.{◌≡◌, ◌∙◌, ℕ, None, eqb, filter, length, not, rules, sym, ap, refl}
use Rattle.std.proofs.lemmas.Fn.{filter_same}
use Rattle.slab.specs.Slab.{ContainsKey, get}
use Rattle.xti_registry.specs.Links.{binding_of, from_of, linked, next_of}
use Rattle.xti_registry.specs.declared.addresses.Addresses.{Addresses}
use Rattle.xti_registry.specs.declared.addresses.Link.TheVariants.{After}
use Rattle.xti_registry.proofs.Chains.{Gone, chained_less, if_key, known_link, link_there, linked_others}
use Rattle.xti_registry.proofs.addresses.Addresses.take_out.Goals as goal

pub set_link-requires : goal.set_link-requires
set_link-requires c = link_there c.args.self.now c.index-entry.result.now.from c.args.key ((c.requires.chained.links c.index-entry.result.now.from c.args.key).1 (ap from_of c.index-entry.ensures))

pub set_from-requires : goal.set_from-requires
set_from-requires c = if_key c.index-entry.result.now.next (ContainsKey c.set_link.new.self.entries) (λ k e.
    let from = (c.requires.chained.links (After c.args.key) k).0 (ap next_of c.index-entry.ensures ∙ e) in
    known_link (get c.set_link.new.self.entries k) (After c.args.key) (c.set_link.ensures.relinked.back k ∙ from))

pub returns-clause-order : goal.returns-clause-order
returns-clause-order c =
    let rest = filter_same _ (λ (k : ℕ). not (eqb k c.args.key)) _ (λ x b f' r. search rules) _ _ c.retain.ensures.filtered in
    let order = c.set_from.ensures.order ∙ c.set_link.ensures.order in
    rest ∙ ap (λ (v : _). filter (λ (k : ℕ). not (eqb k c.args.key)) v.items) order

abbrev left : goal.After-retain → Addresses
left c = record { entries = c.remove.new.self; heads = c.set_from.new.self.heads; order = c.retain.new.self }

gone : (c : goal.After-retain) → Gone c.args.self.now (left c) c.args.key c.index-entry.result.now.from
gone c =
    let a = c.args.self.now in
    let key = c.args.key in
    let from = c.index-entry.result.now.from in
    let next = c.index-entry.result.now.next in
    let re = c.set_link.ensures.relinked in
    let led = c.set_from.ensures.led in
    let updates = c.remove.ensures.updates in
    let leads : linked a (After key) ≡ next = ap next_of c.index-entry.ensures in
    record {
      goes = record {
        was = ap from_of c.index-entry.ensures;
        after = ap next_of updates.changed;
        before' = λ i. linked_others c.set_from.new.self (left c) key None updates refl from i ∙ (led.forth from ∙ (re.there ∙ sym leads));
        other_links = λ w h i. linked_others c.set_from.new.self (left c) key None updates refl w i ∙ (led.forth w ∙ re.others w h);
        gone_from = ap from_of updates.changed;
        next_from = λ k h e. ap from_of (updates.others k h) ∙ led.there k (sym leads ∙ e);
        other_from = λ k h e. ap from_of (updates.others k h) ∙ (led.others k (λ i. e (leads ∙ i)) ∙ re.back k);
      };
      heads = ap (λ (h : _). length h.items) c.set_from.ensures.heads ∙ c.set_link.ensures.heads;
      order = returns-clause-order c;
      bindings = λ k h. ap binding_of (updates.others k h) ∙ (led.bindings k ∙ re.bindings k);
    }

pub returns-clause-chained : goal.returns-clause-chained
returns-clause-chained c = chained_less c.args.self.now _ c.requires.chained c.args.key c.index-entry.result.now.from (gone c)
