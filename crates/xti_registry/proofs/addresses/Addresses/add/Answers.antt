use Rattle.std.proofs.Common.{◌≡◌, ◌≢◌, ◌<◌, ◌∙◌, ℕ, Some, None, sym, ap, arith, length, refl, rules}
use Rattle.std.proofs.lemmas.List.{get_or_default}
use Rattle.slab.specs.Slab.{ContainsKey, get}
use Rattle.xti_registry.specs.Links.{binding_of, from_of, link_to, linked, next_of}
use Rattle.xti_registry.specs.declared.addresses.Link.TheVariants.{Head, After}
use Rattle.xti_registry.proofs.Chains.{Added, bindings_more, chained_more, if_key, known_link, linked_others}
use Rattle.xti_registry.proofs.addresses.Addresses.add.Goals as goal

pub set_from-requires : goal.set_from-requires
set_from-requires c = if_key c.index-next.result.now (ContainsKey c.insert_reserved-key.new.self) known
  where
    known : (k : ℕ) → c.index-next.result.now ≡ Some k → ContainsKey c.insert_reserved-key.new.self k
    known k e =
        let lt : c.chain-chain.result < length c.args.self.now.heads.items = let n = c.requires.chained.heads in omega arith in
        let next : c.index-next.result.now ≡ linked c.args.self.now (Head c.chain-chain.result) = c.index-next.ensures ∙ get_or_default c.args.self.now.heads.items c.chain-chain.result _ None lt in
        let from = (c.requires.chained.links (Head c.chain-chain.result) k).0 (sym next ∙ e) in
        let vacant : link_to c.args.self.now c.insert_reserved-key.result ≡ None = ap from_of c.insert_reserved-key.ensures.was_vacant in
        let other : k ≢ c.insert_reserved-key.result = λ i. cc in
        known_link (get c.insert_reserved-key.new.self k) (Head c.chain-chain.result) (ap from_of (c.insert_reserved-key.ensures.updates.others k other) ∙ from)

added : (c : goal.After-push_reserved) → Added c.args.self.now (record { entries = c.set_link.new.self.entries; heads = c.set_link.new.self.heads; order = c.push_reserved.new.self }) c.insert_reserved-key.result c.chain-chain.result c.args.binding
added c =
    let key = c.insert_reserved-key.result in
    let vacant = c.insert_reserved-key.ensures.was_vacant in
    let updates = c.insert_reserved-key.ensures.updates in
    let first = Head c.chain-chain.result in
    let lt : c.chain-chain.result < length c.args.self.now.heads.items = let n = c.requires.chained.heads in omega arith in
    let next : c.index-next.result.now ≡ linked c.args.self.now first = c.index-next.ensures ∙ get_or_default c.args.self.now.heads.items c.chain-chain.result _ None lt in
    let led = c.set_from.ensures.led in
    let re = c.set_link.ensures.relinked in
    let vacant_from : link_to c.args.self.now key ≡ None = ap from_of vacant in
    let unled : c.index-next.result.now ≢ Some key = λ e. let f = (c.requires.chained.links first key).0 (sym next ∙ e) in cc in
    record {
      comes = record {
        vacant = vacant_from;
        vacant_link = ap next_of vacant;
        first' = re.there;
        after = re.others (After key) (λ i. cc) ∙ (led.forth (After key) ∙ (ap next_of updates.changed ∙ next));
        other_links = λ w h i. re.others w h ∙ (led.forth w ∙ linked_others c.args.self.now (record { entries = c.insert_reserved-key.new.self; heads = c.args.self.now.heads; order = c.args.self.now.order }) key _ updates refl w i);
        new_from = re.back key ∙ (led.others key unled ∙ ap from_of updates.changed);
        next_from = λ k e. re.back k ∙ led.there k (next ∙ e);
        other_from = λ k h i. re.back k ∙ (led.others k (λ e. i (sym next ∙ e)) ∙ ap from_of (updates.others k h));
      };
      heads = c.set_link.ensures.heads ∙ ap (λ (h : _). length h.items) c.set_from.ensures.heads;
      order = search rules;
      binding = re.bindings key ∙ (led.bindings key ∙ ap binding_of updates.changed);
      bindings = λ k h. re.bindings k ∙ (led.bindings k ∙ ap binding_of (updates.others k h));
    }

pub returns-clause-chained : goal.returns-clause-chained
returns-clause-chained c = chained_more c.args.self.now _ c.requires.chained c.insert_reserved-key.result c.chain-chain.result c.args.binding (added c) c.chain-chain.ensures.chain

pub returns-clause-added : goal.returns-clause-added
returns-clause-added c = bindings_more c.args.self.now _ c.requires.chained c.insert_reserved-key.result c.chain-chain.result c.args.binding (added c)
