use Rattle.std.proofs.Common.{◌≡◌, ◌<◌, ◌∙◌, ◌∷◌, [], None, length, reverse, sym, ap, subst, arith}
use Rattle.std.proofs.lemmas.List.{get_or_default}
use Rattle.std.proofs.lemmas.Nat.{mod_below}
use Rattle.std.specs.Prelude.{option_map}
use Rattle.xti_base.specs.declared.kinds.Fd.{Fd}
use Rattle.slab.specs.Slab.{get}
use Rattle.xti_registry.specs.Chains.{Leads, keys_in}
use Rattle.xti_registry.specs.Links.{binding_of, linked, next_of}
use Rattle.xti_registry.specs.Word.{word_of, chain_of}
use Rattle.xti_registry.specs.declared.addresses.Link.TheVariants.{Head, After}
use Rattle.xti_registry.specs.declared.binding.TheConstants.{CHAINS}
use Rattle.xti_registry.proofs.Chains.{known_link}
use Rattle.xti_registry.proofs.Least.{both_none}
use Rattle.xti_registry.proofs.Lookup.{chain_begins, chain_goes_on, chain_short, leads_none, leads_some, steps_are}
use Rattle.xti_registry.proofs.addresses.Addresses.least_at.Goals as goal

pub loop-at-init : goal.loop-at-init
loop-at-init c =
    let a = c.args.self.now in
    let number : c.chain_of.result ≡ chain_of (word_of c.args.prov c.args.address.now) = c.chain_of.ensures.chain ∙ ap chain_of c.word_of-word.ensures in
    let lt : c.chain_of.result < length a.heads.items = let n = c.requires.heads in let b = c.chain_of.ensures.bound in omega arith in
    let at : c.index-at.result.now ≡ linked a (Head c.chain_of.result) = c.index-at.ensures ∙ get_or_default a.heads.items c.chain_of.result _ None lt in
    let first : c.index-at.result.now ≡ linked a (Head (chain_of (word_of c.args.prov c.args.address.now))) = rw number at at in
    record {
      left = reverse (keys_in a (chain_of (word_of c.args.prov c.args.address.now)) a.order.items);
      link = Head (chain_of (word_of c.args.prov c.args.address.now));
      stands = first;
      leads = subst (λ (o : _). Leads (linked a) o (reverse (keys_in a (chain_of (word_of c.args.prov c.args.address.now)) a.order.items))) (sym first) (c.requires.chains (chain_of (word_of c.args.prov c.args.address.now)) (mod_below (word_of c.args.prov c.args.address.now) CHAINS (omega arith)));
      short = chain_short a (chain_of (word_of c.args.prov c.args.address.now));
      found = chain_begins a c.args.prov c.args.address.now c.args.listening (option_map (λ (fd : Fd). fd.0) c.args.except);
    }

pub index-entry-requires : goal.index-entry-requires
index-entry-requires c =
    let i = c.loop-at.invariant in
    known_link (get c.args.self.now.entries c.in-Some.key) i.link ((c.requires.links i.link c.in-Some.key).0 (sym i.stands ∙ c.in-Some.is))

pub loop-at-smaller : goal.loop-at-smaller
loop-at-smaller c =
    let a = c.args.self.now in
    let i = c.loop-at.invariant in
    let rest = leads_some (linked a) c.loop-at.at c.in-Some.key i.left c.in-Some.is i.leads in
    let next : linked a (After c.in-Some.key) ≡ c.index-entry.result.now.next = ap next_of c.index-entry.ensures in
    let longer : length i.left ≡ length (c.in-Some.key ∷ rest.0) = ap length rest.1 in
    let before = steps_are (linked a) (length a.order.items) c.loop-at.at i.left i.leads i.short in
    let after = steps_are (linked a) (length a.order.items) c.index-entry.result.now.next rest.0 (subst (λ (o : _). Leads (linked a) o rest.0) next rest.2) (let s = i.short in omega arith) in
    rw (before, after) (omega arith)

pub loop-at-preserved : goal.loop-at-preserved
loop-at-preserved c =
    let a = c.args.self.now in
    let i = c.loop-at.invariant in
    let rest = leads_some (linked a) c.loop-at.at c.in-Some.key i.left c.in-Some.is i.leads in
    let next : linked a (After c.in-Some.key) ≡ c.index-entry.result.now.next = ap next_of c.index-entry.ensures in
    let longer : length i.left ≡ length (c.in-Some.key ∷ rest.0) = ap length rest.1 in
    record {
      left = rest.0;
      link = After c.in-Some.key;
      stands = sym next;
      leads = subst (λ (o : _). Leads (linked a) o rest.0) next rest.2;
      short = let s = i.short in omega arith;
      found = rw (c.least_with-least.ensures, c.is_asked-asked.ensures) (chain_goes_on a c.args.prov c.args.address.now c.args.listening (option_map (λ (fd : Fd). fd.0) c.args.except) c.in-Some.key rest.0 c.index-entry.result.now.binding c.loop-at.least (ap binding_of c.index-entry.ensures) (rw rest.1 at i.found));
    }

pub returns : goal.returns
returns c =
    let i = c.loop-at.invariant in
    let none : i.left ≡ [] = leads_none (linked c.args.self.now) c.loop-at.at i.left c.in_default.is i.leads in
    sym (both_none c.loop-at.least) ∙ rw none at i.found
