-- Chains, as an entry comes and as one goes.
use Rattle.std.proofs.Common.{◌≡◌, ◌≢◌, ◌∙◌, ◌<◌, ℕ, Bool, true, false, not, cond, eqb, All, IfSome, IsSome, List, [], ◌∷◌, ◌++◌, Option, Some, None, length, map, filter, reverse, refl, sym, ap, subst, inl, inr, arith}
use Rattle.std.specs.List.{AllByRecursion}
use Rattle.std.proofs.lemmas.Bool.{eq-eqb}
use Rattle.std.proofs.lemmas.Bool.Decides.{nat_tests}
use Rattle.std.proofs.lemmas.List.{append-nil, get_or_past, map-append, reverse-append}
use Rattle.std.proofs.lemmas.List.Elements.{All-filter, All-push, All-weaker, filter-append, filter_passes, recursion_from_All}
use Rattle.slab.specs.Slab.{ContainsKey, Updates, get}
use Rattle.xti_model.specs.World.{Binding}
use Rattle.xti_registry.specs.Chains.{IsChained, Leads, keys_in}
use Rattle.xti_registry.specs.Links.{IsLink, binding_at, binding_of, bindings_of, from_of, link_to, linked, next_of}
use Rattle.xti_registry.specs.Word.{binding_chain}
use Rattle.xti_registry.specs.declared.addresses.Addresses.{Addresses}
use Rattle.xti_registry.specs.declared.addresses.Entry.{Entry}
use Rattle.xti_registry.specs.declared.addresses.Link.{Link}
use Rattle.xti_registry.specs.declared.addresses.Link.TheVariants.{Head, After}
use Rattle.xti_registry.specs.declared.binding.TheConstants.{CHAINS}
use Rattle.xti_registry.proofs.Links.{Comes, Goes, comes_agree, comes_leads, goes_agree, goes_leads, leads_to, link_passed}

-- two tests that agree where they are asked
pub filter_alike : (f g : ℕ → Bool) (keys : List ℕ) → AllByRecursion (λ k. f k ≡ g k) keys → filter f keys ≡ filter g keys
filter_alike f g [] h = refl
filter_alike f g (k ∷ keys) h = rw (h.0, filter_alike f g keys h.1) refl

map_alike : {X : Type 0} (f g : ℕ → X) (keys : List ℕ) → AllByRecursion (λ k. f k ≡ g k) keys → map f keys ≡ map g keys
map_alike f g [] h = refl
map_alike f g (k ∷ keys) h = rw (h.0, map_alike f g keys h.1) refl

-- of those that pass a test, those that pass another
filter_turned : (f p : ℕ → Bool) (keys : List ℕ) → filter f (filter p keys) ≡ filter p (filter f keys)
filter_turned f p [] = refl
filter_turned f p (k ∷ keys) = by_tests (f k) (p k) refl refl (filter_turned f p keys)
  where
    by_tests : (s t : Bool) → f k ≡ s → p k ≡ t → filter f (filter p keys) ≡ filter p (filter f keys) → filter f (cond t (k ∷ filter p keys) (filter p keys)) ≡ filter p (cond s (k ∷ filter f keys) (filter f keys))
    by_tests true true e h rest = rw (e, h, rest) refl
    by_tests true false e h rest = rw (h, rest) refl
    by_tests false true e h rest = rw (e, rest) refl
    by_tests false false e h rest = rest

reverse_filter : (p : ℕ → Bool) (keys : List ℕ) → reverse (filter p keys) ≡ filter p (reverse keys)
reverse_filter p [] = refl
reverse_filter p (k ∷ keys) = rw (reverse-append (k ∷ []) keys, filter-append p (reverse keys) (k ∷ []), ← reverse_filter p keys) (by_test (p k))
  where
    by_test : (t : Bool) → reverse (cond t (k ∷ filter p keys) (filter p keys)) ≡ reverse (filter p keys) ++ cond t (k ∷ []) []
    by_test true = reverse-append (k ∷ []) (filter p keys)
    by_test false = sym (append-nil (reverse (filter p keys)))

-- an entry under a key says what leads to it
pub link_known : (o : Option Entry) → IsSome o → (w : Link) × (from_of o ≡ Some w)
link_known None h = absurd (cc)
link_known (Some e) h = (e.from, refl)

pub known_link : (o : Option Entry) (w : Link) → from_of o ≡ Some w → IsSome o
known_link None w h = absurd (cc)
known_link (Some e) w h = refl

-- what holds of a key where there is one
pub if_key : (o : Option ℕ) (P : ℕ → Type 0) → ((k : ℕ) → o ≡ Some k → P k) → IfSome o P
if_key None P h = tt
if_key (Some k) P h = h k refl

-- an entry is put in or taken out: other links stay
pub linked_others : (a b : Addresses) (key : ℕ) (slot : Option Entry) → Updates a.entries b.entries key slot → b.heads ≡ a.heads → (w : Link) → w ≢ After key → linked b w ≡ linked a w
linked_others a b key slot u h (Head c) other = rw h refl
linked_others a b key slot u h (After k) other = ap next_of (u.others k (λ e. other (ap After e)))

-- a binding comes, the last in the order and the first of its chain
pub record Added (a b : Addresses) (key chain : ℕ) (added : Binding) : Type 0 where
  pub comes : Comes (linked a) (linked b) (link_to a) (link_to b) (Head chain) key
  pub heads : length b.heads.items ≡ length a.heads.items
  pub order : b.order.items ≡ a.order.items ++ key ∷ []
  pub binding : binding_at b key ≡ added
  pub bindings : (k : ℕ) → k ≢ key → binding_at b k ≡ binding_at a k

-- the entry under a key goes
pub record Gone (a b : Addresses) (key : ℕ) (before : Link) : Type 0 where
  pub goes : Goes (linked a) (linked b) (link_to a) (link_to b) before key
  pub heads : length b.heads.items ≡ length a.heads.items
  pub order : b.order.items ≡ filter (λ k. not (eqb k key)) a.order.items
  pub bindings : (k : ℕ) → k ≢ key → binding_at b k ≡ binding_at a k

module _ (a b : Addresses) (chained : IsChained a) where
  module _ (key chain : ℕ) (added : Binding) (x : Added a b key chain added) where
    other : (k : ℕ) → ContainsKey a.entries k → k ≢ key
    other k h e =
        let l = link_known (get a.entries k) h in
        let v = x.comes.vacant in
        let f : link_to a k ≡ Some l.0 = l.1 in
        cc

    stays : (k : ℕ) → ContainsKey a.entries k → ContainsKey b.entries k
    stays k h = elim (leads_to (linked a (Head chain)) k) [
      | inl e ↦ known_link (get b.entries k) (After key) (x.comes.next_from k e)
      | inr e ↦ (let l = link_known (get a.entries k) h in known_link (get b.entries k) l.0 (x.comes.other_from k (other k h) e ∙ l.1))
    ]

    pub bindings_more : bindings_of b ≡ bindings_of a ++ added ∷ []
    bindings_more =
        let same : map (binding_at b) a.order.items ≡ map (binding_at a) a.order.items = map_alike (binding_at b) (binding_at a) a.order.items (recursion_from_All (λ k. binding_at b k ≡ binding_at a k) a.order.items (All-weaker (ContainsKey a.entries) (λ k. binding_at b k ≡ binding_at a k) (λ k h. x.bindings k (other k h)) a.order.items chained.known)) in
        ap (map (binding_at b)) x.order ∙ (map-append (binding_at b) a.order.items (key ∷ []) ∙ rw (same, x.binding) refl)

    keys_more : (c : ℕ) → keys_in b c b.order.items ≡ keys_in a c a.order.items ++ cond (eqb (binding_chain added) c) (key ∷ []) []
    keys_more c =
        let same : keys_in b c a.order.items ≡ keys_in a c a.order.items = filter_alike _ _ a.order.items (recursion_from_All (λ k. eqb (binding_chain (binding_at b k)) c ≡ eqb (binding_chain (binding_at a k)) c) a.order.items (All-weaker (ContainsKey a.entries) _ (λ k h. ap (λ (y : Binding). eqb (binding_chain y) c) (x.bindings k (other k h))) a.order.items chained.known)) in
        ap (keys_in b c) x.order ∙ (filter-append (λ k. eqb (binding_chain (binding_at b k)) c) a.order.items (key ∷ []) ∙ rw (same, x.binding) refl)

    pub chained_more : chain ≡ binding_chain added → IsChained b
    chained_more here = record {
      heads = x.heads ∙ chained.heads;
      known = subst (All (ContainsKey b.entries)) (sym x.order) (All-push (ContainsKey b.entries) a.order.items key (All-weaker (ContainsKey a.entries) (ContainsKey b.entries) stays a.order.items chained.known) (known_link (get b.entries key) (Head chain) x.comes.new_from));
      links = comes_agree (linked a) (linked b) (link_to a) (link_to b) chained.links (Head chain) key x.comes;
      chains = λ c lt. rw (keys_more c) (by_test c (eqb (binding_chain added) c) refl lt);
    }
      where
        by_test : (c : ℕ) (t : Bool) → eqb (binding_chain added) c ≡ t → c < CHAINS → Leads (linked b) (linked b (Head c)) (reverse (keys_in a c a.order.items ++ cond t (key ∷ []) []))
        by_test c true e lt =
            let same : binding_chain added ≡ c = grind (arith, nat_tests) in
            let f : linked b (Head c) ≡ Some key = rw (← same, ← here) x.comes.first' in
            let n : linked b (After key) ≡ linked a (Head c) = rw (← same, ← here) x.comes.after in
            let leads : linked b (After key) ≡ linked a (Head c) → Leads (linked b) (linked a (Head c)) (reverse (keys_in a c a.order.items)) → Leads (linked b) (linked b (After key)) (reverse (keys_in a c a.order.items)) = λ i h. rw i h in
            subst (Leads (linked b) (linked b (Head c))) (sym (reverse-append (keys_in a c a.order.items) (key ∷ []))) (f, leads n (comes_leads (linked a) (linked b) (link_to a) (link_to b) chained.links (Head chain) key x.comes (λ k i. cc) (Head c) _ (chained.chains c lt)))
        by_test c false e lt =
            let apart : c ≢ chain = λ i. let t = eq-eqb (binding_chain added) c (sym (i ∙ here)) in cc in
            let f : linked b (Head c) ≡ linked a (Head c) = x.comes.other_links (Head c) (λ i. apart (cc)) (λ i. cc) in
            rw (append-nil (keys_in a c a.order.items), f) (comes_leads (linked a) (linked b) (link_to a) (link_to b) chained.links (Head chain) key x.comes (λ k i. cc) (Head c) _ (chained.chains c lt))

  module _ (key : ℕ) (before : Link) (x : Gone a b key before) where
    left : (k : ℕ) → not (eqb k key) ≡ true → k ≢ key
    left k h e = let t = eq-eqb k key e in cc

    still : (k : ℕ) → ContainsKey a.entries k → k ≢ key → ContainsKey b.entries k
    still k h apart = elim (leads_to (linked a (After key)) k) [
      | inl e ↦ known_link (get b.entries k) before (x.goes.next_from k apart e)
      | inr e ↦ (let l = link_known (get a.entries k) h in known_link (get b.entries k) l.0 (x.goes.other_from k apart e ∙ l.1))
    ]

    alike : {X : Type 0} (f : Binding → X) → AllByRecursion (λ k. f (binding_at b k) ≡ f (binding_at a k)) (filter (λ k. not (eqb k key)) a.order.items)
    alike f = recursion_from_All _ _ (All-weaker (λ k. not (eqb k key) ≡ true) (λ k. f (binding_at b k) ≡ f (binding_at a k)) (λ k h. ap f (x.bindings k (left k h))) _ (filter_passes (λ k. not (eqb k key)) a.order.items))

    keys_less : (c : ℕ) → reverse (keys_in b c b.order.items) ≡ filter (λ k. not (eqb k key)) (reverse (keys_in a c a.order.items))
    keys_less c =
        let same : keys_in b c b.order.items ≡ keys_in a c (filter (λ k. not (eqb k key)) a.order.items) = ap (keys_in b c) x.order ∙ filter_alike _ _ _ (alike (λ y. eqb (binding_chain y) c)) in
        let turned = filter_turned (λ k. eqb (binding_chain (binding_at a k)) c) (λ k. not (eqb k key)) a.order.items in
        ap reverse (same ∙ turned) ∙ reverse_filter (λ k. not (eqb k key)) (keys_in a c a.order.items)

    pub chained_less : IsChained b
    chained_less = record {
      heads = x.heads ∙ chained.heads;
      known = subst (All (ContainsKey b.entries)) (sym x.order) (λ i d lt. still _ (All-filter (λ k. not (eqb k key)) (ContainsKey a.entries) a.order.items chained.known i d lt) (left _ (filter_passes (λ k. not (eqb k key)) a.order.items i d lt)));
      links = goes_agree (linked a) (linked b) (link_to a) (link_to b) chained.links before key x.goes;
      chains = λ c lt. rw (keys_less c, link_passed (linked a) (linked b) (link_to a) (link_to b) chained.links before key x.goes (Head c) (λ i. cc)) (goes_leads (linked a) (linked b) (link_to a) (link_to b) chained.links before key x.goes _ _ (chained.chains c lt));
    }

leads_alike : (link link' : Link → Option ℕ) → ((w : Link) → link' w ≡ link w) → (o : Option ℕ) (keys : List ℕ) → Leads link o keys → Leads link' o keys
leads_alike link link' h o [] l = l
leads_alike link link' h o (k ∷ keys) l = (l.0, rw (h (After k)) (leads_alike link link' h (link (After k)) keys l.1))

-- the same entries, heads and order
pub chained_same : (a b : Addresses) → ((k : ℕ) → get b.entries k ≡ get a.entries k) → b.heads ≡ a.heads → b.order.items ≡ a.order.items → IsChained a → IsChained b
chained_same a b entries heads order x = record {
  heads = ap (λ (h : _). length h.items) heads ∙ x.heads;
  known = subst (All (ContainsKey b.entries)) (sym order) (All-weaker (ContainsKey a.entries) (ContainsKey b.entries) (λ k h. subst IsSome (sym (entries k)) h) a.order.items x.known);
  links = λ w k. (λ e. ap from_of (entries k) ∙ (x.links w k).0 (sym (link w) ∙ e), λ e. link w ∙ (x.links w k).1 (sym (ap from_of (entries k)) ∙ e));
  chains = λ c lt. subst (Leads (linked b) (linked b (Head c))) (ap reverse (sym (keys c))) (subst (λ (o : Option ℕ). Leads (linked b) o (reverse (keys_in a c a.order.items))) (sym (link (Head c))) (leads_alike (linked a) (linked b) link _ _ (x.chains c lt)));
}
  where
    link : (w : Link) → linked b w ≡ linked a w
    link (Head c) = rw heads refl
    link (After k) = ap next_of (entries k)

    keys : (c : ℕ) → keys_in b c b.order.items ≡ keys_in a c a.order.items
    keys c = ap (keys_in b c) order ∙ filter_alike _ _ a.order.items (recursion_from_All (λ k. eqb (binding_chain (binding_at b k)) c ≡ eqb (binding_chain (binding_at a k)) c) a.order.items (λ i d lt. ap (λ (o : Option Entry). eqb (binding_chain (binding_of o)) c) (entries _)))

-- a link that leads to a key is one of the table's
pub link_there : (a : Addresses) (w : Link) (k : ℕ) → linked a w ≡ Some k → IsLink a w
link_there a (Head c) k e = grind (arith, get_or_past)
link_there a (After j) k e = by_entry (get a.entries j) e
  where
    by_entry : (o : Option Entry) → next_of o ≡ Some k → IsSome o
    by_entry None h = absurd (cc)
    by_entry (Some x) h = refl
