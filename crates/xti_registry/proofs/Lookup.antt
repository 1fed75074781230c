-- Looking an address up in its chain.
use Rattle.std.proofs.Common.{◌≡◌, ◌≤◌, ◌∙◌, ◌-◌, ℕ, zero, suc, Bool, true, false, ◌&&◌, cond, eqb, List, [], ◌∷◌, length, drop, filter, map, reverse, Option, Some, None, if◌then◌else◌, refl, sym, ap, arith}
use Rattle.std.specs.Str.{bytes_eq}
use Rattle.std.proofs.lemmas.Bool.{eq-eqb}
use Rattle.std.proofs.lemmas.Bool.Decides.{nat_tests}
use Rattle.std.proofs.lemmas.List.{length-reverse, map-append, reverse-append}
use Rattle.std.proofs.lemmas.Slice.Eq.{bytes_eq-Decides}
use Rattle.xti_base.specs.Kinds.{prov_number}
use Rattle.xti_base.specs.declared.kinds.Prov.{Prov}
use Rattle.xti_model.specs.Switch.{is_bound, less}
use Rattle.xti_model.specs.World.{Binding}
use Rattle.xti_registry.specs.Chains.{Leads, keys_in}
use Rattle.xti_registry.specs.Known.{is_asked, is_other, is_there}
use Rattle.xti_registry.specs.Links.{binding_at, bindings_of}
use Rattle.xti_registry.specs.Word.{mixed, word_of, chain_of, binding_chain}
use Rattle.xti_registry.specs.declared.addresses.Addresses.{Addresses}
use Rattle.xti_registry.specs.declared.addresses.Link.{Link}
use Rattle.xti_registry.specs.declared.addresses.Link.TheVariants.{After}
use Rattle.xti_registry.proofs.Keeping.{filter_le}
use Rattle.xti_registry.proofs.Least.{both, both_assoc, both_comm, least_append, least_cons, least_of, one_if}

-- how many keys follow one another from this one on, of so many at most
abbrev pub steps : (Link → Option ℕ) → ℕ → Option ℕ → ℕ
steps link zero o = 0
steps link (suc most) None = 0
steps link (suc most) (Some k) = suc (steps link most (link (After k)))

pub steps_are : (link : Link → Option ℕ) (most : ℕ) (o : Option ℕ) (keys : List ℕ) → Leads link o keys → length keys ≤ most → steps link most o ≡ length keys
steps_are link zero o [] h le = refl
steps_are link zero o (k ∷ keys) h le = absurd (omega arith)
steps_are link (suc most) o [] h le = rw h refl
steps_are link (suc most) o (k ∷ keys) h le = rw h.0 (ap suc (steps_are link most (link (After k)) keys h.1 (omega arith)))

-- addresses that are equal have the same word
pub same_word : (prov : Prov) (address : List ℕ) (b : Binding) → is_bound prov address b ≡ true → word_of b.prov b.address ≡ word_of prov address
same_word prov address b h = by_tests (eqb (prov_number b.prov) (prov_number prov)) (bytes_eq b.address address) refl refl h
  where
    by_tests : (t u : Bool) → eqb (prov_number b.prov) (prov_number prov) ≡ t → bytes_eq b.address address ≡ u → (t && u) ≡ true → word_of b.prov b.address ≡ word_of prov address
    by_tests true true e f k =
        let n : prov_number b.prov ≡ prov_number prov = grind (arith, nat_tests) in
        let a : b.address ≡ address = (bytes_eq-Decides b.address address).0 f in
        ap (λ (m : ℕ). mixed m (drop (length b.address - 8) b.address)) n ∙ ap (word_of prov) a
    by_tests true false e f k = cc
    by_tests false true e f k = cc
    by_tests false false e f k = cc

not_there : (prov : Prov) (address : List ℕ) (listening : Bool) (b : Binding) → is_bound prov address b ≡ false → is_there prov address listening b ≡ false
not_there prov address false b h = h
not_there prov address true b h = rw h refl

not_asked : (prov : Prov) (address : List ℕ) (listening : Bool) (except : Option ℕ) (b : Binding) → is_bound prov address b ≡ false → is_asked prov address listening except b ≡ false
not_asked prov address listening except b h = rw (not_there prov address listening b h) (by_test (is_other except b))
  where
    by_test : (t : Bool) → (t && false) ≡ false
    by_test true = refl
    by_test false = refl

-- what is in another chain isn't asked for
elsewhere_not_asked : (prov : Prov) (address : List ℕ) (listening : Bool) (except : Option ℕ) (b : Binding) → (eqb (binding_chain b) (chain_of (word_of prov address))) ≡ false → is_asked prov address listening except b ≡ false
elsewhere_not_asked prov address listening except b h = not_asked prov address listening except b (by_test (is_bound prov address b) refl)
  where
    by_test : (t : Bool) → is_bound prov address b ≡ t → is_bound prov address b ≡ false
    by_test false e = e
    by_test true e =
        let c : binding_chain b ≡ chain_of (word_of prov address) = ap chain_of (same_word prov address b e) in
        let f = eq-eqb (binding_chain b) (chain_of (word_of prov address)) c in
        cc

-- the least of a chain is that of all
module _ (test : Binding → Bool) (b : ℕ → Binding) where
  least_reversed : (keys : List ℕ) → least_of test (map b (reverse keys)) ≡ least_of test (map b keys)
  least_reversed [] = refl
  least_reversed (k ∷ keys) =
      ap (λ (ks : List ℕ). least_of test (map b ks)) (reverse-append (k ∷ []) keys)
      ∙ (ap (least_of test) (map-append b (reverse keys) (k ∷ []))
      ∙ (least_append test (map b (reverse keys)) (b k ∷ [])
      ∙ (both_comm (least_of test (map b (reverse keys))) (least_of test (b k ∷ []))
      ∙ (ap (both (least_of test (b k ∷ []))) (least_reversed keys) ∙ sym (least_append test (b k ∷ []) (map b keys))))))

  least_filtered : (pick : Binding → Bool) → ((y : Binding) → pick y ≡ false → test y ≡ false) → (keys : List ℕ) → least_of test (map b (filter (λ k. pick (b k)) keys)) ≡ least_of test (map b keys)
  least_filtered pick f [] = refl
  least_filtered pick f (k ∷ keys) = by_pick (pick (b k)) refl (least_filtered pick f keys)
    where
      by_pick : (t : Bool) → pick (b k) ≡ t → least_of test (map b (filter (λ j. pick (b j)) keys)) ≡ least_of test (map b keys) → least_of test (map b (cond t (k ∷ filter (λ j. pick (b j)) keys) (filter (λ j. pick (b j)) keys))) ≡ least_of test (map b (k ∷ keys))
      by_pick true e rest = rw (least_cons test (b k) (map b (filter (λ j. pick (b j)) keys)), rest, ← least_cons test (b k) (map b keys)) refl
      by_pick false e rest = rw (least_cons test (b k) (map b keys), f (b k) e) rest

module _ (a : Addresses) (prov : Prov) (address : List ℕ) (listening : Bool) (except : Option ℕ) where
  pub chain_begins : both None (least_of (is_asked prov address listening except) (map (binding_at a) (reverse (keys_in a (chain_of (word_of prov address)) a.order.items)))) ≡ least_of (is_asked prov address listening except) (bindings_of a)
  chain_begins =
      least_reversed (is_asked prov address listening except) (binding_at a) (keys_in a (chain_of (word_of prov address)) a.order.items)
      ∙ least_filtered (is_asked prov address listening except) (binding_at a) (λ y. eqb (binding_chain y) (chain_of (word_of prov address))) (elsewhere_not_asked prov address listening except) a.order.items

  pub chain_goes_on : (k : ℕ) (keys : List ℕ) (y : Binding) (o : Option ℕ) → binding_at a k ≡ y
      → both o (least_of (is_asked prov address listening except) (map (binding_at a) (k ∷ keys))) ≡ least_of (is_asked prov address listening except) (bindings_of a)
      → both (if is_asked prov address listening except y then less y.fd o else o) (least_of (is_asked prov address listening except) (map (binding_at a) keys)) ≡ least_of (is_asked prov address listening except) (bindings_of a)
  chain_goes_on k keys y o e found =
      by_test (is_asked prov address listening except y) y.fd o (least_of (is_asked prov address listening except) (map (binding_at a) keys))
      ∙ (ap (both o) (sym (least_cons (is_asked prov address listening except) y (map (binding_at a) keys))) ∙ rw e at found)
    where
      by_test : (t : Bool) (fd : ℕ) (o l : Option ℕ) → both (if t then less fd o else o) l ≡ both o (both (one_if t fd) l)
      by_test true fd o l = ap (λ (m : Option ℕ). both m l) (both_comm (Some fd) o) ∙ both_assoc o (Some fd) l
      by_test false fd o l = refl

pub chain_short : (a : Addresses) (c : ℕ) → length (reverse (keys_in a c a.order.items)) ≤ length a.order.items
chain_short a c = let l = filter_le (λ k. eqb (binding_chain (binding_at a k)) c) a.order.items in omega (arith, length-reverse (keys_in a c a.order.items))

pub leads_some : (link : Link → Option ℕ) (o : Option ℕ) (k : ℕ) (keys : List ℕ) → o ≡ Some k → Leads link o keys → (rest : List ℕ) × (keys ≡ k ∷ rest) × Leads link (link (After k)) rest
leads_some link o k [] e h = absurd (cc)
leads_some link o k (j ∷ keys) e h = let s : j ≡ k = (let f = h.0 in cc) in (keys, ap (λ (n : ℕ). n ∷ keys) s, rw s at h.1)

pub leads_none : (link : Link → Option ℕ) (o : Option ℕ) (keys : List ℕ) → o ≡ None → Leads link o keys → keys ≡ []
leads_none link o [] e h = refl
leads_none link o (k ∷ keys) e h = let f = h.0 in absurd (cc)
