-- Which keys are a descriptor's, and what is left without them.
use Rattle.std.proofs.Common.{◌≡◌, ◌≢◌, ◌≤◌, ◌<◌, ◌∙◌, ℕ, zero, suc, ◌+◌, Bool, true, false, not, cond, eqb, ltb, All, Contains, IsSome, List, [], ◌∷◌, length, get_or, filter, map, Option, Some, None, refl, sym, ap, arith}
use Rattle.std.specs.List.{position, position_or_len}
use Rattle.std.proofs.lemmas.Bool.{eq-eqb}
use Rattle.std.proofs.lemmas.Bool.Decides.{nat_tests}
use Rattle.std.proofs.lemmas.List.Elements.{All-weaker, recursion_from_All}
use Rattle.slab.specs.Slab.{ContainsKey, get}
use Rattle.xti_model.specs.World.{Binding}
use Rattle.xti_registry.specs.Links.{binding_at, binding_of, bindings_of, has_descriptor, is_of}
use Rattle.xti_registry.specs.declared.addresses.Addresses.{Addresses}
use Rattle.xti_registry.specs.declared.addresses.Entry.{Entry}
use Rattle.xti_registry.proofs.Chains.{filter_alike}
use Rattle.xti_registry.proofs.Keeping.{filter_le}

-- where no key passes a test, all are left
module _ {X : Type 0} (p : X → Bool) where
  none_pass : (xs : List X) → length xs ≤ position_or_len p xs → filter (λ x. not (p x)) xs ≡ xs
  none_pass [] h = refl
  none_pass (x ∷ xs) h = by_test (p x) refl (λ e. none_pass xs (let k : length (x ∷ xs) ≤ 1 + position_or_len p xs = rw e at h in omega arith)) h
    where
      by_test : (t : Bool) → p x ≡ t → (p x ≡ false → filter (λ y. not (p y)) xs ≡ xs) → suc (length xs) ≤ cond (not t) (1 + position_or_len p xs) 0 → cond (not t) (x ∷ filter (λ y. not (p y)) xs) (filter (λ y. not (p y)) xs) ≡ x ∷ xs
      by_test true e rest k = absurd (omega arith)
      by_test false e rest k = ap (λ (ys : List X). x ∷ ys) (rest e)

  none_false : (t : Bool) (n : ℕ) → cond t (Some n) None ≡ None → t ≡ false
  none_false true n e = cc
  none_false false n e = refl

  pub found_none : (xs : List X) → position p xs ≡ None → filter (λ x. not (p x)) xs ≡ xs
  found_none xs e =
      let t = none_false (ltb (position_or_len p xs) (length xs)) (position_or_len p xs) e in
      none_pass xs (grind (arith, nat_tests))

-- a key that is listed goes, so fewer are left
pub fewer : (key : ℕ) (keys : List ℕ) → Contains keys key → length (filter (λ k. not (eqb k key)) keys) < length keys
fewer key keys h = at keys h.0 h.1 h.2
  where
    at : (ks : List ℕ) (i : ℕ) → i < length ks → get_or ks i key ≡ key → length (filter (λ k. not (eqb k key)) ks) < length ks
    at [] i lt e = absurd (omega arith)
    at (k ∷ ks) zero lt e = let t = eq-eqb k key e in let l = filter_le (λ j. not (eqb j key)) ks in rw t (omega arith)
    at (k ∷ ks) (suc i) lt e = by_test (eqb k key) (at ks i (omega arith) e)
      where
        by_test : (t : Bool) → length (filter (λ j. not (eqb j key)) ks) < length ks → length (cond (not t) (k ∷ filter (λ j. not (eqb j key)) ks) (filter (λ j. not (eqb j key)) ks)) < suc (length ks)
        by_test true l = omega arith
        by_test false l = omega arith

-- one that doesn't pass may be taken out first
pub filter_gone : (test : Binding → Bool) (f g : ℕ → Binding) (key : ℕ) → test (g key) ≡ false → ((k : ℕ) → k ≢ key → f k ≡ g k) → (keys : List ℕ) → filter test (map f (filter (λ k. not (eqb k key)) keys)) ≡ filter test (map g keys)
filter_gone test f g key h same [] = refl
filter_gone test f g key h same (k ∷ keys) = by_test (eqb k key) refl (filter_gone test f g key h same keys)
  where
    by_test : (t : Bool) → eqb k key ≡ t → filter test (map f (filter (λ j. not (eqb j key)) keys)) ≡ filter test (map g keys) → filter test (map f (cond (not t) (k ∷ filter (λ j. not (eqb j key)) keys) (filter (λ j. not (eqb j key)) keys))) ≡ filter test (map g (k ∷ keys))
    by_test true e rest = let s : k ≡ key = grind (arith, nat_tests) in rw (s, h) rest
    by_test false e rest = let d : k ≢ key = λ i. let t = eq-eqb k key i in cc in rw (same k d, rest) refl

filter_mapped : (test : Binding → Bool) (f : ℕ → Binding) (keys : List ℕ) → filter test (map f keys) ≡ map f (filter (λ k. test (f k)) keys)
filter_mapped test f [] = refl
filter_mapped test f (k ∷ keys) = by_test (test (f k)) (filter_mapped test f keys)
  where
    by_test : (t : Bool) → filter test (map f keys) ≡ map f (filter (λ j. test (f j)) keys) → cond t (f k ∷ filter test (map f keys)) (filter test (map f keys)) ≡ map f (cond t (k ∷ filter (λ j. test (f j)) keys) (filter (λ j. test (f j)) keys))
    by_test true rest = ap (λ (xs : List Binding). f k ∷ xs) rest
    by_test false rest = rest

pub of_known : (fd : ℕ) (o : Option Entry) → has_descriptor fd o ≡ true → IsSome o
of_known fd None h = absurd (cc)
of_known fd (Some e) h = refl

of_binding : (fd : ℕ) (o : Option Entry) → IsSome o → has_descriptor fd o ≡ eqb (binding_of o).fd fd
of_binding fd None h = absurd (cc)
of_binding fd (Some e) h = refl

pub not_left : (fd : ℕ) (o : Option Entry) → has_descriptor fd o ≡ true → not (eqb (binding_of o).fd fd) ≡ false
not_left fd o h = let b = of_binding fd o (of_known fd o h) in ap not (sym b ∙ h)

-- where no key is the descriptor's, no binding is
pub none_left : (a : Addresses) (fd : ℕ) → All (ContainsKey a.entries) a.order.items → filter (λ k. not (is_of a fd k)) a.order.items ≡ a.order.items → filter (λ (b : Binding). not (eqb b.fd fd)) (bindings_of a) ≡ bindings_of a
none_left a fd known none =
    let same = filter_alike (λ k. not (is_of a fd k)) (λ k. not (eqb (binding_at a k).fd fd)) a.order.items (recursion_from_All (λ k. not (is_of a fd k) ≡ not (eqb (binding_at a k).fd fd)) a.order.items (All-weaker (ContainsKey a.entries) _ (λ k h. ap not (of_binding fd (get a.entries k) h)) a.order.items known)) in
    filter_mapped (λ (b : Binding). not (eqb b.fd fd)) (binding_at a) a.order.items ∙ ap (map (binding_at a)) (sym same ∙ none)
