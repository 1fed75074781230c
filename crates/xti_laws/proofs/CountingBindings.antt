-- How many bindings there are, and that the provider's choice of an address is free and short.
use Rattle.std.proofs.Common.{ℕ, zero, suc, Bool, true, false, List, [], ◌∷◌, ◌+◌, ◌<◌, ◌≤◌, ◌≡◌, ◌≢◌, ◌^◌, refl, sym, ap, ◌∙◌, subst, eqb, not, filter, length, ◌&&◌, Option, Some, None, arith}
use Rattle.std.specs.Prelude.{nat_lt, is_some}
use Rattle.std.specs.Fmt.{decimal}
use Rattle.std.specs.Str.{bytes_eq}
use Rattle.std.proofs.lemmas.Bool.{eqb-true, eqb-false, ltb-true, ltb-false, lt-ltb, le-ltb, false≢true}
use Rattle.std.proofs.lemmas.Fmt.{decimal_injective, length-decimal-le}
use Rattle.std.proofs.lemmas.Slice.Eq.{bytes_eq-Decides}
use Rattle.std.proofs.lemmas.List.Filters.{length-filter_both}
use Rattle.xti_base.specs.Kinds.{same_prov}
use Rattle.xti_base.specs.declared.kinds.Prov.{Prov}
use Rattle.xti_model.specs.declared.profile.Providers.{Providers}
use Rattle.xti_model.specs.Endpoint.{Endpoint}
use Rattle.xti_model.specs.World.{World, Numbered, Cell, Switch, Binding, endpoint_cell, switch_cell, place_of, the_switch, cell_at, descriptor, places}
use Rattle.xti_model.specs.Switch.{bound, is_bound, numbered_address, free_address}
use Rattle.xti_model.specs.Sound.{ThereAgrees, CellAgrees, Agreement, bindings_at, binding_of, binding_to}
use Rattle.xti_laws.proofs.BindingFilters.{filter-within, none-unbound}
use Rattle.xti_model.proofs.PlaceNumbers.{below, most-places}
use Rattle.xti_base.specs.declared.limits.TheConstants.{MOST_PLACES}

-- Each place has at most one binding, so there are at most as many as places.

binding-one : (fd : ℕ) (e : Endpoint) (o : Option (List ℕ)) → length (binding_to fd e o) ≤ 1
binding-one fd e None = omega arith
binding-one fd e (Some address) = omega arith

body-one : (fd : ℕ) (body : Option Endpoint) → length (binding_of fd body) ≤ 1
body-one fd None = omega arith
body-one fd (Some e) = binding-one fd e e.address

there-one : (p : Providers) (s : Switch) (m : ℕ) (o : Option Numbered) → ThereAgrees p s m o → length (bindings_at p s m) ≤ 1
there-one p s m None a = absurd a
there-one p s m (Some c) a = go c.cell a
  where
    go : (x : Cell) → CellAgrees p s m x → length (bindings_at p s m) ≤ 1
    go (endpoint_cell g body) b = subst (λ z. length z ≤ 1) (sym b.bindings_known) (body-one (descriptor p g m) body)
    go (switch_cell other) b = absurd b

one-more : (p : Providers) (k : ℕ) (bs : List Binding) → length (filter (λ b. nat_lt (place_of p b.fd) (suc k)) bs) ≡ length (filter (λ b. nat_lt (place_of p b.fd) k) bs) + length (filter (λ b. eqb (place_of p b.fd) k) bs)
one-more p k [] = refl
one-more p k (b ∷ bs) = go (nat_lt (place_of p b.fd) k) refl (eqb (place_of p b.fd) k) refl (one-more p k bs)
  where
    go : (l : Bool) → nat_lt (place_of p b.fd) k ≡ l → (d : Bool) → eqb (place_of p b.fd) k ≡ d
        → length (filter (λ b. nat_lt (place_of p b.fd) (suc k)) bs) ≡ length (filter (λ b. nat_lt (place_of p b.fd) k) bs) + length (filter (λ b. eqb (place_of p b.fd) k) bs)
        → length (filter (λ b. nat_lt (place_of p b.fd) (suc k)) (b ∷ bs)) ≡ length (filter (λ b. nat_lt (place_of p b.fd) k) (b ∷ bs)) + length (filter (λ b. eqb (place_of p b.fd) k) (b ∷ bs))
    go true i true j ih = absurd (omega (arith, ltb-true (place_of p b.fd) k i, eqb-true (place_of p b.fd) k j))
    go true i false j ih =
        let h : nat_lt (place_of p b.fd) (suc k) ≡ true = lt-ltb (place_of p b.fd) (suc k) (omega (arith, ltb-true (place_of p b.fd) k i)) in
        simp (h, i, j) (omega (arith, ih))
    go false i true j ih =
        let h : nat_lt (place_of p b.fd) (suc k) ≡ true = lt-ltb (place_of p b.fd) (suc k) (omega (arith, eqb-true (place_of p b.fd) k j)) in
        simp (h, i, j) (omega (arith, ih))
    go false i false j ih =
        let n : place_of p b.fd ≢ k = eqb-false (place_of p b.fd) k j in
        let h : nat_lt (place_of p b.fd) (suc k) ≡ false = le-ltb (place_of p b.fd) (suc k) (omega (arith, ltb-false (place_of p b.fd) k i, n)) in
        simp (h, i, j) ih

few-below : (p : Providers) (bs : List Binding) (k : ℕ) → ((m : ℕ) → m < k → length (filter (λ b. eqb (place_of p b.fd) m) bs) ≤ 1) → length (filter (λ b. nat_lt (place_of p b.fd) k) bs) ≤ k
few-below p bs zero h = none bs
  where
    none : (cs : List Binding) → length (filter (λ b. nat_lt (place_of p b.fd) zero) cs) ≤ 0
    none [] = omega arith
    none (c ∷ cs) = simp (le-ltb (place_of p c.fd) zero (omega arith)) (none cs)
few-below p bs (suc k) h = omega (arith, one-more p k bs, h k (omega arith), few-below p bs k (λ m i. h m (omega (arith, i))))

all-below : (p : Providers) (bs : List Binding) → filter (λ b. nat_lt (place_of p b.fd) (places p)) bs ≡ bs
all-below p [] = refl
all-below p (b ∷ bs) = simp (lt-ltb (place_of p b.fd) (places p) (below p b.fd), all-below p bs) refl

pub few-bindings : (p : Providers) (w : World) → Agreement p w → length (the_switch p w).bindings ≤ places p
few-bindings p w h = subst (λ z. length z ≤ places p) (all-below p (the_switch p w).bindings) (few-below p (the_switch p w).bindings (places p) (λ m i. there-one p (the_switch p w) m (cell_at w m) (h.each_agrees m i)))

pub few-in-either : (p : Providers) (w : World) → Agreement p w → length (the_switch p w).bindings ≤ MOST_PLACES
few-in-either p w h = omega (arith, few-bindings p w h, most-places p)

-- So many different addresses that are bound are those of so many bindings.

other-address : (prov : Prov) (i n : ℕ) → i < 2 ^ 64 → n < 2 ^ 64 → n < i → (b : Binding) → is_bound prov (numbered_address i) b ≡ true → not (is_bound prov (numbered_address n) b) ≡ true
other-address prov i n u v l b h = go (is_bound prov (numbered_address n) b) refl
  where
    second : (c d : Bool) → (c && d) ≡ true → d ≡ true
    second true d k = k
    second false d k = absurd (false≢true k)

    tails : (xs ys : List ℕ) → 35 ∷ xs ≡ 35 ∷ ys → xs ≡ ys
    tails xs ys k = cc

    same : is_bound prov (numbered_address n) b ≡ true → i ≡ n
    same k = decimal_injective i n u v (tails (decimal i) (decimal n) (sym ((bytes_eq-Decides b.address (numbered_address i)).0 (second (same_prov b.prov prov) (bytes_eq b.address (numbered_address i)) h)) ∙ (bytes_eq-Decides b.address (numbered_address n)).0 (second (same_prov b.prov prov) (bytes_eq b.address (numbered_address n)) k)))

    go : (c : Bool) → is_bound prov (numbered_address n) b ≡ c → not c ≡ true
    go true k = absurd (omega (arith, same k, l))
    go false k = refl

bound-enough : (prov : Prov) (k n : ℕ) (bs : List Binding) → n + k < 2 ^ 64 → ((i : ℕ) → n ≤ i → i < n + k → 0 < length (filter (is_bound prov (numbered_address i)) bs)) → k ≤ length bs
bound-enough prov zero n bs u h = omega arith
bound-enough prov (suc k) n bs u h =
    let rest : k ≤ length (filter (λ b. not (is_bound prov (numbered_address n) b)) bs) = bound-enough prov k (n + 1) (filter (λ b. not (is_bound prov (numbered_address n) b)) bs) (omega (arith, u))
    (λ i l m. subst (λ z. 0 < length z) (sym (filter-within (is_bound prov (numbered_address i)) (λ b. not (is_bound prov (numbered_address n) b)) (other-address prov i n (omega (arith, u, m)) (omega (arith, u)) (omega (arith, l))) bs)) (h i (omega (arith, l)) (omega (arith, m)))) in
    omega (arith, rest, h n (omega arith) (omega arith), length-filter_both (is_bound prov (numbered_address n)) (λ b. not (is_bound prov (numbered_address n) b)) (λ b. refl) bs)

-- what the search for a free address finds
record Found (s : Switch) (prov : Prov) (n more : ℕ) (address : List ℕ) : Type 0 where
  number : ℕ
  is_numbered : address ≡ numbered_address number
  not_before : n ≤ number
  not_behind : number ≤ n + more
  taken_before : (i : ℕ) → n ≤ i → i < number → is_some (bound s prov (numbered_address i)) ≡ true
  is_free : number < n + more → is_some (bound s prov address) ≡ false

found : (s : Switch) (prov : Prov) (n more : ℕ) → Found s prov n more (free_address s prov n more)
found s prov n zero = record { number = n; is_numbered = refl; not_before = omega arith; not_behind = omega arith; taken_before = λ i l m. absurd (omega (arith, l, m)); is_free = λ l. absurd (omega (arith, l)) }
found s prov n (suc more) = go (is_some (bound s prov (numbered_address n))) refl (found s prov (n + 1) more)
  where
    go : (b : Bool) → is_some (bound s prov (numbered_address n)) ≡ b → Found s prov (n + 1) more (free_address s prov (n + 1) more) → Found s prov n (suc more) (elim b [ true ↦ free_address s prov (n + 1) more | false ↦ numbered_address n ])
    go false j f = record { number = n; is_numbered = refl; not_before = omega arith; not_behind = omega arith; taken_before = λ i l m. absurd (omega (arith, l, m)); is_free = λ l. j }
    go true j f = record {
      number = f.number;
      is_numbered = f.is_numbered;
      not_before = omega (arith, f.not_before);
      not_behind = omega (arith, f.not_behind);
      taken_before = λ i l m. before i (eqb i n) refl l m;
      is_free = λ l. f.is_free (omega (arith, l));
    }
      where
        before : (i : ℕ) (c : Bool) → eqb i n ≡ c → n ≤ i → i < f.number → is_some (bound s prov (numbered_address i)) ≡ true
        before i true k l m = ap (λ z. is_some (bound s prov (numbered_address z))) (eqb-true i n k) ∙ j
        before i false k l m =
            let d : i ≢ n = eqb-false i n k in
            f.taken_before i (omega (arith, l, d)) m

some-taken : (s : Switch) (prov : Prov) (address : List ℕ) → is_some (bound s prov address) ≡ true → 0 < length (filter (is_bound prov address) s.bindings)
some-taken s prov address h = go (filter (is_bound prov address) s.bindings) refl
  where
    go : (bs : List Binding) → filter (is_bound prov address) s.bindings ≡ bs → 0 < length bs
    go [] i = absurd (false≢true (sym (ap is_some (none-unbound s prov address i)) ∙ h))
    go (b ∷ bs) i = omega arith

-- with few bindings the choice is bound to nobody
pub chosen-free : (s : Switch) (prov : Prov) → length s.bindings ≤ MOST_PLACES → bound s prov (free_address s prov 0 (length s.bindings)) ≡ None
chosen-free s prov l = go (bound s prov (free_address s prov 0 (length s.bindings))) refl (found s prov 0 (length s.bindings))
  where
    full : (f : Found s prov 0 (length s.bindings) (free_address s prov 0 (length s.bindings))) → is_some (bound s prov (free_address s prov 0 (length s.bindings))) ≡ true → (b : Bool) → nat_lt f.number (length s.bindings) ≡ b → ⊥
    full f t true i = false≢true (sym (f.is_free (omega (arith, ltb-true f.number (length s.bindings) i))) ∙ t)
    full f t false i =
        let e : f.number ≡ length s.bindings = omega (arith, ltb-false f.number (length s.bindings) i, f.not_behind) in
        let all = λ (i : ℕ) (c : Bool) (k : eqb i f.number ≡ c). elim c as (λ d. eqb i f.number ≡ d → i < 0 + suc (length s.bindings) → 0 < length (filter (is_bound prov (numbered_address i)) s.bindings)) [
          | true ↦ λ j m. some-taken s prov (numbered_address i) (ap (λ z. is_some (bound s prov z)) (ap numbered_address (eqb-true i f.number j) ∙ sym f.is_numbered) ∙ t)
          | false ↦ λ j m. some-taken s prov (numbered_address i) (f.taken_before i (omega arith) (omega (arith, m, e, eqb-false i f.number j)))
        ] k in
        let more : suc (length s.bindings) ≤ length s.bindings = bound-enough prov (suc (length s.bindings)) 0 s.bindings (omega (arith, l)) (λ i a m. all i (eqb i f.number) refl m) in
        omega (arith, more)

    go : (o : Option ℕ) → bound s prov (free_address s prov 0 (length s.bindings)) ≡ o → Found s prov 0 (length s.bindings) (free_address s prov 0 (length s.bindings)) → o ≡ None
    go None h f = refl
    go (Some n) h f = absurd (full f (ap is_some h) (nat_lt f.number (length s.bindings)) refl)

-- and has at most four bytes
pub chosen-short : (s : Switch) (prov : Prov) → length s.bindings ≤ MOST_PLACES → length (free_address s prov 0 (length s.bindings)) ≤ 4
chosen-short s prov l = go (found s prov 0 (length s.bindings))
  where
    go : Found s prov 0 (length s.bindings) (free_address s prov 0 (length s.bindings)) → length (free_address s prov 0 (length s.bindings)) ≤ 4
    go f = subst (λ z. length z ≤ 4) (sym f.is_numbered) (omega (arith, length-decimal-le 3 f.number (omega arith) (omega (arith, f.not_behind, l)) (omega (arith, f.not_behind, l))))
