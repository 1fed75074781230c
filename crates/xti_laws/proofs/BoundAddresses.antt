-- Who is bound to an address is open.
use Rattle.std.proofs.Common.{ℕ, Bool, true, false, List, [], ◌∷◌, ◌≡◌, ◌<◌, ◌⊎◌, inl, inr, refl, sym, ap, ◌∙◌, subst, eqb, cond, not, map, filter, length, Option, Some, None, arith}
use Rattle.std.specs.Prelude.{option_and_then, nat_le, nat_lt, min}
use Rattle.std.specs.Str.{bytes_eq}
use Rattle.std.proofs.lemmas.Bool.{and_parts, eqb-true, eq-eqb, ltb-true, leb-true, leb-false, false≢true}
use Rattle.std.proofs.lemmas.Slice.Eq.{bytes_eq-Decides}
use Rattle.xti_base.specs.Kinds.{same_prov}
use Rattle.xti_base.specs.declared.kinds.Prov.{Prov}
use Rattle.xti_base.specs.declared.kinds.Prov.TheVariants.{Ticots, Ticotsord, Ticlts, Other}
use Rattle.xti_model.specs.declared.profile.Providers.{Providers}
use Rattle.xti_model.specs.Endpoint.{Endpoint}
use Rattle.xti_model.specs.World.{World, Numbered, Cell, Switch, Binding, endpoint_cell, switch_cell, endpoint, endpoint_in, cell_at, the_switch, place_of, generation_of, descriptor, places}
use Rattle.xti_model.specs.Switch.{bound, descriptors, is_bound, is_listening, listener, least, less}
use Rattle.xti_model.specs.Sound.{ThereAgrees, CellAgrees, bindings_at, binding_of, binding_to}
use Rattle.xti_laws.proofs.AcceptEnds.{same-prov}
use Rattle.xti_laws.proofs.StepWays.{none-is}
use Rattle.xti_laws.specs.Invariant.{SoundWorld}
use Rattle.xti_laws.specs.SoundLaws.{OpenAndBound, OpenAndListening}
use Rattle.xti_laws.proofs.BindingFilters.{filter-within, filter-swap}
use Rattle.xti_model.proofs.PlaceNumbers.{below}
use Rattle.xti_laws.proofs.Places.{generation-is}

-- the least number is one of the list
lesser : (n : ℕ) (o : Option ℕ) (m : ℕ) → less n o ≡ Some m → (n ≡ m) ⊎ (o ≡ Some m)
lesser n None m h = inl (cc)
lesser n (Some k) m h = go (nat_le n k) refl into
  where
    into : min n k ≡ m
    into = cc

    go : (b : Bool) → nat_le n k ≡ b → min n k ≡ m → (n ≡ m) ⊎ (Some k ≡ Some m)
    go true i j = inl (omega (arith, j, leb-true n k i))
    go false i j = inr (ap Some (omega (arith, j, leb-false n k i)))

least-found : (bs : List Binding) (m : ℕ) → least (map (λ b. b.fd) bs) ≡ Some m → 0 < length (filter (λ b. eqb b.fd m) bs)
least-found [] m h = absurd (cc)
least-found (b ∷ bs) m h = go (lesser b.fd (least (map (λ b. b.fd) bs)) m h) (least-found bs m)
  where
    more : (c : Bool) → 0 < length (filter (λ b. eqb b.fd m) bs) → 0 < length (cond c (b ∷ filter (λ b. eqb b.fd m) bs) (filter (λ b. eqb b.fd m) bs))
    more true i = omega arith
    more false i = i

    go : (b.fd ≡ m) ⊎ (least (map (λ b. b.fd) bs) ≡ Some m) → (least (map (λ b. b.fd) bs) ≡ Some m → 0 < length (filter (λ b. eqb b.fd m) bs)) → 0 < length (filter (λ b. eqb b.fd m) (b ∷ bs))
    go (inl i) ih = subst (λ c. 0 < length (cond c (b ∷ filter (λ b. eqb b.fd m) bs) (filter (λ b. eqb b.fd m) bs))) (sym (eq-eqb b.fd m i)) (omega arith)
    go (inr i) ih = more (eqb b.fd m) (ih i)

-- it has a binding at its place
bound-at : (p : Providers) (s : Switch) (prov : Prov) (address : List ℕ) (fd : ℕ) → bound s prov address ≡ Some fd → 0 < length (filter (is_bound prov address) (filter (λ b. eqb b.fd fd) (bindings_at p s (place_of p fd))))
bound-at p s prov address fd h =
    subst (λ bs. 0 < length (filter (is_bound prov address) bs)) (sym (filter-within (λ b. eqb b.fd fd) (λ b. eqb (place_of p b.fd) (place_of p fd)) (λ b i. eq-eqb (place_of p b.fd) (place_of p fd) (ap (place_of p) (eqb-true b.fd fd i))) s.bindings))
    (subst (λ bs. 0 < length bs) (filter-swap (λ b. eqb b.fd fd) (is_bound prov address) s.bindings) (least-found (filter (is_bound prov address) s.bindings) fd h))

generation-at : (p : Providers) (g n fd : ℕ) → descriptor p g n ≡ fd → n < places p → generation_of p fd ≡ g
generation-at p g n fd h l = subst (λ x. generation_of p x ≡ g) h (generation-is p g n l)

-- an open endpoint, at whose descriptor the switch has a binding that passes a test
record FoundOpen (test : Binding → Bool) (p : Providers) (w : World) (fd : ℕ) : Type 0 where
  there : Endpoint
  is_open : endpoint p w fd ≡ Some there
  address : List ℕ
  is_bound_to : there.address ≡ Some address
  number : ℕ
  passes : test (record { prov = there.prov; address = address; fd = number; listening = nat_lt 0 there.qlen }) ≡ true

open-of : (test : Binding → Bool) (p : Providers) (w : World) (fd g : ℕ) (c : Numbered) (body : Option Endpoint) → cell_at w (place_of p fd) ≡ Some c → c.cell ≡ endpoint_cell g body
    → 0 < length (filter test (filter (λ b. eqb b.fd fd) (binding_of (descriptor p g (place_of p fd)) body))) → FoundOpen test p w fd
open-of test p w fd g c None i j h = absurd (omega (arith, h))
open-of test p w fd g c (Some e) i j h = go e.address refl h
  where
    given : List ℕ → Binding
    given a = record { prov = e.prov; address = a; fd = descriptor p g (place_of p fd); listening = nat_lt 0 e.qlen }

    opened : descriptor p g (place_of p fd) ≡ fd → endpoint p w fd ≡ Some e
    opened k = ap (option_and_then (λ c. endpoint_in (generation_of p fd) c.cell)) i ∙ (ap (endpoint_in (generation_of p fd)) j ∙ ap (λ b. cond b (Some e) None) (eq-eqb g (generation_of p fd) (sym (generation-at p g (place_of p fd) fd k (below p fd)))))

    found : (a : List ℕ) → e.address ≡ Some a → (b : Bool) → eqb (descriptor p g (place_of p fd)) fd ≡ b → (d : Bool) → test (given a) ≡ d → 0 < length (filter test (cond b (given a ∷ []) [])) → FoundOpen test p w fd
    found a k false l d m z = absurd (omega (arith, z))
    found a k true l false m z = absurd (omega (arith, simp m at z))
    found a k true l true m z = record { there = e; is_open = opened (eqb-true (descriptor p g (place_of p fd)) fd l); address = a; is_bound_to = k; number = descriptor p g (place_of p fd); passes = m }

    go : (o : Option (List ℕ)) → e.address ≡ o → 0 < length (filter test (filter (λ b. eqb b.fd fd) (binding_to (descriptor p g (place_of p fd)) e o))) → FoundOpen test p w fd
    go None k z = absurd (omega (arith, z))
    go (Some a) k z = found a k (eqb (descriptor p g (place_of p fd)) fd) refl (test (given a)) refl z

-- a binding at a descriptor's place is an open endpoint's
found-open : (test : Binding → Bool) (p : Providers) (w : World) (fd : ℕ) → SoundWorld p w → 0 < length (filter test (filter (λ b. eqb b.fd fd) (bindings_at p (the_switch p w) (place_of p fd)))) → FoundOpen test p w fd
found-open test p w fd h i = go (cell_at w (place_of p fd)) refl (h.registered.agreement.each_agrees (place_of p fd) (below p fd))
  where
    inside : (c : Numbered) → cell_at w (place_of p fd) ≡ Some c → (x : Cell) → c.cell ≡ x → CellAgrees p (the_switch p w) (place_of p fd) x → FoundOpen test p w fd
    inside c j (switch_cell s) k a = absurd a
    inside c j (endpoint_cell g body) k a = open-of test p w fd g c body j k (subst (λ bs. 0 < length (filter test (filter (λ b. eqb b.fd fd) bs))) a.bindings_known i)

    go : (o : Option Numbered) → cell_at w (place_of p fd) ≡ o → ThereAgrees p (the_switch p w) (place_of p fd) o → FoundOpen test p w fd
    go None j a = absurd a
    go (Some c) j a = inside c j c.cell refl a

pub bound-open : (p : Providers) (w : World) (prov : Prov) (address : List ℕ) (fd : ℕ) → SoundWorld p w → bound (the_switch p w) prov address ≡ Some fd → OpenAndBound p w prov address fd
bound-open p w prov address fd h i =
    let f = found-open (is_bound prov address) p w fd h (bound-at p (the_switch p w) prov address fd i) in
    let both = and_parts (same_prov f.there.prov prov) (bytes_eq f.address address) f.passes in
    record { there = f.there; is_open = f.is_open; is_of = same-prov f.there.prov prov both.0; is_bound_to = f.is_bound_to ∙ ap Some ((bytes_eq-Decides f.address address).0 both.1) }

-- A listener that is found is open, has the address, and has a queue.
least-beside : (fd : ℕ) (bs : List Binding) (l : ℕ) → least (filter (λ other. not (eqb other fd)) (map (λ b. b.fd) bs)) ≡ Some l → 0 < length (filter (λ b. eqb b.fd l) bs)
least-beside fd [] l h = absurd (cc)
least-beside fd (b ∷ bs) l h = go (eqb b.fd fd) h (least-beside fd bs l)
  where
    more : (c : Bool) → 0 < length (filter (λ b. eqb b.fd l) bs) → 0 < length (cond c (b ∷ filter (λ b. eqb b.fd l) bs) (filter (λ b. eqb b.fd l) bs))
    more true i = omega arith
    more false i = i

    by : (b.fd ≡ l) ⊎ (least (filter (λ other. not (eqb other fd)) (map (λ b. b.fd) bs)) ≡ Some l) → (least (filter (λ other. not (eqb other fd)) (map (λ b. b.fd) bs)) ≡ Some l → 0 < length (filter (λ b. eqb b.fd l) bs)) → 0 < length (filter (λ b. eqb b.fd l) (b ∷ bs))
    by (inl i) ih = subst (λ c. 0 < length (cond c (b ∷ filter (λ b. eqb b.fd l) bs) (filter (λ b. eqb b.fd l) bs))) (sym (eq-eqb b.fd l i)) (omega arith)
    by (inr i) ih = more (eqb b.fd l) (ih i)

    go : (d : Bool) → least (cond (not d) (b.fd ∷ filter (λ other. not (eqb other fd)) (map (λ b. b.fd) bs)) (filter (λ other. not (eqb other fd)) (map (λ b. b.fd) bs))) ≡ Some l → (least (filter (λ other. not (eqb other fd)) (map (λ b. b.fd) bs)) ≡ Some l → 0 < length (filter (λ b. eqb b.fd l) bs)) → 0 < length (filter (λ b. eqb b.fd l) (b ∷ bs))
    go true h ih = more (eqb b.fd l) (ih h)
    go false h ih = by (lesser b.fd (least (filter (λ other. not (eqb other fd)) (map (λ b. b.fd) bs))) l h) ih

listening-at : (p : Providers) (s : Switch) (prov : Prov) (address : List ℕ) (fd l : ℕ) → listener s prov address fd ≡ Some l → 0 < length (filter (is_listening prov address) (filter (λ b. eqb b.fd l) (bindings_at p s (place_of p l))))
listening-at p s prov address fd l h =
    subst (λ bs. 0 < length (filter (is_listening prov address) bs)) (sym (filter-within (λ b. eqb b.fd l) (λ b. eqb (place_of p b.fd) (place_of p l)) (λ b i. eq-eqb (place_of p b.fd) (place_of p l) (ap (place_of p) (eqb-true b.fd l i))) s.bindings))
    (subst (λ bs. 0 < length bs) (filter-swap (λ b. eqb b.fd l) (is_listening prov address) s.bindings) (least-beside fd (filter (is_listening prov address) s.bindings) l h))

pub listener-open : (p : Providers) (w : World) (prov : Prov) (address : List ℕ) (from fd : ℕ) → SoundWorld p w → listener (the_switch p w) prov address from ≡ Some fd → OpenAndListening p w prov address fd
listener-open p w prov address from fd h i =
    let f = found-open (is_listening prov address) p w fd h (listening-at p (the_switch p w) prov address from fd i) in
    let heard = and_parts (is_bound prov address (record { prov = f.there.prov; address = f.address; fd = f.number; listening = nat_lt 0 f.there.qlen })) (nat_lt 0 f.there.qlen) f.passes in
    let both = and_parts (same_prov f.there.prov prov) (bytes_eq f.address address) heard.0 in
    record { has_queue = ltb-true 0 f.there.qlen heard.1; there = f.there; is_open = f.is_open; is_of = same-prov f.there.prov prov both.0; is_bound_to = f.is_bound_to ∙ ap Some ((bytes_eq-Decides f.address address).0 both.1) }

-- the least of those that pass a test passes it
least-passes : (test : ℕ → Bool) (ns : List ℕ) (l : ℕ) → least (filter test ns) ≡ Some l → test l ≡ true
least-passes test [] l h = absurd (none-is l h)
least-passes test (n ∷ ns) l h = go (test n) refl h (least-passes test ns l)
  where
    by : test n ≡ true → (n ≡ l) ⊎ (least (filter test ns) ≡ Some l) → (least (filter test ns) ≡ Some l → test l ≡ true) → test l ≡ true
    by i (inl j) ih = ap test (sym j) ∙ i
    by i (inr j) ih = ih j

    go : (b : Bool) → test n ≡ b → least (cond b (n ∷ filter test ns) (filter test ns)) ≡ Some l → (least (filter test ns) ≡ Some l → test l ≡ true) → test l ≡ true
    go true i k ih = by i (lesser n (least (filter test ns)) l k) ih
    go false i k ih = ih k

pub listener-other : (s : Switch) (prov : Prov) (address : List ℕ) (from fd : ℕ) → listener s prov address from ≡ Some fd → eqb fd from ≡ false
listener-other s prov address from fd h = not-true (eqb fd from) (least-passes (λ other. not (eqb other from)) (descriptors (is_listening prov address) s) fd h)
  where
    not-true : (b : Bool) → not b ≡ true → b ≡ false
    not-true true k = absurd (false≢true k)
    not-true false k = refl
