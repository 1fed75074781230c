-- What each update of the switch leaves of its agreement, of its addresses and of its places.
use Rattle.std.proofs.Common.{ℕ, Bool, true, false, List, [], ◌∷◌, ◌++◌, ◌<◌, ◌≤◌, ◌≡◌, refl, sym, ap, ◌∙◌, subst, eqb, cond, not, filter, length, Option, Some, None, arith, append-nil}
use Rattle.std.specs.Prelude.{nat_lt}
use Rattle.std.proofs.lemmas.Bool.{eqb-true, eqb-false, eq-eqb, ne_eqb}
use Rattle.std.proofs.lemmas.List.{get_or-set_same, get_or-set_other}
use Rattle.std.proofs.lemmas.List.Elements.{filter-append}
use Rattle.std.proofs.lemmas.List.Sums.{length-filter, count_by-le-length}
use Rattle.xti_base.specs.declared.kinds.Prov.{Prov}
use Rattle.xti_base.specs.declared.kinds.Prov.TheVariants.{Ticlts}
use Rattle.xti_model.specs.declared.profile.Providers.{Providers}
use Rattle.xti_model.specs.Endpoint.{Endpoint}
use Rattle.xti_model.specs.World.{Switch, Binding, Place, place_of, closed_place}
use Rattle.xti_model.specs.Switch.{is_bound, is_listening, give_address, give_up_address, place_at, set_place}
use Rattle.xti_model.specs.Sound.{Agrees, bindings_at, binding_to}
use Rattle.xti_laws.specs.Invariant.{BoundOnce, SoundPlace, SoundPlaces}
use Rattle.xti_laws.proofs.BindingFilters.{filter-within, filter-swap}

flip : (m n : ℕ) → eqb m n ≡ false → eqb n m ≡ false
flip m n h = ne_eqb n m (λ e. eqb-false m n h (sym e))

-- An address is given.
abbrev given : Prov → List ℕ → ℕ → Bool → Binding
given prov address fd listening = record { prov = prov; address = address; fd = fd; listening = listening }

given-at : (p : Providers) (s : Switch) (prov : Prov) (address : List ℕ) (fd : ℕ) (listening : Bool) (m : ℕ)
    → bindings_at p (give_address prov address fd listening s) m ≡ bindings_at p s m ++ cond (eqb (place_of p fd) m) (given prov address fd listening ∷ []) []
given-at p s prov address fd listening m = filter-append (λ b. eqb (place_of p b.fd) m) s.bindings (given prov address fd listening ∷ [])

pub given-other : (p : Providers) (s : Switch) (prov : Prov) (address : List ℕ) (fd : ℕ) (listening : Bool) (m g : ℕ) (body : Option Endpoint) → eqb m (place_of p fd) ≡ false
    → Agrees p s m g body → Agrees p (give_address prov address fd listening s) m g body
given-other p s prov address fd listening m g body h a = record {
  generation_known = a.generation_known;
  openness_known = a.openness_known;
  bindings_known = given-at p s prov address fd listening m ∙ (ap (λ b. bindings_at p s m ++ cond b (given prov address fd listening ∷ []) []) (flip m (place_of p fd) h) ∙ (append-nil (bindings_at p s m) ∙ a.bindings_known));
}

pub given-here : (p : Providers) (s : Switch) (prov : Prov) (address : List ℕ) (fd : ℕ) (listening : Bool) → bindings_at p s (place_of p fd) ≡ [] → bindings_at p (give_address prov address fd listening s) (place_of p fd) ≡ given prov address fd listening ∷ []
given-here p s prov address fd listening h =
    given-at p s prov address fd listening (place_of p fd) ∙
    (ap (λ z. z ++ cond (eqb (place_of p fd) (place_of p fd)) (given prov address fd listening ∷ []) []) h ∙ ap (λ b. cond b (given prov address fd listening ∷ []) []) (eq-eqb (place_of p fd) (place_of p fd) refl))

-- a free address is then bound once
pub given-once : (s : Switch) (prov : Prov) (address : List ℕ) (fd : ℕ) (listening : Bool) (test : Prov → List ℕ → Binding → Bool) (q : Prov) (other : List ℕ)
    → ((b : Binding) → test q other b ≡ true → is_bound q other b ≡ true)
    → (test q other (given prov address fd listening) ≡ true → filter (test q other) s.bindings ≡ [])
    → length (filter (test q other) s.bindings) ≤ 1 → length (filter (test q other) (give_address prov address fd listening s).bindings) ≤ 1
given-once s prov address fd listening test q other k n h = subst (λ bs. length bs ≤ 1) (sym (filter-append (test q other) s.bindings (given prov address fd listening ∷ []))) (go (test q other (given prov address fd listening)) refl)
  where
    go : (b : Bool) → test q other (given prov address fd listening) ≡ b → length (filter (test q other) s.bindings ++ cond b (given prov address fd listening ∷ []) []) ≤ 1
    go true i = subst (λ bs. length (bs ++ given prov address fd listening ∷ []) ≤ 1) (sym (n i)) (omega arith)
    go false i = subst (λ bs. length bs ≤ 1) (sym (append-nil (filter (test q other) s.bindings))) h

-- An address is given up.
pub given_up-other : (p : Providers) (s : Switch) (fd m g : ℕ) (body : Option Endpoint) → eqb m (place_of p fd) ≡ false → Agrees p s m g body → Agrees p (give_up_address fd s) m g body
given_up-other p s fd m g body h a = record {
  generation_known = a.generation_known;
  openness_known = a.openness_known;
  bindings_known = filter-within (λ b. eqb (place_of p b.fd) m) (λ b. not (eqb b.fd fd)) other s.bindings ∙ a.bindings_known;
}
  where
    other : (b : Binding) → eqb (place_of p b.fd) m ≡ true → not (eqb b.fd fd) ≡ true
    other b i = ap not (ne_eqb b.fd fd (λ e. eqb-false m (place_of p fd) h (sym (eqb-true (place_of p b.fd) m i) ∙ ap (place_of p) e)))

none-left : (fd : ℕ) (e : Endpoint) (o : Option (List ℕ)) → filter (λ b. not (eqb b.fd fd)) (binding_to fd e o) ≡ []
none-left fd e None = refl
none-left fd e (Some address) = ap (λ b. cond (not b) (record { prov = e.prov; address = address; fd = fd; listening = nat_lt 0 e.qlen } ∷ []) []) (eq-eqb fd fd refl)

-- the endpoint's own is gone
pub given_up-here : (p : Providers) (s : Switch) (fd : ℕ) (e : Endpoint) → bindings_at p s (place_of p fd) ≡ binding_to fd e e.address → bindings_at p (give_up_address fd s) (place_of p fd) ≡ []
given_up-here p s fd e h =
    filter-swap (λ b. eqb (place_of p b.fd) (place_of p fd)) (λ b. not (eqb b.fd fd)) s.bindings ∙
    (ap (filter (λ b. not (eqb b.fd fd))) h ∙ none-left fd e e.address)

given_up-few : (s : Switch) (fd : ℕ) (test : Binding → Bool) → length (filter test s.bindings) ≤ 1 → length (filter test (give_up_address fd s).bindings) ≤ 1
given_up-few s fd test h =
    subst (λ bs. length bs ≤ 1) (sym (filter-swap test (λ b. not (eqb b.fd fd)) s.bindings))
    (omega (arith, h, length-filter (λ b. not (eqb b.fd fd)) (filter test s.bindings), count_by-le-length (λ b. not (eqb b.fd fd)) (filter test s.bindings)))

pub given_up-once : (s : Switch) (fd : ℕ) → BoundOnce s → BoundOnce (give_up_address fd s)
given_up-once s fd h = record { datagrams = λ address. given_up-few s fd (is_bound Ticlts address) (h.datagrams address); listeners = λ prov address. given_up-few s fd (is_listening prov address) (h.listeners prov address) }

-- A place is set.
pub set-other : (p : Providers) (s : Switch) (n : ℕ) (place : Place) (m g : ℕ) (body : Option Endpoint) → eqb m n ≡ false → Agrees p s m g body → Agrees p (set_place n place s) m g body
set-other p s n place m g body h a = record {
  generation_known = ap (λ z. z.generation) k ∙ a.generation_known;
  openness_known = ap (λ z. z.is_open) k ∙ a.openness_known;
  bindings_known = a.bindings_known;
}
  where
    k : place_at (set_place n place s) m ≡ place_at s m
    k = get_or-set_other s.places n m place closed_place (eqb-false m n h)

pub set-same : (s : Switch) (n : ℕ) (place : Place) → n < length s.places → place_at (set_place n place s) n ≡ place
set-same s n place h = get_or-set_same s.places n place closed_place h

pub set-places : (p : Providers) (s : Switch) (n : ℕ) (place : Place) → n < length s.places → SoundPlace p place → SoundPlaces p s → SoundPlaces p (set_place n place s)
set-places p s n place l k h m = go (eqb m n) refl
  where
    go : (b : Bool) → eqb m n ≡ b → SoundPlace p (place_at (set_place n place s) m)
    go true i = subst (λ z. SoundPlace p (place_at (set_place n place s) z)) (sym (eqb-true m n i)) (subst (SoundPlace p) (sym (set-same s n place l)) k)
    go false i = subst (SoundPlace p) (sym (get_or-set_other s.places n m place closed_place (eqb-false m n i))) (h m)
