-- An address is given and given up, and a place opens and closes.
use Rattle.std.proofs.Common.{ℕ, Bool, true, false, List, [], ◌∷◌, ◌+◌, ◌≡◌, ◌<◌, ◌≤◌, ◌&&◌, ◌||◌, refl, sym, ap, ◌∙◌, subst, eqb, cond, not, filter, length, Option, Some, None, arith}
use Rattle.std.specs.Prelude.{slice_index_or, option_map}
use Rattle.std.specs.List.{list_any}
use Rattle.std.proofs.lemmas.Bool.{eq-eqb, ltb-true, false≢true, and_parts}
use Rattle.std.proofs.lemmas.List.{length-set}
use Rattle.std.proofs.lemmas.List.Quantifiers.{position-Some}
use Rattle.std.proofs.lemmas.Slice.Eq.{bytes_eq-Decides}
use Rattle.std.specs.Str.{bytes_eq}
use Rattle.xti_base.specs.Kinds.{same_prov}
use Rattle.xti_base.specs.declared.kinds.Prov.{Prov}
use Rattle.xti_base.specs.declared.kinds.Prov.TheVariants.{Ticlts}
use Rattle.xti_model.specs.declared.profile.Providers.{Providers}
use Rattle.xti_model.specs.Endpoint.{Endpoint}
use Rattle.xti_model.specs.World.{World, Numbered, Switch, Place, Binding, endpoint_cell, change_endpoint, changed, cell_at, endpoint, place_of, generation_of, closed_place, the_switch, at_endpoint, at_switch, opens_place, open_cell, close_cell, last_generation, descriptor, places}
use Rattle.xti_model.specs.Switch.{bound, is_bound, is_listening, has_listener, give_address, give_up_address, free_place, is_free, place_at, mark_open}
use Rattle.xti_model.specs.Sound.{Agrees, CellAgrees, ThereAgrees, bindings_at, binding_to}
use Rattle.xti_model.specs.Calls.Close as Close
use Rattle.xti_laws.proofs.ChangedEndpoints.{recell}
use Rattle.xti_laws.proofs.Opening.{Closed, closed-there}
use Rattle.xti_laws.proofs.AcceptEnds.{same-prov}
use Rattle.xti_laws.specs.Invariant.{Registered, BoundOnce, SoundPlace, SoundPlaces}
use Rattle.xti_laws.proofs.PlaceAndSwitch.{both, both-numbers, both-switch, both-agree, open-agrees, there-after, whole}
use Rattle.xti_laws.proofs.BindingFilters.{unbound-none}
use Rattle.xti_laws.proofs.SwitchUpdates.{given-here, given-other, given-once, given_up-other, given_up-here, given_up-once, set-other, set-same, set-places}
use Rattle.xti_model.proofs.PlaceNumbers.{below}

-- An update of an open endpoint, and with it one of the switch that leaves the places.
record Together (p : Providers) (w : World) (fd : ℕ) (e : Endpoint) (f : Endpoint → Endpoint) (k : Switch → Switch) : Type 0 where
  places_left : (k (the_switch p w)).places ≡ (the_switch p w).places
  others_agree : (m g : ℕ) (body : Option Endpoint) → eqb m (place_of p fd) ≡ false → Agrees p (the_switch p w) m g body → Agrees p (k (the_switch p w)) m g body
  own_binding : bindings_at p (k (the_switch p w)) (place_of p fd) ≡ binding_to fd (f e) (f e).address
  once : BoundOnce (k (the_switch p w))

together : (p : Providers) (w : World) (fd : ℕ) (e : Endpoint) (f : Endpoint → Endpoint) (k : Switch → Switch) → endpoint p w fd ≡ Some e → Together p w fd e f k → Registered p w → Registered p (changed p w (at_endpoint fd f ∷ at_switch k ∷ []))
together p w fd e f k i t h = record {
  cells = both-numbers p (place_of p fd) (change_endpoint (generation_of p fd) f) k w ∙ h.cells;
  agreement = both-agree p (place_of p fd) (change_endpoint (generation_of p fd) f) k w (below p fd) (ap (λ z. length z) t.places_left ∙ h.agreement.places_known) t.others_agree (there-after p w (k (the_switch p w)) fd e (change_endpoint (generation_of p fd) f) i h.agreement here) h.agreement;
  bound_once = subst BoundOnce (sym s) t.once;
  places = subst (SoundPlaces p) (sym s) (λ n. subst (λ z. SoundPlace p (slice_index_or z n closed_place)) (sym t.places_left) (h.places n));
}
  where
    v : World
    v = both p (place_of p fd) (change_endpoint (generation_of p fd) f) k w

    s : the_switch p v ≡ k (the_switch p w)
    s = both-switch p (place_of p fd) (change_endpoint (generation_of p fd) f) k w (below p fd) h.agreement.places_known

    a : Agrees p (the_switch p w) (place_of p fd) (generation_of p fd) (Some e)
    a = open-agrees p w fd e i h.agreement

    here : CellAgrees p (k (the_switch p w)) (place_of p fd) (change_endpoint (generation_of p fd) f (endpoint_cell (generation_of p fd) (Some e)))
    here = subst (λ b. CellAgrees p (k (the_switch p w)) (place_of p fd) (endpoint_cell (generation_of p fd) (Some (cond b (f e) e)))) (sym (eq-eqb (generation_of p fd) (generation_of p fd) refl)) (record {
      generation_known = ap (λ z. (slice_index_or z (place_of p fd) closed_place).generation) t.places_left ∙ a.generation_known;
      openness_known = ap (λ z. (slice_index_or z (place_of p fd) closed_place).is_open) t.places_left ∙ a.openness_known;
      bindings_known = t.own_binding ∙ ap (λ z. binding_to z (f e) (f e).address) (sym (whole p fd));
    })

-- An open endpoint's bindings, by its descriptor.
pub own-bindings : (p : Providers) (w : World) (fd : ℕ) (e : Endpoint) → endpoint p w fd ≡ Some e → Registered p w → bindings_at p (the_switch p w) (place_of p fd) ≡ binding_to fd e e.address
own-bindings p w fd e i h = (open-agrees p w fd e i h.agreement).bindings_known ∙ ap (λ z. binding_to z e e.address) (whole p fd)

-- A binding is given.
-- what may be given: the address is free for the datagrams' provider, and without a listener for a listener
pub record MayGive (s : Switch) (prov : Prov) (address : List ℕ) (listening : Bool) : Type 0 where
  pub is_free : same_prov prov Ticlts ≡ true → bound s Ticlts address ≡ None
  pub is_unheard : listening ≡ true → has_listener s prov address ≡ false

none-listening : (prov : Prov) (address : List ℕ) (bs : List Binding) → list_any (is_listening prov address) bs ≡ false → filter (is_listening prov address) bs ≡ []
none-listening prov address [] h = refl
none-listening prov address (b ∷ bs) h = go (is_listening prov address b) h (none-listening prov address bs)
  where
    go : (d : Bool) → (d || list_any (is_listening prov address) bs) ≡ false → (list_any (is_listening prov address) bs ≡ false → filter (is_listening prov address) bs ≡ []) → cond d (b ∷ filter (is_listening prov address) bs) (filter (is_listening prov address) bs) ≡ []
    go true h k = absurd (false≢true (sym h))
    go false h k = k h

pub gives-once : (s : Switch) (prov : Prov) (address : List ℕ) (fd : ℕ) (listening : Bool) → MayGive s prov address listening → BoundOnce s → BoundOnce (give_address prov address fd listening s)
gives-once s prov address fd listening m h = record {
  datagrams = λ other. given-once s prov address fd listening is_bound Ticlts other (λ b k. k) (λ k. free other k) (h.datagrams other);
  listeners = λ q other. given-once s prov address fd listening is_listening q other (λ b k. (and_parts (is_bound q other b) b.listening k).0) (λ k. unheard q other k) (h.listeners q other);
}
  where
    free : (other : List ℕ) → (same_prov prov Ticlts && bytes_eq address other) ≡ true → filter (is_bound Ticlts other) s.bindings ≡ []
    free other k = (let c = and_parts (same_prov prov Ticlts) (bytes_eq address other) k in subst (λ z. filter (is_bound Ticlts z) s.bindings ≡ []) ((bytes_eq-Decides address other).0 c.1) (unbound-none s Ticlts address (m.is_free c.0)))

    unheard : (q : Prov) (other : List ℕ) → (same_prov prov q && bytes_eq address other && listening) ≡ true → filter (is_listening q other) s.bindings ≡ []
    unheard q other k =
        let c = and_parts (same_prov prov q && bytes_eq address other) listening k in
        let d = and_parts (same_prov prov q) (bytes_eq address other) c.0 in
        subst (λ z. filter (is_listening z other) s.bindings ≡ []) (same-prov prov q d.0) (subst (λ z. filter (is_listening prov z) s.bindings ≡ []) ((bytes_eq-Decides address other).0 d.1) (none-listening prov address s.bindings (m.is_unheard c.1)))

pub gives-registered : (p : Providers) (w : World) (fd : ℕ) (e : Endpoint) (f : Endpoint → Endpoint) (address : List ℕ) (listening : Bool) → endpoint p w fd ≡ Some e → e.address ≡ None
    → binding_to fd (f e) (f e).address ≡ record { prov = e.prov; address = address; fd = fd; listening = listening } ∷ [] → MayGive (the_switch p w) e.prov address listening → Registered p w → Registered p (changed p w (at_endpoint fd f ∷ at_switch (give_address e.prov address fd listening) ∷ []))
gives-registered p w fd e f address listening i n b m h = together p w fd e f (give_address e.prov address fd listening) i (record {
  places_left = refl;
  others_agree = given-other p (the_switch p w) e.prov address fd listening;
  own_binding = given-here p (the_switch p w) e.prov address fd listening (own-bindings p w fd e i h ∙ ap (binding_to fd e) n) ∙ sym b;
  once = gives-once (the_switch p w) e.prov address fd listening m h.bound_once;
}) h

pub gives_up-registered : (p : Providers) (w : World) (fd : ℕ) (e : Endpoint) (f : Endpoint → Endpoint) → endpoint p w fd ≡ Some e → (f e).address ≡ None → Registered p w → Registered p (changed p w (at_endpoint fd f ∷ at_switch (give_up_address fd) ∷ []))
gives_up-registered p w fd e f i n h = together p w fd e f (give_up_address fd) i (record {
  places_left = refl;
  others_agree = given_up-other p (the_switch p w) fd;
  own_binding = given_up-here p (the_switch p w) fd e (own-bindings p w fd e i h) ∙ sym (ap (binding_to fd (f e)) n);
  once = given_up-once (the_switch p w) fd h.bound_once;
}) h

-- An endpoint closes.
pub closes-registered : (p : Providers) (w : World) (fd : ℕ) (e : Endpoint) → endpoint p w fd ≡ Some e → Registered p w → Registered p (changed p w (Close.closing p fd))
closes-registered p w fd e i h = record {
  cells = both-numbers p (place_of p fd) (close_cell (generation_of p fd)) (Close.forget p fd) w ∙ h.cells;
  agreement = both-agree p (place_of p fd) (close_cell (generation_of p fd)) (Close.forget p fd) w (below p fd) (length-set (the_switch p w).places (place_of p fd) shut ∙ h.agreement.places_known) others
      (there-after p w t fd e (close_cell (generation_of p fd)) i h.agreement here) h.agreement;
  bound_once = subst BoundOnce (sym s) (once (given_up-once (the_switch p w) fd h.bound_once));
  places = subst (SoundPlaces p) (sym s) (set-places p (give_up_address fd (the_switch p w)) (place_of p fd) shut inside (last, λ b. absurd (false≢true b)) h.places);
}
  where
    t : Switch
    t = Close.forget p fd (the_switch p w)

    once : BoundOnce (give_up_address fd (the_switch p w)) → BoundOnce t
    once b = record { datagrams = b.datagrams; listeners = b.listeners }

    shut : Place
    shut = record { generation = (place_at (the_switch p w) (place_of p fd)).generation + 1; is_open = false }

    v : World
    v = both p (place_of p fd) (close_cell (generation_of p fd)) (Close.forget p fd) w

    s : the_switch p v ≡ t
    s = both-switch p (place_of p fd) (close_cell (generation_of p fd)) (Close.forget p fd) w (below p fd) h.agreement.places_known

    a : Agrees p (the_switch p w) (place_of p fd) (generation_of p fd) (Some e)
    a = open-agrees p w fd e i h.agreement

    inside : place_of p fd < length (the_switch p w).places
    inside = subst (λ n. place_of p fd < n) (sym h.agreement.places_known) (below p fd)

    last : (place_at (the_switch p w) (place_of p fd)).generation + 1 ≤ last_generation p
    last = omega (arith, (h.places (place_of p fd)).1 a.openness_known)

    others : (m g : ℕ) (body : Option Endpoint) → eqb m (place_of p fd) ≡ false → Agrees p (the_switch p w) m g body → Agrees p t m g body
    others m g body j b = set-other p (give_up_address fd (the_switch p w)) (place_of p fd) shut m g body j (given_up-other p (the_switch p w) fd m g body j b)

    same : place_at t (place_of p fd) ≡ shut
    same = set-same (give_up_address fd (the_switch p w)) (place_of p fd) shut inside

    here : CellAgrees p t (place_of p fd) (close_cell (generation_of p fd) (endpoint_cell (generation_of p fd) (Some e)))
    here = subst (λ b. CellAgrees p t (place_of p fd) (cond b (endpoint_cell (generation_of p fd + 1) None) (endpoint_cell (generation_of p fd) (Some e)))) (sym (eq-eqb (generation_of p fd) (generation_of p fd) refl)) (record {
      generation_known = ap (λ z. z.generation) same ∙ ap (λ z. z + 1) a.generation_known;
      openness_known = ap (λ z. z.is_open) same;
      bindings_known = given_up-here p (the_switch p w) fd e (a.bindings_known ∙ ap (λ z. binding_to z e e.address) (whole p fd));
    })

-- A place opens: the place that opens is known, closed, and not of the last generation.
record Free (p : Providers) (s : Switch) (n : ℕ) : Type 0 where
  known : n < length s.places
  closed : (place_at s n).is_open ≡ false
  early : (place_at s n).generation < last_generation p

free : (p : Providers) (s : Switch) (n : ℕ) → free_place p s ≡ Some n → Free p s n
free p s n h = record { known = f.0; closed = (parts (place_at s n).is_open _ f.1).0; early = ltb-true (place_at s n).generation (last_generation p) (parts (place_at s n).is_open _ f.1).1 }
  where
    f : (n < length s.places) × (is_free p (place_at s n) ≡ true) × ((k : ℕ) → k < n → is_free p (place_at s k) ≡ false)
    f = position-Some (is_free p) s.places n closed_place h

    parts : (b d : Bool) → (not b && d) ≡ true → (b ≡ false) × (d ≡ true)
    parts true d j = absurd (false≢true j)
    parts false d j = (refl, j)

-- a closed place has no binding
closed-bindings : (p : Providers) (s : Switch) (n g : ℕ) (c : Numbered) (o : Option Numbered) → o ≡ Some c → c.cell ≡ endpoint_cell g None → ThereAgrees p s n o → bindings_at p s n ≡ []
closed-bindings p s n g c o i j a =
    let b : CellAgrees p s n (endpoint_cell g None) = subst (CellAgrees p s n) j (subst (ThereAgrees p s n) i a) in
    b.bindings_known

pub opens-registered : (p : Providers) (w : World) (n : ℕ) (e : Endpoint) → free_place p (the_switch p w) ≡ Some n → e.address ≡ None → Registered p w → Registered p (changed p w (opens_place n e ∷ at_switch (mark_open n) ∷ []))
opens-registered p w n e l u h = record {
  cells = both-numbers p n (open_cell e) (mark_open n) w ∙ h.cells;
  agreement = both-agree p n (open_cell e) (mark_open n) w inside (length-set (the_switch p w).places n now ∙ h.agreement.places_known) (λ m z body j b. set-other p (the_switch p w) n now m z body j b) here h.agreement;
  bound_once = subst BoundOnce (sym s) (once h.bound_once);
  places = subst (SoundPlaces p) (sym s) (set-places p (the_switch p w) n now f.known (omega (arith, f.early), λ b. f.early) h.places);
}
  where
    f : Free p (the_switch p w) n
    f = free p (the_switch p w) n l

    g : ℕ
    g = (place_at (the_switch p w) n).generation

    once : BoundOnce (the_switch p w) → BoundOnce (mark_open n (the_switch p w))
    once b = record { datagrams = b.datagrams; listeners = b.listeners }

    inside : n < places p
    inside = subst (λ z. n < z) h.agreement.places_known f.known

    c : Closed w n g
    c = closed-there p (the_switch p w) w n f.closed (h.agreement.each_agrees n inside)

    now : Place
    now = record (place_at (the_switch p w) n) { is_open = true }

    v : World
    v = both p n (open_cell e) (mark_open n) w

    s : the_switch p v ≡ mark_open n (the_switch p w)
    s = both-switch p n (open_cell e) (mark_open n) w inside h.agreement.places_known

    same : place_at (mark_open n (the_switch p w)) n ≡ now
    same = set-same (the_switch p w) n now f.known

    agreed : CellAgrees p (mark_open n (the_switch p w)) n (endpoint_cell g (Some e))
    agreed = record {
      generation_known = ap (λ z. z.generation) same;
      openness_known = ap (λ z. z.is_open) same;
      bindings_known = closed-bindings p (the_switch p w) n g c.there (cell_at w n) c.is_there c.is_closed (h.agreement.each_agrees n inside) ∙ ap (binding_to (descriptor p g n) e) (sym u);
    }

    here : ThereAgrees p (mark_open n (the_switch p w)) n (option_map (recell (open_cell e)) (cell_at w n))
    here = subst (λ o. ThereAgrees p (mark_open n (the_switch p w)) n (option_map (recell (open_cell e)) o)) (sym c.is_there) (subst (λ x. CellAgrees p (mark_open n (the_switch p w)) n (open_cell e x)) (sym c.is_closed) agreed)
