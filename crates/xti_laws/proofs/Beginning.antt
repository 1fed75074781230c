-- The world at the start is sound.
use Rattle.std.proofs.Common.{ℕ, zero, suc, Bool, true, false, [], ◌∷◌, ◌++◌, ◌+◌, ◌≡◌, ◌<◌, ◌≤◌, refl, sym, ap, ◌∙◌, subst, eqb, cond, replicate, Some, None, arith, length, map}
use Rattle.std.specs.Prelude.{nat_lt, slice_index_or}
use Rattle.std.proofs.lemmas.Bool.{eqb-true, eqb-false, ltb-true, ltb-false, false≢true, leb-true}
use Rattle.std.proofs.lemmas.List.{get_or-replicate, length-replicate}
use Rattle.std.proofs.Math.ListN.{get_or-eq_default}
use Rattle.xti_model.specs.declared.profile.Providers.{Providers}
use Rattle.xti_model.specs.declared.profile.Version.{Version}
use Rattle.xti_model.specs.declared.profile.Version.TheVariants.{One, Two}
use Rattle.xti_model.specs.World.{World, endpoint_cell, switch_cell, cell_at, closed_place, closed_places, opening, opening_switch, Switch, places, places_of, switch_number, the_switch, last_generation}
use Rattle.xti_model.specs.Sound.{ThereAgrees}
use Rattle.xti_laws.specs.Invariant.{Registered, SoundPlace, SoundWorld, HasEachCell, BoundOnce, SoundPlaces}
use Rattle.xti_laws.proofs.RequestHistories as Requests
use Rattle.xti_laws.proofs.StepWays.{none-is}
use Rattle.xti_model.specs.Robin.{numbers}
use Rattle.std.proofs.Math.Dec.{leb-zero}

-- each place is there, and closed
closed-at : (m from n : ℕ) (w : World) → from ≤ m → m < from + n → cell_at (closed_places from n ++ w) m ≡ Some (record { number = m; cell = endpoint_cell 0 None })
closed-at m from zero w h k = absurd (omega (arith, h, k))
closed-at m from (suc n) w h k = go (eqb from m) refl (λ i. closed-at m (from + 1) n w (omega (arith, h, eqb-false from m i)) (omega (arith, k)))
  where
    go : (b : Bool) → eqb from m ≡ b → (eqb from m ≡ false → cell_at (closed_places (from + 1) n ++ w) m ≡ Some (record { number = m; cell = endpoint_cell 0 None })) → cond b (Some (record { number = from; cell = endpoint_cell 0 None })) (cell_at (closed_places (from + 1) n ++ w) m) ≡ Some (record { number = m; cell = endpoint_cell 0 None })
    go true i rest = ap (λ z. Some (record { number = z; cell = endpoint_cell 0 None })) (eqb-true from m i)
    go false i rest = rest i

place-closed : (n m : ℕ) → slice_index_or (replicate n closed_place) m closed_place ≡ closed_place
place-closed n m = go (nat_lt m n) refl
  where
    go : (b : Bool) → nat_lt m n ≡ b → slice_index_or (replicate n closed_place) m closed_place ≡ closed_place
    go true h = get_or-replicate n m closed_place closed_place (ltb-true m n h)
    go false h = get_or-eq_default (replicate n closed_place) closed_place (subst (λ k. k ≤ m) (sym (length-replicate n closed_place)) (ltb-false m n h))

-- its cells are numbered in their order, and the switch knows each place
opening-cells : (p : Providers) → HasEachCell p (opening p)
unfolding opening
opening-cells p = go p.version
  where
    go : (v : Version) → map (λ c. c.number) (closed_places 0 (places_of v) ++ record { number = places_of v; cell = switch_cell (opening_switch (places_of v)) } ∷ []) ≡ numbers 0 (places_of v + 1)
    go One = refl
    go Two = refl

opening-agrees : (p : Providers) (m : ℕ) → m < places p → ThereAgrees p (opening_switch (places p)) m (cell_at (opening p) m)
unfolding opening
opening-agrees p m h = subst (ThereAgrees p (opening_switch (places p)) m) (sym (closed-at m 0 (places p) last (omega arith) (omega (arith, h)))) (record { generation_known = ap (λ z. z.generation) (place-closed (places p) m); openness_known = ap (λ z. z.is_open) (place-closed (places p) m); bindings_known = refl })
  where
    last : World
    last = record { number = switch_number p; cell = switch_cell (opening_switch (places p)) } ∷ []

opening-registered : (p : Providers) → Registered p (opening p)
opening-registered p = record {
  cells = opening-cells p;
  agreement = record {
    places_known = ap (λ (s : Switch). length s.places) known ∙ length-replicate (places p) closed_place;
    each_agrees = λ m h. subst (λ (s : Switch). ThereAgrees p s m (cell_at (opening p) m)) (sym known) (opening-agrees p m h);
  };
  bound_once = subst BoundOnce (sym known) (record { datagrams = λ address. omega arith; listeners = λ prov address. omega arith });
  places = subst (SoundPlaces p) (sym known) (λ n. subst (SoundPlace p) (sym (place-closed (places p) n)) (leb-true 0 (last_generation p) (leb-zero (last_generation p)), λ b. absurd (false≢true b)));
}
  where
    known : the_switch p (opening p) ≡ opening_switch (places p)
    known = Requests.opening-the-switch p

pub opening-sound : (p : Providers) → SoundWorld p (opening p)
opening-sound p = record {
  registered = opening-registered p;
  endpoints = λ fd e h. absurd (none-is e (sym (Requests.opening-none p fd) ∙ h));
  links = (Requests.opening-sound p).links;
  bound = (Requests.opening-sound p).bound;
  pairs = λ x y e d o k a b. absurd (none-is e (sym (Requests.opening-none p x) ∙ o));
  matched = λ x y e d o k a b. absurd (none-is e (sym (Requests.opening-none p x) ∙ o));
  there = λ x y e o a. absurd (none-is e (sym (Requests.opening-none p x) ∙ o));
}
