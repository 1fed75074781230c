-- The switch knows no more places than there are, after any entries.
use Rattle.std.proofs.Common.{ℕ, zero, suc, Bool, true, false, List, [], ◌∷◌, ◌++◌, ◌+◌, ◌≡◌, ◌≤◌, refl, sym, ap, subst, ◌∙◌, cond, eqb, length, replicate, Some, None}
use Rattle.std.specs.Prelude.{nat_le}
use Rattle.std.proofs.lemmas.Bool.{leb-true, le-leb}
use Rattle.std.proofs.Math.Dec.{leb-zero}
use Rattle.std.proofs.lemmas.List.{length-set, length-replicate}
use Rattle.std.proofs.Math.Nat.{le_refl}
use Rattle.xti_model.specs.declared.entry.Entry.{Entry}
use Rattle.xti_model.specs.declared.profile.Providers.{Providers}
use Rattle.xti_model.specs.Endpoint.{Endpoint}
use Rattle.xti_model.specs.World.{World, Cell, Switch, endpoint_cell, switch_cell, change_endpoint, cell_at, generation_of, place_of, closed_places, opening, opening_switch, switch_in, switch_or_empty, switch_number, closed_place, places, the_switch}
use Rattle.xti_model.specs.History.{after}
use Rattle.xti_laws.specs.Laws.{AllCells, Keeps, KnowsNoMore}
use Rattle.xti_laws.specs.Updates.{SwitchUpdate, updates, updates_peer, opens, closes, switches, gives_address, gives_up_address, marks_open, forgets}
use Rattle.xti_laws.proofs.KeptCells.{after_from-kept}

-- the switch knows at most so many places
abbrev Few : ℕ → Cell → Type 0
Few most cell = nat_le (length (switch_in cell).places) most ≡ true

-- an update of the switch keeps how many places it knows
pub switch-few : (f : Switch → Switch) → SwitchUpdate f → (s : Switch) → length (f s).places ≡ length s.places
switch-few _ (gives_address prov address fd listening) s = refl
switch-few _ (gives_up_address fd) s = refl
switch-few _ (marks_open place) s = length-set s.places place _
switch-few _ (forgets p fd) s = length-set s.places (place_of p fd) _

pub endpoint-few : (most g : ℕ) (f : Endpoint → Endpoint) (x : Cell) → Few most x → Few most (change_endpoint g f x)
endpoint-few most g f (switch_cell s) h = h
endpoint-few most g f (endpoint_cell m None) h = h
endpoint-few most g f (endpoint_cell m (Some e)) h = h

pub kind-few : (most : ℕ) (p : Providers) → Keeps p (Few most)
kind-few most p c (updates fd f u) x h = endpoint-few most (generation_of p fd) f x h
kind-few most p c (updates_peer fd peer f u) x h = endpoint-few most (generation_of p peer) _ x h
kind-few most p c (switches f u) (endpoint_cell g body) h = h
kind-few most p c (switches f u) (switch_cell s) h = ap (λ n. nat_le n most) (switch-few f u s) ∙ h
kind-few most p c (opens place profile prov nonblock) (endpoint_cell g None) h = h
kind-few most p c (opens place profile prov nonblock) (endpoint_cell g (Some e)) h = h
kind-few most p c (opens place profile prov nonblock) (switch_cell s) h = h
kind-few most p c (closes fd) (switch_cell s) h = h
kind-few most p c (closes fd) (endpoint_cell g None) h = h
kind-few most p c (closes fd) (endpoint_cell g (Some e)) h = go (eqb g (generation_of p fd))
  where
    go : (b : Bool) → Few most (cond b (endpoint_cell (g + 1) None) (endpoint_cell g (Some e)))
    go true = h
    go false = h

pub closed-few : (most from n : ℕ) (w : World) → AllCells (Few most) w → AllCells (Few most) (closed_places from n ++ w)
closed-few most from zero w h = h
closed-few most from (suc n) w h = (leb-zero most, closed-few most (from + 1) n w h)

pub switch-known : (most n : ℕ) (w : World) → AllCells (Few most) w → nat_le (length (switch_or_empty (cell_at w n)).places) most ≡ true
switch-known most n [] h = leb-zero most
switch-known most n (c ∷ w) h = go (eqb c.number n) (switch-known most n w h.1)
  where
    go : (b : Bool) → nat_le (length (switch_or_empty (cell_at w n)).places) most ≡ true → nat_le (length (switch_or_empty (cond b (Some c) (cell_at w n))).places) most ≡ true
    go true k = h.0
    go false k = k

pub opening-few : (n : ℕ) → Few n (switch_cell (opening_switch n))
opening-few n = le-leb (length (replicate n closed_place)) n (subst (λ k. k ≤ n) (sym (length-replicate n closed_place)) (le_refl n))

pub known-places : (p : Providers) (entries : List Entry) → KnowsNoMore p (after p entries)
unfolding opening
known-places p entries = leb-true (length (the_switch p (after p entries)).places) (places p)
    (switch-known (places p) (switch_number p) (after p entries) (after_from-kept p (Few (places p)) (kind-few (places p) p) (opening p) [] entries
    (closed-few (places p) 0 (places p) (record { number = switch_number p; cell = switch_cell (opening_switch (places p)) } ∷ []) (opening-few (places p), tt))))
