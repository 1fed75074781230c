-- A place changes, and the switch with it: what is then known of the switch, of the cells and of their agreement.
use Rattle.std.proofs.Common.{ℕ, Bool, true, false, ◌<◌, ◌≡◌, refl, sym, ap, ◌∙◌, subst, eqb, cond, map, length, Option, Some, None, arith}
use Rattle.std.specs.Prelude.{option_map, option_and_then}
use Rattle.std.proofs.lemmas.Bool.{eqb-true}
use Rattle.xti_model.specs.declared.profile.Providers.{Providers}
use Rattle.xti_model.specs.Endpoint.{Endpoint}
use Rattle.xti_model.specs.World.{World, Numbered, Cell, Switch, endpoint_cell, switch_cell, change, change_switch, cell_at, endpoint, endpoint_in, place_of, generation_of, descriptor, switch_number, the_switch, places}
use Rattle.xti_model.specs.Sound.{Agrees, ThereAgrees, CellAgrees, Agreement}
use Rattle.xti_laws.proofs.ChangedEndpoints.{cell_at-same, cell_at-other, recell}
use Rattle.xti_laws.proofs.ChangedCells.{switch-kept, switch-changed, places-kept, numbers-kept, agreement-moved}
use Rattle.xti_model.proofs.PlaceNumbers.{below}
use Rattle.xti_laws.proofs.Places.{descriptor-is}

-- the world after both
abbrev pub both : Providers → ℕ → (Cell → Cell) → (Switch → Switch) → World → World
both p n f k w = change (switch_number p) (change_switch k) (change n f w)

pub both-numbers : (p : Providers) (n : ℕ) (f : Cell → Cell) (k : Switch → Switch) (w : World) → map (λ c. c.number) (both p n f k w) ≡ map (λ c. c.number) w
both-numbers p n f k w = numbers-kept (switch_number p) (change_switch k) (change n f w) ∙ numbers-kept n f w

pub both-switch : (p : Providers) (n : ℕ) (f : Cell → Cell) (k : Switch → Switch) (w : World) → n < places p → length (the_switch p w).places ≡ places p → the_switch p (both p n f k w) ≡ k (the_switch p w)
both-switch p n f k w h l = switch-changed p k (change n f w) (ap (λ s. length s.places) (switch-kept p n f w h) ∙ l) ∙ ap k (switch-kept p n f w h)

pub both-agree : (p : Providers) (n : ℕ) (f : Cell → Cell) (k : Switch → Switch) (w : World) → n < places p → length (k (the_switch p w)).places ≡ places p
    → ((m g : ℕ) (body : Option Endpoint) → eqb m n ≡ false → Agrees p (the_switch p w) m g body → Agrees p (k (the_switch p w)) m g body)
    → ThereAgrees p (k (the_switch p w)) n (option_map (recell f) (cell_at w n)) → Agreement p w → Agreement p (both p n f k w)
both-agree p n f k w h l others here a = agreement-moved p w (both p n f k w) n (k (the_switch p w)) (both-switch p n f k w h a.places_known) l
    (λ m i j. places-kept p k m (change n f w) i ∙ cell_at-other n m j f w) others
    (subst (ThereAgrees p (k (the_switch p w)) n) (sym (places-kept p k n (change n f w) h ∙ cell_at-same n f w)) here) a

-- Of a descriptor that is open, what its cell has.
opened-in : (g m : ℕ) (e : Endpoint) (body : Option Endpoint) → endpoint_in g (endpoint_cell m body) ≡ Some e → (m ≡ g) × (body ≡ Some e)
opened-in g m e body h = go (eqb m g) refl h
  where
    go : (b : Bool) → eqb m g ≡ b → cond b body None ≡ Some e → (m ≡ g) × (body ≡ Some e)
    go true i j = (eqb-true m g i, j)
    go false i j = absurd (cc)

open-there : (p : Providers) (s : Switch) (n g : ℕ) (e : Endpoint) (o : Option Numbered) → option_and_then (λ c. endpoint_in g c.cell) o ≡ Some e → ThereAgrees p s n o
    → (c : Numbered) × (o ≡ Some c) × (c.cell ≡ endpoint_cell g (Some e)) × Agrees p s n g (Some e)
open-there p s n g e None h a = absurd a
open-there p s n g e (Some c) h a = go c.cell refl h a
  where
    go : (x : Cell) → c.cell ≡ x → endpoint_in g x ≡ Some e → CellAgrees p s n x → (d : Numbered) × (Some c ≡ Some d) × (d.cell ≡ endpoint_cell g (Some e)) × Agrees p s n g (Some e)
    go (switch_cell other) i j b = absurd b
    go (endpoint_cell m body) i j b =
        let k = opened-in g m e body j in
        (c, refl, i ∙ (ap (λ z. endpoint_cell z body) k.0 ∙ ap (endpoint_cell g) k.1), subst (λ z. Agrees p s n g z) k.1 (subst (λ z. Agrees p s n z body) k.0 b))

-- the cell of an open descriptor, and the switch's agreement with it
pub open-agrees : (p : Providers) (w : World) (fd : ℕ) (e : Endpoint) → endpoint p w fd ≡ Some e → Agreement p w → Agrees p (the_switch p w) (place_of p fd) (generation_of p fd) (Some e)
open-agrees p w fd e i a = (open-there p (the_switch p w) (place_of p fd) (generation_of p fd) e (cell_at w (place_of p fd)) i (a.each_agrees (place_of p fd) (below p fd))).3

pub there-after : (p : Providers) (w : World) (t : Switch) (fd : ℕ) (e : Endpoint) (f : Cell → Cell) → endpoint p w fd ≡ Some e → Agreement p w
    → CellAgrees p t (place_of p fd) (f (endpoint_cell (generation_of p fd) (Some e))) → ThereAgrees p t (place_of p fd) (option_map (recell f) (cell_at w (place_of p fd)))
there-after p w t fd e f i a h =
    let c = open-there p (the_switch p w) (place_of p fd) (generation_of p fd) e (cell_at w (place_of p fd)) i (a.each_agrees (place_of p fd) (below p fd)) in
    subst (λ o. ThereAgrees p t (place_of p fd) (option_map (recell f) o)) (sym c.1) (subst (λ x. CellAgrees p t (place_of p fd) (f x)) (sym c.2) h)

-- a descriptor is that of its place and generation
pub whole : (p : Providers) (fd : ℕ) → descriptor p (generation_of p fd) (place_of p fd) ≡ fd
whole p fd = sym (descriptor-is p fd (generation_of p fd) (place_of p fd) refl refl)
