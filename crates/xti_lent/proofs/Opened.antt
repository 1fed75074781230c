-- Changes of the endpoint that is open with a descriptor, if there is one.
use Rattle.std.proofs.Common.{◌≡◌, ℕ, Bool, true, false, cond, eqb, List, [], ◌∷◌, Option, Some, None, refl, sym, ap, ◌∙◌, arith}
use Rattle.std.specs.Prelude.{option_map}
use Rattle.std.proofs.lemmas.Bool.Decides.{nat_tests}
use Rattle.xti_model.specs.declared.profile.Providers.{Providers}
use Rattle.xti_model.specs.Endpoint.{Endpoint}
use Rattle.xti_model.specs.World.{World, Cell, Change, endpoint_cell, switch_cell, place_of, generation_of, endpoint, endpoint_in, change_endpoint, changed, at_endpoint}
use Rattle.xti_end.specs.Held.{Held, cell, is_open, with_parts}
use Rattle.xti_lent.specs.Answers.{Changed}
use Rattle.xti_lent.specs.Fit.{AtOwnPlaces, SameCells}
use Rattle.xti_lent.specs.Lending.{Lending, cells, held_at, with_held, cell_lent}
use Rattle.xti_lent.specs.Lends.{IsOpenAt}
use Rattle.xti_lent.proofs.Places.{place-below}
use Rattle.xti_lent.proofs.Lendings.{cell-is, cell-gone, endpoint-is}
use Rattle.xti_lent.proofs.Open.{fd-open}
use Rattle.xti_lent.proofs.Worlds.{changed_at, change-is, same-is}
use Rattle.xti_lent.proofs.Written.{fd-written, parts-changed, written-same}

-- it is open
pub open_here : (l : Lending) (fd n : ℕ) (h : Held) → AtOwnPlaces l → IsOpenAt l fd n → held_at l n ≡ Some h → is_open h ≡ true
open_here l fd n h own o e = (fd-open l fd n h own o.is_there o.own e).is_there

-- it is written; how much room there is doesn't matter
pub open_written : (l : Lending) (fd n : ℕ) (h new : Held) (f : Endpoint → Endpoint) → AtOwnPlaces l → IsOpenAt l fd n → held_at l n ≡ Some h → cell new ≡ cell (with_parts f h) → Changed (at_endpoint fd f ∷ []) l (with_held l n new)
open_written l fd n h new f own o e c = fd-written l fd n h new f o.own e (c ∙ parts-changed l fd h f (fd-open l fd n h own o.is_there o.own e))

-- where it isn't open, nothing changes
quiet-step : (b : Bool) (g : ℕ) (f : Endpoint → Endpoint) (e : Endpoint) → cond b (Some e) None ≡ None → endpoint_cell g (Some (cond b (f e) e)) ≡ endpoint_cell g (Some e)
quiet-step true g f e n = cc
quiet-step false g f e n = refl

quiet : (g : ℕ) (f : Endpoint → Endpoint) (c : Cell) → endpoint_in g c ≡ None → change_endpoint g f c ≡ c
quiet g f (endpoint_cell k None) n = refl
quiet g f (endpoint_cell k (Some e)) n = quiet-step (eqb k g) k f e n
quiet g f (switch_cell s) n = refl

quiet-here : (l : Lending) (fd : ℕ) (f : Endpoint → Endpoint) (o : Option Held) → held_at l (place_of l.providers fd) ≡ o → endpoint l.providers (cells l) fd ≡ None
    → option_map (change_endpoint (generation_of l.providers fd) f) (cell_lent l (place_of l.providers fd)) ≡ cell_lent l (place_of l.providers fd)
quiet-here l fd f None e n = rw (cell-gone l (place_of l.providers fd) (place-below l.providers fd) e) refl
quiet-here l fd f (Some h) e n =
    let q : change_endpoint (generation_of l.providers fd) f (cell h) ≡ cell h = quiet (generation_of l.providers fd) f (cell h) (sym (endpoint-is l fd h e) ∙ n) in
    rw (cell-is l (place_of l.providers fd) h (place-below l.providers fd) e, q) refl

quiet-at : (b : Bool) (l : Lending) (k m : ℕ) (f : Cell → Cell) → eqb k m ≡ b → option_map f (cell_lent l m) ≡ cell_lent l m → cell_lent l k ≡ cond b (option_map f (cell_lent l k)) (cell_lent l k)
quiet-at true l k m f t q = let s : k ≡ m = grind (arith, nat_tests) in rw s (sym q)
quiet-at false l k m f t q = refl

pub closed_unchanged : (l : Lending) (fd : ℕ) (f : Endpoint → Endpoint) → endpoint l.providers (cells l) fd ≡ None → Changed (at_endpoint fd f ∷ []) l l
closed_unchanged l fd f n =
    let m = place_of l.providers fd in
    let g = change_endpoint (generation_of l.providers fd) f in
    same-is l.providers (cell_lent l) (changed_at (cell_lent l) m g) (λ k small. quiet-at (eqb k m) l k m g refl (quiet-here l fd f (held_at l m) refl n)) ∙ sym (change-is l.providers (cell_lent l) m g)

-- the same cells are lent
pub open_same : (l : Lending) (n : ℕ) (h new : Held) → held_at l n ≡ Some h → new.place ≡ h.place → SameCells l (with_held l n new)
open_same l n h new e p = written-same l n h new e p

-- two changes that do the same at the open endpoint
alike-step : (b : Bool) (k : ℕ) (f g : Endpoint → Endpoint) (e : Endpoint) → (cond b (Some e) None ≡ Some e → f e ≡ g e) → endpoint_cell k (Some (cond b (f e) e)) ≡ endpoint_cell k (Some (cond b (g e) e))
alike-step true k f g e h = let s : f e ≡ g e = h refl in rw s refl
alike-step false k f g e h = refl

alike-cell : (n : ℕ) (f g : Endpoint → Endpoint) (c : Cell) → ((e : Endpoint) → endpoint_in n c ≡ Some e → f e ≡ g e) → change_endpoint n f c ≡ change_endpoint n g c
alike-cell n f g (endpoint_cell k None) h = refl
alike-cell n f g (endpoint_cell k (Some e)) h = alike-step (eqb k n) k f g e (h e)
alike-cell n f g (switch_cell s) h = refl

alike-here : (l : Lending) (fd : ℕ) (f g : Endpoint → Endpoint) (o : Option Held) → held_at l (place_of l.providers fd) ≡ o → ((e : Endpoint) → endpoint l.providers (cells l) fd ≡ Some e → f e ≡ g e)
    → option_map (change_endpoint (generation_of l.providers fd) f) (cell_lent l (place_of l.providers fd)) ≡ option_map (change_endpoint (generation_of l.providers fd) g) (cell_lent l (place_of l.providers fd))
alike-here l fd f g None e h = rw (cell-gone l (place_of l.providers fd) (place-below l.providers fd) e) refl
alike-here l fd f g (Some x) e h =
    let q = alike-cell (generation_of l.providers fd) f g (cell x) (λ y i. h y (endpoint-is l fd x e ∙ i)) in
    rw (cell-is l (place_of l.providers fd) x (place-below l.providers fd) e) (ap (λ (c : Cell). Some c) q)

alike-at : (b : Bool) (l : Lending) (k m : ℕ) (f g : Cell → Cell) → eqb k m ≡ b → option_map f (cell_lent l m) ≡ option_map g (cell_lent l m) → cond b (option_map f (cell_lent l k)) (cell_lent l k) ≡ cond b (option_map g (cell_lent l k)) (cell_lent l k)
alike-at true l k m f g t q = let s : k ≡ m = grind (arith, nat_tests) in rw s q
alike-at false l k m f g t q = refl

pub open_alike : (l : Lending) (fd : ℕ) (f g : Endpoint → Endpoint) → ((e : Endpoint) → endpoint l.providers (cells l) fd ≡ Some e → f e ≡ g e) → changed l.providers (cells l) (at_endpoint fd f ∷ []) ≡ changed l.providers (cells l) (at_endpoint fd g ∷ [])
open_alike l fd f g h =
    let m = place_of l.providers fd in
    let a = change_endpoint (generation_of l.providers fd) f in
    let b = change_endpoint (generation_of l.providers fd) g in
    change-is l.providers (cell_lent l) m a ∙ same-is l.providers (changed_at (cell_lent l) m a) (changed_at (cell_lent l) m b) (λ k small. alike-at (eqb k m) l k m a b refl (alike-here l fd f g (held_at l m) refl h)) ∙ sym (change-is l.providers (cell_lent l) m b)

-- one change after another
pub then_changed : (l m k : Lending) (c : Change) (cs : List Change) → Changed (c ∷ []) l m → m.providers ≡ l.providers → Changed cs m k → Changed (c ∷ cs) l k
then_changed l m k c cs a p b = b ∙ ap (λ (q : Providers). changed q (cells m) cs) p ∙ ap (λ (w : World). changed l.providers w cs) a
