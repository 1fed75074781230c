-- Changes that the switch doesn't see, and what each change leaves sound.
use Rattle.std.proofs.Common.{ℕ, Bool, true, false, List, [], ◌∷◌, ◌≡◌, refl, sym, ap, ◌∙◌, subst, eqb, cond, Option, Some, None}
use Rattle.std.proofs.lemmas.Bool.{eqb-true}
use Rattle.std.specs.Prelude.{option_map}
use Rattle.xti_model.specs.declared.profile.Providers.{Providers}
use Rattle.xti_model.specs.Endpoint.{Endpoint}
use Rattle.xti_model.specs.World.{World, Numbered, Cell, Switch, endpoint_cell, switch_cell, Change, at_endpoint, at_switch, change, changed, change_endpoint, cell_at, endpoint, place_of, generation_of, descriptor, the_switch}
use Rattle.xti_model.specs.Sound.{Agrees, ThereAgrees, CellAgrees, Agreement, binding_to}
use Rattle.xti_laws.proofs.ChangedEndpoints.{cell_at-same, cell_at-other, recell, endpoint-same, switch-other}
use Rattle.xti_laws.specs.Invariant.{Registered, SoundEndpoints, BoundOnce, SoundPlaces}
use Rattle.xti_model.specs.Links.{if_names, names}
use Rattle.xti_laws.proofs.OneChange.{one_world, one-other}
use Rattle.xti_laws.proofs.StepWays.{some-is, none-is}
use Rattle.xti_laws.specs.Endpoints.{SoundEndpoint}
use Rattle.xti_laws.proofs.ChangedCells.{numbers-kept, switch-kept, agreement-moved}
use Rattle.xti_model.proofs.PlaceNumbers.{below}

-- the update leaves what the switch knows of an endpoint
abbrev pub Quiet : (Endpoint → Endpoint) → Type 0
Quiet f = (fd : ℕ) (e : Endpoint) → binding_to fd (f e) (f e).address ≡ binding_to fd e e.address

quiet-cell : (p : Providers) (s : Switch) (n g : ℕ) (f : Endpoint → Endpoint) → Quiet f → (c : Cell) → CellAgrees p s n c → CellAgrees p s n (change_endpoint g f c)
quiet-cell p s n g f q (switch_cell other) a = a
quiet-cell p s n g f q (endpoint_cell m None) a = a
quiet-cell p s n g f q (endpoint_cell m (Some e)) a = go (eqb m g)
  where
    go : (b : Bool) → Agrees p s n m (Some (cond b (f e) e))
    go false = a
    go true = record { generation_known = a.generation_known; openness_known = a.openness_known; bindings_known = a.bindings_known ∙ sym (q (descriptor p m n) e) }

quiet-there : (p : Providers) (s : Switch) (n g : ℕ) (f : Endpoint → Endpoint) → Quiet f → (o : Option Numbered) → ThereAgrees p s n o → ThereAgrees p s n (option_map (recell (change_endpoint g f)) o)
quiet-there p s n g f q None a = a
quiet-there p s n g f q (Some c) a = quiet-cell p s n g f q c.cell a

quiet-agreement : (p : Providers) (w : World) (fd : ℕ) (f : Endpoint → Endpoint) → Quiet f → Agreement p w → Agreement p (change (place_of p fd) (change_endpoint (generation_of p fd) f) w)
quiet-agreement p w fd f q h =
    agreement-moved p w (change (place_of p fd) (change_endpoint (generation_of p fd) f) w) (place_of p fd) (the_switch p w) (switch-kept p (place_of p fd) (change_endpoint (generation_of p fd) f) w (below p fd)) h.places_known
    (λ m j e. cell_at-other (place_of p fd) m e (change_endpoint (generation_of p fd) f) w) (λ m g body e a. a)
    (subst (ThereAgrees p (the_switch p w) (place_of p fd)) (sym (cell_at-same (place_of p fd) (change_endpoint (generation_of p fd) f) w)) (quiet-there p (the_switch p w) (place_of p fd) (generation_of p fd) f q (cell_at w (place_of p fd)) (h.each_agrees (place_of p fd) (below p fd)))) h

pub quiet-registered : (p : Providers) (w : World) (fd : ℕ) (f : Endpoint → Endpoint) → Quiet f → Registered p w → Registered p (one_world p w fd f)
quiet-registered p w fd f q h = record {
  cells = numbers-kept (place_of p fd) (change_endpoint (generation_of p fd) f) w ∙ h.cells;
  agreement = quiet-agreement p w fd f q h.agreement;
  bound_once = subst BoundOnce (sym s) h.bound_once;
  places = subst (SoundPlaces p) (sym s) h.places;
}
  where
    s : the_switch p (change (place_of p fd) (change_endpoint (generation_of p fd) f) w) ≡ the_switch p w
    s = switch-kept p (place_of p fd) (change_endpoint (generation_of p fd) f) w (below p fd)

-- The endpoints of a world but for one descriptor.
abbrev pub SoundBeside : Providers → World → ℕ → Type 0
SoundBeside p w fd = (x : ℕ) (e : Endpoint) → eqb x fd ≡ false → endpoint p w x ≡ Some e → SoundEndpoint e

pub beside : (p : Providers) (w : World) (fd : ℕ) → SoundEndpoints p w → SoundBeside p w fd
beside p w fd h x e n o = h x e o

pub beside-one : (p : Providers) (w : World) (fd : ℕ) (f : Endpoint → Endpoint) → SoundBeside p w fd → SoundBeside p (one_world p w fd f) fd
beside-one p w fd f h x e n o = h x e n (sym (one-other p w fd f x n) ∙ o)

pub beside-switch : (p : Providers) (w : World) (fd : ℕ) (k : Switch → Switch) → SoundBeside p w fd → SoundBeside p (changed p w (at_switch k ∷ [])) fd
beside-switch p w fd k h x e n o = h x e n (sym (switch-other p k x w) ∙ o)

pub with-it : (p : Providers) (w : World) (fd : ℕ) → ((e : Endpoint) → endpoint p w fd ≡ Some e → SoundEndpoint e) → SoundBeside p w fd → SoundEndpoints p w
with-it p w fd k h x e o = go (eqb x fd) refl
  where
    go : (b : Bool) → eqb x fd ≡ b → SoundEndpoint e
    go true j = k e (ap (endpoint p w) (sym (eqb-true x fd j)) ∙ o)
    go false j = h x e j o

pub mapped-fit : (f : Endpoint → Endpoint) (o : Option Endpoint) → ((e : Endpoint) → o ≡ Some e → SoundEndpoint (f e)) → (e : Endpoint) → option_map f o ≡ Some e → SoundEndpoint e
mapped-fit f None k e i = absurd (none-is e i)
mapped-fit f (Some d) k e i = subst SoundEndpoint (some-is (f d) e i) (k d refl)

pub one-fit : (p : Providers) (w : World) (fd : ℕ) (f : Endpoint → Endpoint) → ((e : Endpoint) → endpoint p w fd ≡ Some e → SoundEndpoint (f e)) → SoundEndpoints p w → SoundEndpoints p (one_world p w fd f)
one-fit p w fd f k h = with-it p (one_world p w fd f) fd (λ e i. mapped-fit f (endpoint p w fd) k e (sym (endpoint-same p fd f w) ∙ i)) (beside-one p w fd f (beside p w fd h))

pub switch-fit : (p : Providers) (w : World) (k : Switch → Switch) → SoundEndpoints p w → SoundEndpoints p (changed p w (at_switch k ∷ []))
switch-fit p w k h x e o = h x e (sym (switch-other p k x w) ∙ o)

-- Both.
abbrev pub Parts : Providers → World → Type 0
Parts p w = Registered p w × SoundEndpoints p w

pub one-parts : (p : Providers) (w : World) (fd : ℕ) (f : Endpoint → Endpoint) → Quiet f → ((e : Endpoint) → endpoint p w fd ≡ Some e → SoundEndpoint (f e)) → Parts p w → Parts p (one_world p w fd f)
one-parts p w fd f q k h = (quiet-registered p w fd f q h.0, one-fit p w fd f k h.1)

-- of the endpoint that is known to be open there
pub own-parts : (p : Providers) (w : World) (fd : ℕ) (f : Endpoint → Endpoint) (e : Endpoint) → Quiet f → endpoint p w fd ≡ Some e → SoundEndpoint (f e) → Parts p w → Parts p (one_world p w fd f)
own-parts p w fd f e q o k h = one-parts p w fd f q (λ y i. subst (λ z. SoundEndpoint (f z)) (some-is e y (sym o ∙ i)) k) h

-- changes that the switch doesn't see and that leave every sound endpoint sound
abbrev pub Fit : (Endpoint → Endpoint) → Type 0
Fit f = (e : Endpoint) → SoundEndpoint e → SoundEndpoint (f e)

pub data Calm : Change → Type 0 where
  calm_at : (z : ℕ) (f : Endpoint → Endpoint) → Quiet f → Fit f → Calm (at_endpoint z f)

abbrev pub AllCalm : List Change → Type 0
AllCalm [] = Unit {0}
AllCalm (c ∷ cs) = Calm c × AllCalm cs

one-calm : (p : Providers) (w : World) (c : Change) → Calm c → Parts p w → Parts p (changed p w (c ∷ []))
one-calm p w c (calm_at z f q k) h = one-parts p w z f q (λ e o. k e (h.1 z e o)) h

pub calm-parts : (p : Providers) (cs : List Change) → AllCalm cs → (w : World) → Parts p w → Parts p (changed p w cs)
calm-parts p [] c w h = h
calm-parts p (x ∷ cs) c w h = calm-parts p cs c.1 (changed p w (x ∷ [])) (one-calm p w x c.0 h)

pub quiet-named : (fd : ℕ) (f : Endpoint → Endpoint) → Quiet f → Quiet (if_names fd f)
quiet-named fd f q z e = go (names fd e.peer)
  where
    go : (b : Bool) → binding_to z (cond b (f e) e) (cond b (f e) e).address ≡ binding_to z e e.address
    go true = q z e
    go false = refl

pub quiet-cond : (b : Bool) (x y e : Endpoint) (z : ℕ) → binding_to z x x.address ≡ binding_to z e e.address → binding_to z y y.address ≡ binding_to z e e.address → binding_to z (cond b x y) (cond b x y).address ≡ binding_to z e e.address
quiet-cond true x y e z h k = h
quiet-cond false x y e z h k = k
