-- A place opens where the switch agrees with its cell.
use Rattle.std.proofs.Common.{ℕ, Bool, true, false, [], ◌∷◌, ◌≡◌, refl, sym, ap, subst, ◌∙◌, cond, not, eqb, ◌&&◌, ◌+◌, ◌*◌, ◌<◌, Option, Some, None, arith}
use Rattle.std.proofs.lemmas.Bool.{false≢true, eqb-true, eq-eqb, eqb-false}
use Rattle.std.proofs.lemmas.List.Quantifiers.{position-Some}
use Rattle.std.specs.Prelude.{is_none, option_map, option_and_then, ◌%◌, ◌/◌}
use Rattle.xti_base.specs.declared.kinds.Prov.{Prov}
use Rattle.xti_base.specs.declared.errno.Errno.TheVariants.{TBADNAME, TSYSERR}
use Rattle.xti_model.specs.declared.call.Call.TheVariants as call
use Rattle.xti_model.specs.declared.entry.Go.{Go}
use Rattle.xti_model.specs.declared.profile.Providers.{Providers}
use Rattle.xti_model.specs.Provider.{is_provider, profile}
use Rattle.xti_model.specs.Endpoint.{Endpoint, opened}
use Rattle.xti_model.specs.World.{World, Switch, Cell, Numbered, endpoint_cell, switch_cell, change, open_cell, opens_place, at_switch, changed, cell_at, endpoint, endpoint_in, place_of, generation_of, descriptor, places, the_switch, closed_place}
use Rattle.xti_model.specs.Switch.{free_place, opening_place, if_provider, is_free, place_at, mark_open}
use Rattle.xti_model.specs.Plan.{Plan, first, refuses, has_effect}
use Rattle.xti_model.specs.Step.{step, plan, step_of, step_by, first_refusal}
use Rattle.xti_model.specs.History.{left_by}
use Rattle.xti_model.specs.Sound.{ThereAgrees, CellAgrees}
use Rattle.xti_model.specs.StateTable.{by_open}
use Rattle.xti_model.specs.Calls.Open as Open
use Rattle.xti_laws.specs.States.{told, next, OpensWhereItAgrees}
use Rattle.xti_laws.proofs.FollowsTable.{FollowsIf}
use Rattle.xti_laws.proofs.ChangedEndpoints.{cell_at-same, cell_at-other, recell, switch-other}
use Rattle.xti_laws.proofs.Places.{place-is, generation-is, descriptor-is}

-- where no row of an open refuses, a place opens
open-some : (b : Bool) (o : Option ℕ) → has_effect (first (refuses (not b) TBADNAME ∷ refuses (is_none o) TSYSERR ∷ [])) ≡ true → if_provider b o ≡ None → ⊥
open-some false o h k = false≢true h
open-some true None h k = false≢true h
open-some true (Some n) h k = false≢true (ap is_none (sym (sym k)))

open-rows : (p : Providers) (s : Switch) (prov : Prov) (nonblock : Bool) (o : Option ℕ) → (Open.plan_where p s prov nonblock o).rows ≡ Open.rows p s prov
open-rows p s prov nonblock None = refl
open-rows p s prov nonblock (Some n) = refl

-- the effect is then made
open-made : (P : World → Type 0) (p : Providers) (w : World) (x : Plan) (b d : Bool) → P (changed p w x.changes) → has_effect (first (refuses b TBADNAME ∷ refuses d TSYSERR ∷ [])) ≡ true → P (left_by w (step_by p w x (first (refuses b TBADNAME ∷ refuses d TSYSERR ∷ []))))
open-made P p w x true d h k = absurd (false≢true k)
open-made P p w x false true h k = absurd (false≢true k)
open-made P p w x false false h k = h

-- the place that opens is closed, as the switch knows it
free-closed : (p : Providers) (s : Switch) (prov : Prov) (n : ℕ) → opening_place p s prov ≡ Some n → (place_at s n).is_open ≡ false
free-closed p s prov n h = go (is_provider prov) h
  where
    not-open : (b d : Bool) → (not b && d) ≡ true → b ≡ false
    not-open true d j = absurd (false≢true j)
    not-open false d j = refl

    go : (b : Bool) → if_provider b (free_place p s) ≡ Some n → (place_at s n).is_open ≡ false
    go true j = not-open (place_at s n).is_open _ (position-Some (is_free p) s.places n closed_place j).1
    go false j = absurd (false≢true (ap is_none (sym j)))

-- what the cell of that place has
pub record Closed (w : World) (n g : ℕ) : Type 0 where
  pub there : Numbered
  pub is_there : cell_at w n ≡ Some there
  pub is_closed : there.cell ≡ endpoint_cell g None

closed-cell : (p : Providers) (s : Switch) (n : ℕ) → (place_at s n).is_open ≡ false → (c : Cell) → CellAgrees p s n c → c ≡ endpoint_cell (place_at s n).generation None
closed-cell p s n k (endpoint_cell g None) a = ap (λ x. endpoint_cell x None) (sym a.generation_known)
closed-cell p s n k (endpoint_cell g (Some e)) a = absurd (false≢true (sym k ∙ a.openness_known))
closed-cell p s n k (switch_cell other) a = absurd a

pub closed-there : (p : Providers) (s : Switch) (w : World) (n : ℕ) → (place_at s n).is_open ≡ false → ThereAgrees p s n (cell_at w n) → Closed w n (place_at s n).generation
closed-there p s w n k = go (cell_at w n) refl
  where
    go : (o : Option Numbered) → cell_at w n ≡ o → ThereAgrees p s n o → Closed w n (place_at s n).generation
    go None h a = absurd a
    go (Some c) h a = record { there = c; is_there = h; is_closed = closed-cell p s n k c.cell a }

-- a descriptor is its place and generation
pub looked : (p : Providers) (w : World) (g n : ℕ) → n < places p → endpoint p w (descriptor p g n) ≡ option_and_then (λ c. endpoint_in g c.cell) (cell_at w n)
looked p w g n h = ap (λ z. option_and_then (λ c. endpoint_in (generation_of p (descriptor p g n)) c.cell) (cell_at w z)) (place-is p g n h) ∙ ap (λ z. option_and_then (λ c. endpoint_in z c.cell) (cell_at w n)) (generation-is p g n h)

none-either : (b : Bool) → cond {A = Option Endpoint} b None None ≡ None
none-either true = refl
none-either false = refl

before : (p : Providers) (w : World) (g n : ℕ) → n < places p → Closed w n g → endpoint p w (descriptor p g n) ≡ None
before p w g n h c = looked p w g n h ∙ (ap (option_and_then (λ z. endpoint_in g z.cell)) c.is_there ∙ (ap (endpoint_in g) c.is_closed ∙ none-either (eqb g g)))

pub after : (p : Providers) (w : World) (g n : ℕ) (e : Endpoint) → n < places p → Closed w n g → endpoint p (change n (open_cell e) w) (descriptor p g n) ≡ Some e
after p w g n e h c =
    looked p (change n (open_cell e) w) g n h ∙ (ap (option_and_then (λ z. endpoint_in g z.cell)) (cell_at-same n (open_cell e) w ∙ ap (option_map (recell (open_cell e))) c.is_there) ∙
    (ap (λ z. endpoint_in g (open_cell e z)) c.is_closed ∙ ap (λ b. cond b (Some e) None) (eq-eqb g g refl)))

-- any other descriptor has what it had
pub elsewhere : (p : Providers) (w : World) (g n x : ℕ) (e : Endpoint) → Closed w n g → eqb x (descriptor p g n) ≡ false → endpoint p (change n (open_cell e) w) x ≡ endpoint p w x
elsewhere p w g n x e c k = go (eqb (place_of p x) n) refl
  where
    other-generation : place_of p x ≡ n → (b : Bool) → eqb g (generation_of p x) ≡ b → cond b (Some e) None ≡ cond {A = Option Endpoint} b None None
    other-generation i true j = absurd (eqb-false x (descriptor p g n) k (descriptor-is p x g n i (sym (eqb-true g (generation_of p x) j))))
    other-generation i false j = refl

    here : place_of p x ≡ n → endpoint p (change n (open_cell e) w) x ≡ endpoint p w x
    here i =
        ap (λ z. option_and_then (λ c. endpoint_in (generation_of p x) c.cell) (cell_at (change n (open_cell e) w) z)) i ∙
        (ap (option_and_then (λ z. endpoint_in (generation_of p x) z.cell)) (cell_at-same n (open_cell e) w ∙ ap (option_map (recell (open_cell e))) c.is_there) ∙
        (ap (λ z. endpoint_in (generation_of p x) (open_cell e z)) c.is_closed ∙ (other-generation i (eqb g (generation_of p x)) refl ∙
        (sym (ap (endpoint_in (generation_of p x)) c.is_closed) ∙ (sym (ap (option_and_then (λ z. endpoint_in (generation_of p x) z.cell)) c.is_there) ∙
        ap (λ z. option_and_then (λ c. endpoint_in (generation_of p x) c.cell) (cell_at w z)) (sym i))))))

    go : (b : Bool) → eqb (place_of p x) n ≡ b → endpoint p (change n (open_cell e) w) x ≡ endpoint p w x
    go true i = here (eqb-true (place_of p x) n i)
    go false i = ap (option_and_then (λ c. endpoint_in (generation_of p x) c.cell)) (cell_at-other n (place_of p x) i (open_cell e) w)

opened-at : (p : Providers) (w : World) (prov : Prov) (nonblock : Bool) (g n : ℕ) → n < places p → Closed w n g
    → FollowsIf Unit by_open (endpoint p w (descriptor p g n)) (endpoint p (changed p w (opens_place n (opened (profile p prov) prov nonblock) ∷ at_switch (mark_open n) ∷ [])) (descriptor p g n))
opened-at p w prov nonblock g n h c =
    subst (λ x. FollowsIf Unit by_open x (endpoint p (changed p w (opens_place n (opened (profile p prov) prov nonblock) ∷ at_switch (mark_open n) ∷ [])) (descriptor p g n))) (sym (before p w g n h c))
    (subst (FollowsIf Unit by_open None) (sym (switch-other p (mark_open n) (descriptor p g n) (change n (open_cell (opened (profile p prov) prov nonblock)) w) ∙ after p w g n (opened (profile p prov) prov nonblock) h c)) (λ i. refl, λ k. refl))

pub open-takes : (p : Providers) (w : World) (prov : Prov) (nonblock : Bool) (g : Go) → OpensWhereItAgrees p w (call.TOpen prov nonblock) → has_effect (first_refusal p w (call.TOpen prov nonblock) g) ≡ true
    → FollowsIf Unit by_open (endpoint p w (told p w (call.TOpen prov nonblock) g)) (endpoint p (next p w (call.TOpen prov nonblock) g) (told p w (call.TOpen prov nonblock) g))
unfolding step plan
open-takes p w prov nonblock g a = go (opening_place p (the_switch p w) prov) refl
  where
    s : Switch
    s = the_switch p w

    go : (o : Option ℕ) → opening_place p s prov ≡ o → has_effect (first (Open.plan_where p s prov nonblock o).rows) ≡ true
        → FollowsIf Unit by_open (endpoint p w (Open.plan_where p s prov nonblock o).fd) (endpoint p (left_by w (step_of p w (Open.plan_where p s prov nonblock o))) (Open.plan_where p s prov nonblock o).fd)
    go None h j = absurd (open-some (is_provider prov) (free_place p s) j h)
    go (Some n) h j = open-made (λ z. FollowsIf Unit by_open (endpoint p w (Open.fd_at p s n)) (endpoint p z (Open.fd_at p s n))) p w (Open.plan_at p s prov nonblock n) (not (is_provider prov)) (is_none (free_place p s))
        (opened-at p w prov nonblock (place_at s n).generation n (a n h).0 (closed-there p s w n (free-closed p s prov n h) (a n h).1)) j

-- every other descriptor has the endpoint that it had
pub open-others : (p : Providers) (w : World) (prov : Prov) (nonblock : Bool) (g : Go) → OpensWhereItAgrees p w (call.TOpen prov nonblock) → (x : ℕ) → eqb x (told p w (call.TOpen prov nonblock) g) ≡ false
    → endpoint p (next p w (call.TOpen prov nonblock) g) x ≡ endpoint p w x
unfolding step plan
open-others p w prov nonblock g a x = go (opening_place p (the_switch p w) prov) refl
  where
    s : Switch
    s = the_switch p w

    steps : (b d : Bool) (y : Plan) → endpoint p (changed p w y.changes) x ≡ endpoint p w x → endpoint p (left_by w (step_by p w y (first (refuses b TBADNAME ∷ refuses d TSYSERR ∷ [])))) x ≡ endpoint p w x
    steps true d y k = refl
    steps false true y k = refl
    steps false false y k = k

    go : (o : Option ℕ) → opening_place p s prov ≡ o → eqb x (Open.plan_where p s prov nonblock o).fd ≡ false → endpoint p (left_by w (step_of p w (Open.plan_where p s prov nonblock o))) x ≡ endpoint p w x
    go None h k = steps (not (is_provider prov)) (is_none (free_place p s)) (Open.refused_plan p s prov nonblock) refl
    go (Some n) h k = steps (not (is_provider prov)) (is_none (free_place p s)) (Open.plan_at p s prov nonblock n)
        (switch-other p (mark_open n) x (change n (open_cell (opened (profile p prov) prov nonblock)) w) ∙
        elsewhere p w (place_at s n).generation n x (opened (profile p prov) prov nonblock) (closed-there p s w n (free-closed p s prov n h) (a n h).1) k)
