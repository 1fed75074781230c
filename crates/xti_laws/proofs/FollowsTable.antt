-- From the rows that don't refuse a call to the row of the state table.
use Rattle.std.proofs.Common.{ℕ, Bool, true, false, List, [], ◌∷◌, ◌≡◌, ◌⊎◌, inl, inr, refl, sym, ap, ◌∙◌, cond, not, subst, map, Option, Some, None}
use Rattle.std.proofs.lemmas.Bool.{false≢true}
use Rattle.std.specs.Prelude.{unwrap_or, option_map}
use Rattle.xti_base.specs.Kinds.{same_state}
use Rattle.xti_base.specs.declared.kinds.State.TheVariants.{T_UNINIT}
use Rattle.xti_model.specs.declared.profile.Providers.{Providers}
use Rattle.xti_model.specs.Endpoint.{Endpoint, ocnt}
use Rattle.xti_model.specs.World.{World, Change, at_endpoint, changed, endpoint, state_of}
use Rattle.xti_model.specs.Plan.{Row, Plan, Refusal, answers, waits, loses, first, on_open, if_open, later, later_row, later_plan, has_effect}
use Rattle.xti_model.specs.Step.{step_of}
use Rattle.xti_model.specs.History.{left_by}
use Rattle.xti_model.specs.StateTable.{Move, is_in_table}
use Rattle.xti_laws.specs.Counts.{count_after}
use Rattle.xti_laws.specs.States.{ocnt_of, is_initialised}
use Rattle.xti_laws.proofs.ClearedRows.{Cleared, cleared}
use Rattle.xti_laws.proofs.TableRows.{LeadsTo}
use Rattle.xti_laws.proofs.SteadyUpdates.{Standing, standing}
use Rattle.xti_laws.proofs.Effects.{standing_in, closed, told-state, told-count, open-effect, step-effect, AllLeave, puts-first, leaves}

-- the standing that an effect leads to, with its row of the table; and its count, where something else is known
pub record TakenIf (K : Type 0) (p : Providers) (w : World) (fd : ℕ) (m : Move) (e : Endpoint) (effect lost_effect : List Change) : Type 0 where
  pub after : Option Standing
  pub row : not (same_state e.state T_UNINIT) ≡ true → is_in_table m e.state (ocnt e) (unwrap_or after closed).state ≡ true
  pub count : K → (unwrap_or after closed).count ≡ count_after m e.state (ocnt e)
  pub changes : standing_in p (changed p w effect) fd ≡ after
  pub lost : standing_in p (changed p w lost_effect) fd ≡ after

abbrev pub Taken : Providers → World → ℕ → Move → Endpoint → List Change → List Change → Type 0
Taken = TakenIf Unit

-- from one endpoint to another by a row of the table, and by its count where something else is known
abbrev pub FollowsIf : Type 0 → Move → Option Endpoint → Option Endpoint → Type 0
FollowsIf K m o q = (is_initialised o ≡ true → is_in_table m (state_of o) (ocnt_of o) (state_of q) ≡ true) × (K → ocnt_of q ≡ count_after m (state_of o) (ocnt_of o))

follows : (K : Type 0) (p : Providers) (w : World) (fd : ℕ) (m : Move) (e : Endpoint) (cs ds : List Change) → endpoint p w fd ≡ Some e → TakenIf K p w fd m e cs ds → (z : World) → (standing_in p z fd ≡ standing_in p (changed p w cs) fd) ⊎ (standing_in p z fd ≡ standing_in p (changed p w ds) fd)
    → FollowsIf K m (endpoint p w fd) (endpoint p z fd)
follows K p w fd m e cs ds i t z which = go which
  where
    at : standing_in p z fd ≡ t.after → FollowsIf K m (endpoint p w fd) (endpoint p z fd)
    at k = subst (λ x. FollowsIf K m x (endpoint p z fd)) (sym i)
        (λ b. ap (is_in_table m e.state (ocnt e)) (told-state (endpoint p z fd) ∙ ap (λ x. (unwrap_or x closed).state) k) ∙ t.row b, λ h. told-count (endpoint p z fd) ∙ (ap (λ x. (unwrap_or x closed).count) k ∙ t.count h))

    go : (standing_in p z fd ≡ standing_in p (changed p w cs) fd) ⊎ (standing_in p z fd ≡ standing_in p (changed p w ds) fd) → FollowsIf K m (endpoint p w fd) (endpoint p z fd)
    go (inl k) = at (k ∙ t.changes)
    go (inr k) = at (k ∙ t.lost)

pub take : (K : Type 0) (p : Providers) (w : World) (fd : ℕ) (m : Move) (f : Endpoint → Plan)
    → ((e : Endpoint) → endpoint p w fd ≡ Some e → Cleared (f e).rows → TakenIf K p w fd m e (f e).changes (f e).lost)
    → has_effect (first (on_open p w fd f).rows) ≡ true
    → FollowsIf K m (endpoint p w fd) (endpoint p (left_by w (step_of p w (on_open p w fd f))) fd)
take K p w fd m f h = open-effect (λ z. FollowsIf K m (endpoint p w fd) (endpoint p z fd)) p w fd f
    (λ e o j. let t : TakenIf K p w fd m e (f e).changes (f e).lost = h e o (cleared (f e).rows j) in (follows K p w fd m e (f e).changes (f e).lost o t (changed p w (f e).changes) (inl refl), follows K p w fd m e (f e).changes (f e).lost o t (changed p w (f e).lost) (inr refl)))

-- where the endpoint's own change is the first of the effect, and the others leave its standing
pub own : (p : Providers) (w : World) (fd : ℕ) (m : Move) (e : Endpoint) (f : Endpoint → Endpoint) (cs : List Change) → endpoint p w fd ≡ Some e → AllLeave fd cs → LeadsTo m e.state (ocnt e) (standing (f e))
    → Taken p w fd m e (at_endpoint fd f ∷ cs) (at_endpoint fd f ∷ cs)
own p w fd m e f cs o l h = record { after = Some (standing (f e)); row = h.0; count = λ k. h.1; changes = puts-first p w fd e f cs o l; lost = puts-first p w fd e f cs o l }

-- where every change leaves the endpoint's standing
pub stay : (p : Providers) (w : World) (fd : ℕ) (m : Move) (e : Endpoint) (cs ds : List Change) → endpoint p w fd ≡ Some e → AllLeave fd cs → AllLeave fd ds → LeadsTo m e.state (ocnt e) (standing e) → Taken p w fd m e cs ds
stay p w fd m e cs ds o l k h = record { after = Some (standing e); row = h.0; count = λ i. h.1; changes = leaves p fd cs l w ∙ ap (option_map standing) o; lost = leaves p fd ds k w ∙ ap (option_map standing) o }

-- where the whole effect is known to lead to a standing
pub leads_to : (p : Providers) (w : World) (fd : ℕ) (m : Move) (e : Endpoint) (cs : List Change) (s : Option Standing) → standing_in p (changed p w cs) fd ≡ s → LeadsTo m e.state (ocnt e) (unwrap_or s closed) → Taken p w fd m e cs cs
leads_to p w fd m e cs s k h = record { after = s; row = h.0; count = λ i. h.1; changes = k; lost = k }

later-effect : (n : ℕ) (rows : List Row) → has_effect (first (map (later_row n) rows)) ≡ true → has_effect (first rows) ≡ true
later-effect n [] h = h
later-effect n (row ∷ rows) h = go row.holds row.refusal h (later-effect n rows)
  where
    go : (b : Bool) (r : Refusal) → has_effect (cond b (Some (later n r)) (first (map (later_row n) rows))) ≡ true → (has_effect (first (map (later_row n) rows)) ≡ true → has_effect (first rows) ≡ true) → has_effect (cond b (Some r) (first rows)) ≡ true
    go true (answers reply) j k = j
    go true (waits reply) j k = j
    go true loses j k = j
    go false r j k = k j

-- a later step of a send takes what its first would
pub take-later : (p : Providers) (w : World) (fd n : ℕ) (m : Move) (f : Endpoint → Plan)
    → ((e : Endpoint) → endpoint p w fd ≡ Some e → Cleared (f e).rows → Taken p w fd m e (f e).changes (f e).lost)
    → has_effect (first (later_plan n (on_open p w fd f)).rows) ≡ true
    → FollowsIf Unit m (endpoint p w fd) (endpoint p (left_by w (step_of p w (later_plan n (on_open p w fd f)))) fd)
take-later p w fd n m f h = go (endpoint p w fd) refl
  where
    go : (o : Option Endpoint) → endpoint p w fd ≡ o → has_effect (first (later_plan n (if_open fd o f)).rows) ≡ true → FollowsIf Unit m (endpoint p w fd) (endpoint p (left_by w (step_of p w (later_plan n (if_open fd o f)))) fd)
    go None i j = absurd (false≢true j)
    go (Some e) i j =
        let t : Taken p w fd m e (f e).changes (f e).lost = h e i (cleared (f e).rows (later-effect n (f e).rows j)) in
        step-effect (λ z. FollowsIf Unit m (endpoint p w fd) (endpoint p z fd)) p w (later_plan n (f e)) (follows Unit p w fd m e (f e).changes (f e).lost i t (changed p w (f e).changes) (inl refl)) (follows Unit p w fd m e (f e).changes (f e).lost i t (changed p w (f e).lost) (inr refl)) j
