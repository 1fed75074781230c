-- The facts across cells hold after any entries.
use Rattle.std.proofs.Common.{ℕ, zero, suc, Bool, true, false, List, [], ◌∷◌, ◌++◌, ◌+◌, ◌≡◌, refl, sym, subst, ◌∙◌, cond, eqb, Option, Some, None}
use Rattle.std.specs.Prelude.{option_and_then}
use Rattle.xti_model.specs.declared.entry.Entry.{Entry}
use Rattle.xti_model.specs.declared.profile.Providers.{Providers}
use Rattle.xti_model.specs.Endpoint.{Endpoint}
use Rattle.xti_model.specs.declared.profile.Version.{Version}
use Rattle.xti_model.specs.declared.profile.Version.TheVariants.{One, Two}
use Rattle.xti_model.specs.World.{World, Numbered, Switch, endpoint_cell, switch_cell, opening, opening_switch, closed_places, cell_at, endpoint, endpoint_in, place_of, places, places_of, generation_of, switch_number, switch_or_empty, the_switch}
use Rattle.xti_model.specs.Step.{Step, step}
use Rattle.xti_model.specs.History.{Going, doing, step_going, step_at, left_by, after_from}
use Rattle.xti_laws.specs.Requests.{SoundLinks, AllOpen, BoundToOpen}
use Rattle.xti_laws.proofs.StepWays.{none-is}
use Rattle.xti_laws.proofs.Steps.{sound-step, bound-step}

-- what holds of every world
pub record Sound (p : Providers) (w : World) : Type 0 where
  pub links : SoundLinks p w
  pub bound : BoundToOpen p w

pub left-sound : (p : Providers) (w : World) (o : Option Going) → Sound p w → Sound p (left_by w (option_and_then (step_going p w) o))
left-sound p w None s = s
left-sound p w (Some g) s = go (step p w g.call g.so_far) refl
  where
    go : (o : Option Step) → step p w g.call g.so_far ≡ o → Sound p (left_by w o)
    go None h = s
    go (Some t) h = record { links = sound-step p w g.call g.so_far t s.links s.bound h; bound = bound-step p w g.call g.so_far t s.bound h }

pub after-sound : (p : Providers) (w : World) (past es : List Entry) → Sound p w → Sound p (after_from p w past es)
after-sound p w past [] s = s
after-sound p w past (e ∷ es) s = after-sound p (left_by w (step_at p w past e)) (past ++ e ∷ []) es (left-sound p w (doing past e) s)

-- In the opening world nothing is open, and no address is bound.
in-none : (g : ℕ) → endpoint_in g (endpoint_cell 0 None) ≡ None
in-none g = go (eqb 0 g)
  where
    go : (b : Bool) → cond {A = Option Endpoint} b None None ≡ None
    go true = refl
    go false = refl

closed-none : (p : Providers) (fd from n : ℕ) (w : World) → endpoint p w fd ≡ None → endpoint p (closed_places from n ++ w) fd ≡ None
closed-none p fd from zero w h = h
closed-none p fd from (suc n) w h = go (eqb from (place_of p fd)) (closed-none p fd (from + 1) n w h)
  where
    go : (b : Bool) → endpoint p (closed_places (from + 1) n ++ w) fd ≡ None → option_and_then (λ (z : Numbered). endpoint_in (generation_of p fd) z.cell) (cond b (Some (record { number = from; cell = endpoint_cell 0 None })) (cell_at (closed_places (from + 1) n ++ w) (place_of p fd))) ≡ None
    go true h = in-none (generation_of p fd)
    go false h = h

pub opening-none : (p : Providers) (fd : ℕ) → endpoint p (opening p) fd ≡ None
unfolding opening
opening-none p fd = closed-none p fd 0 (places p) (record { number = switch_number p; cell = switch_cell (opening_switch (places p)) } ∷ []) (go (eqb (switch_number p) (place_of p fd)))
  where
    go : (b : Bool) → option_and_then (λ (z : Numbered). endpoint_in (generation_of p fd) z.cell) (cond b (Some (record { number = switch_number p; cell = switch_cell (opening_switch (places p)) })) None) ≡ None
    go true = refl
    go false = refl

pub opening-the-switch : (p : Providers) → the_switch p (opening p) ≡ opening_switch (places p)
unfolding opening
opening-the-switch p = go p.version
  where
    go : (v : Version) → switch_or_empty (cell_at (closed_places 0 (places_of v) ++ record { number = places_of v; cell = switch_cell (opening_switch (places_of v)) } ∷ []) (places_of v)) ≡ opening_switch (places_of v)
    go One = refl
    go Two = refl

opening-bound : (p : Providers) → BoundToOpen p (opening p)
opening-bound p = subst (λ (s : Switch). AllOpen p (opening p) s.bindings) (sym (opening-the-switch p)) tt

pub opening-sound : (p : Providers) → Sound p (opening p)
opening-sound p = record {
  links = record {
    good = λ fd e o. absurd (none-is e (sym (opening-none p fd) ∙ o));
    asked = λ l n c e o s. absurd (none-is e (sym (opening-none p l) ∙ o));
    asks = λ c e t x o h. absurd (none-is e (sym (opening-none p c) ∙ o));
  };
  bound = opening-bound p;
}
