-- A step is settled by the touched cells, and changes no others.
use Rattle.std.proofs.Common.{ℕ, Bool, true, false, List, [], ◌∷◌, ◌++◌, ◌≡◌, refl, sym, ap, ◌∙◌, subst, eqb, length, ◌+◌, ◌*◌, ◌<◌, ◌≤◌, Option, Some, None, arith}
use Rattle.std.proofs.lemmas.Bool.{false≢true, eqb-true}
use Rattle.std.proofs.lemmas.List.Quantifiers.{position-Some}
use Rattle.std.specs.Prelude.{option_map, option_and_then, option_to_list, ◌%◌, is_none}
use Rattle.xti_base.specs.declared.kinds.Prov.{Prov}
use Rattle.xti_model.specs.declared.call.Call.{Call}
use Rattle.xti_model.specs.declared.call.Call.TheVariants as call
use Rattle.xti_model.specs.declared.entry.Go.{Go}
use Rattle.xti_model.specs.declared.entry.Outcome.{Outcome}
use Rattle.xti_model.specs.declared.profile.Providers.{Providers}
use Rattle.xti_model.specs.Provider.{is_provider}
use Rattle.xti_model.specs.World.{World, Switch, closed_place, cell_at, endpoint, endpoint_in, generation_of, is_among, only, without, place_of, places, state_of, the_switch}
use Rattle.xti_model.specs.Switch.{free_place, opening_place, if_provider, is_free, place_at}
use Rattle.xti_model.specs.Plan.{Refusal, answers, waits, loses, first}
use Rattle.xti_model.specs.Step.{plan, step, step_of, step_by, made}
use Rattle.xti_model.specs.History.{left_by}
use Rattle.xti_model.specs.Touched.{named, touched, others, fd_of, cell_of}
use Rattle.xti_model.specs.Calls.Open as Open
use Rattle.xti_laws.specs.Laws.{Within, restrict, KnowsNoMore, TellsNone}
use Rattle.xti_laws.proofs.Only.{endpoint-only, the_switch-only}
use Rattle.xti_laws.proofs.Local.{step-local}
use Rattle.xti_laws.proofs.Others.{step-others}
use Rattle.xti_laws.proofs.Touched.{touched-within, within-named}
use Rattle.xti_laws.proofs.TouchedAgain.{named-some}
use Rattle.xti_laws.proofs.TableWalk.{told-fd, ToldIs}
use Rattle.xti_laws.proofs.Places.{place-is}

pub none-some : (n : ℕ) → None ≡ Some n → ⊥
none-some n k = false≢true (ap is_none (sym k))

pub within : (n k m : ℕ) → n < k → k ≤ m → n < m
within n k m i j = omega (arith, i, j)

pub opening-small : (p : Providers) (s : Switch) (prov : Prov) (n : ℕ) → length s.places ≤ places p → opening_place p s prov ≡ Some n → n < places p
opening-small p s prov n k = go (is_provider prov)
  where
    go : (b : Bool) → if_provider b (free_place p s) ≡ Some n → n < places p
    go true h = let i : n < length s.places = (position-Some (is_free p) s.places n closed_place h).0 in within n (length s.places) (places p) i k
    go false h = absurd (none-some n h)

-- The endpoint whose state is told is among them, but for an open that no place can take.
pub head-within : (p : Providers) (t : List ℕ) (ns : List ℕ) (o : Option ℕ) (fd : ℕ) → o ≡ Some fd → Within t (cell_of p o ++ ns) → is_among t (place_of p fd) ≡ true
head-within p t ns None fd i h = absurd (none-some fd i)
head-within p t ns (Some x) fd i h = (subst (λ z. Within t (cell_of p z ++ ns)) i h).0

pub told-at : (p : Providers) (t : List ℕ) (w : World) (c : Call) (g : Go) (o : Option ℕ) → fd_of c ≡ o → is_none o ≡ false → ToldIs p w c g o → Within t (named p w c) → is_among t (place_of p (plan p w c g).fd) ≡ true
told-at p t w c g None i n e h = absurd (false≢true (sym n))
told-at p t w c g (Some fd) i n e h = ap (λ z. is_among t (place_of p z)) e ∙ head-within p t (others p w c) (fd_of c) fd i h

pub cell_at-gone : (t : List ℕ) (n : ℕ) → is_among t n ≡ false → (w : World) → cell_at (only t w) n ≡ None
cell_at-gone t n k [] = refl
cell_at-gone t n k (c ∷ w) = go (is_among t c.number) refl (eqb c.number n) refl (cell_at-gone t n k w)
  where
    go : (b : Bool) → is_among t c.number ≡ b → (d : Bool) → eqb c.number n ≡ d → cell_at (only t w) n ≡ None → cell_at (only t (c ∷ w)) n ≡ None
    go true h true g ih = absurd (false≢true (sym k ∙ (ap (is_among t) (sym (eqb-true c.number n g)) ∙ h)))
    go true h false g ih = simp (h, g) ih
    go false h d g ih = simp h ih

pub none-only : (p : Providers) (t : List ℕ) (w : World) (fd : ℕ) → endpoint p w fd ≡ None → endpoint p (only t w) fd ≡ None
none-only p t w fd h = go (is_among t (place_of p fd)) refl
  where
    go : (b : Bool) → is_among t (place_of p fd) ≡ b → endpoint p (only t w) fd ≡ None
    go true k = endpoint-only p t fd k w ∙ h
    go false k = ap (option_and_then (λ c. endpoint_in (generation_of p fd) c.cell)) (cell_at-gone t (place_of p fd) k w)

pub none-made : (p : Providers) (t : List ℕ) (w : World) (fd : ℕ) (outcome : Outcome) → endpoint p w fd ≡ None → made p fd outcome (only t w) ≡ restrict t (made p fd outcome w)
none-made p t w fd outcome h = ap (λ e. record { outcome = outcome; after = state_of e; world = only t w }) (none-only p t w fd h ∙ sym h)

pub refused-only : (p : Providers) (t : List ℕ) (w : World) (s : Switch) (prov : Prov) (nonblock : Bool) → endpoint p w Open.no_fd ≡ None → (r : Option Refusal)
    → step_by p (only t w) (Open.refused_plan p s prov nonblock) r ≡ option_map (restrict t) (step_by p w (Open.refused_plan p s prov nonblock) r)
refused-only p t w s prov nonblock h None = ap Some (none-made p t w Open.no_fd _ h)
refused-only p t w s prov nonblock h (Some (answers reply)) = ap Some (none-made p t w Open.no_fd _ h)
refused-only p t w s prov nonblock h (Some (waits reply)) = go nonblock
  where
    go : (b : Bool) → step_by p (only t w) (Open.refused_plan p s prov b) (Some (waits reply)) ≡ option_map (restrict t) (step_by p w (Open.refused_plan p s prov b) (Some (waits reply)))
    go true = ap Some (none-made p t w Open.no_fd _ h)
    go false = refl
refused-only p t w s prov nonblock h (Some loses) = ap Some (none-made p t w Open.no_fd _ h)

pub open-reads : (p : Providers) (t : List ℕ) (w : World) (prov : Prov) (nonblock : Bool) (g : Go) → KnowsNoMore p w → TellsNone p w (call.TOpen prov nonblock) → Within t (named p w (call.TOpen prov nonblock))
    → step p (only t w) (call.TOpen prov nonblock) g ≡ option_map (restrict t) (step p w (call.TOpen prov nonblock) g)
unfolding step plan
open-reads p t w prov nonblock g k n within = go (opening_place p (the_switch p w) prov) refl
  where
    same : the_switch p (only t w) ≡ the_switch p w
    same = the_switch-only p t within.0 w

    go : (o : Option ℕ) → opening_place p (the_switch p w) prov ≡ o → step p (only t w) (call.TOpen prov nonblock) g ≡ option_map (restrict t) (step p w (call.TOpen prov nonblock) g)
    go (Some m) h =
        let i : m < places p = opening-small p (the_switch p w) prov m k h in
        step-local p t w (call.TOpen prov nonblock) g within
        (ap (λ z. is_among t (place_of p (Open.plan_where p (the_switch p w) prov nonblock z).fd)) h ∙ (ap (is_among t) (place-is p (place_at (the_switch p w) m).generation m i) ∙ (subst (λ z. Within t (option_to_list z)) h within.1).0))
    go None h =
        ap (λ s. step_of p (only t w) (Open.plan_in p s prov nonblock)) same ∙
        (ap (λ z. step_of p (only t w) (Open.plan_where p (the_switch p w) prov nonblock z)) h ∙
        (refused-only p t w (the_switch p w) prov nonblock (n h) (first (Open.rows p (the_switch p w) prov)) ∙
        sym (ap (λ z. option_map (restrict t) (step_of p w (Open.plan_where p (the_switch p w) prov nonblock z))) h)))

-- the step on any cells of a world that have all that the call names
pub named-reads : (p : Providers) (t : List ℕ) (w : World) (c : Call) (g : Go) → KnowsNoMore p w → TellsNone p w c → Within t (named p w c) → step p (only t w) c g ≡ option_map (restrict t) (step p w c g)
named-reads p t w (call.TOpen prov nonblock) g k n h = open-reads p t w prov nonblock g k n h
named-reads p t w other g k n h = step-local p t w other g h (told-at p t w other g (fd_of other) refl refl (told-fd p w other g) h)

pub touched-reads : (p : Providers) (w : World) (c : Call) (g : Go) → KnowsNoMore p w → TellsNone p w c → step p (only (touched p w c) w) c g ≡ option_map (restrict (touched p w c)) (step p w c g)
touched-reads p w c g k n = named-reads p (touched p w c) w c g k n (touched-within p w c)

pub touched-changes : (p : Providers) (w : World) (c : Call) (g : Go) → without (touched p w c) (left_by w (step p w c g)) ≡ without (touched p w c) w
touched-changes p w c g = step-others p (touched p w c) w c g (touched-within p w c)

-- some cells of a world have all that the call touches on them alone: so they have all that it names in the world
pub some-within : (p : Providers) (t : List ℕ) (w : World) (c : Call) → Within t (touched p (only t w) c) → Within t (named p w c)
some-within p t w c h =
    let i : Within t (named p (only t w) c) = within-named p t (only t w) c h in
    subst (Within t) (named-some p t w c i) i

pub some-reads : (p : Providers) (t : List ℕ) (w : World) (c : Call) (g : Go) → Within t (touched p (only t w) c) → KnowsNoMore p w → TellsNone p w c → step p (only t w) c g ≡ option_map (restrict t) (step p w c g)
some-reads p t w c g h k n = named-reads p t w c g k n (some-within p t w c h)

pub some-changes : (p : Providers) (t : List ℕ) (w : World) (c : Call) (g : Go) → Within t (touched p (only t w) c) → without t (left_by w (step p w c g)) ≡ without t w
some-changes p t w c g h = step-others p t w c g (some-within p t w c h)
