-- A descriptor is opened once: no release was taken on one that an open answers.
use Rattle.std.proofs.Common.{ℕ, Bool, true, false, not, List, [], ◌∷◌, ◌++◌, Option, Some, None, ◌≡◌, ◌∙◌, ◌+◌, ◌<◌, ◌≤◌, ◌&&◌, ◌||◌, refl, sym, ap, subst, eqb, cond, arith}
use Rattle.std.proofs.lemmas.Bool.{eqb-true, false≢true}
use Rattle.std.proofs.lemmas.List.Folds.{list_any-append}
use Rattle.std.proofs.lemmas.List.Quantifiers.{position-Some}
use Rattle.std.specs.Prelude.{is_some, is_none, option_and_then, length}
use Rattle.xti_base.specs.declared.errno.Errno.TheVariants.{TBADNAME, TSYSERR}
use Rattle.xti_base.specs.declared.kinds.Fd.{Fd}
use Rattle.xti_base.specs.declared.kinds.Prov.{Prov}
use Rattle.xti_model.specs.declared.call.Call.{Call}
use Rattle.xti_model.specs.declared.call.Call.TheVariants.{TOpen, TRcvRel}
use Rattle.xti_model.specs.declared.entry.Act.{Act}
use Rattle.xti_model.specs.declared.entry.Act.TheVariants as act
use Rattle.xti_model.specs.declared.entry.Go.TheVariants as go
use Rattle.xti_model.specs.declared.entry.Entry.{Entry}
use Rattle.xti_model.specs.declared.entry.Outcome.{Outcome}
use Rattle.xti_model.specs.declared.entry.Outcome.TheVariants.{Done}
use Rattle.xti_model.specs.declared.entry.Reply.TheVariants.{Plain, Opened}
use Rattle.xti_model.specs.declared.profile.Providers.{Providers}
use Rattle.xti_model.specs.Profile.{valid}
use Rattle.xti_model.specs.Provider.{is_provider, profile}
use Rattle.xti_model.specs.Endpoint.{Endpoint, opened}
use Rattle.xti_model.specs.World.{World, Cell, Numbered, Switch, endpoint_cell, switch_cell, change_endpoint, cell_at, endpoint, endpoint_in, generation_of, place_of, places, the_switch, closed_place, opening, changed, opens_place, at_switch}
use Rattle.xti_model.specs.Switch.{opening_place, if_provider, free_place, is_free, place_at, mark_open}
use Rattle.xti_model.specs.Plan.{Plan, first, refuses, if_open}
use Rattle.xti_model.specs.Step.{Step, step, plan, step_of, step_by}
use Rattle.xti_model.specs.History.{Going, Fits, Legal, LegalFrom, after, after_from, begins, left_by, made_by, own, step_at, step_going, unfinished}
use Rattle.xti_model.specs.Sound.{Agreement}
use Rattle.xti_model.specs.Calls.Open as Open
use Rattle.xti_laws.specs.Laws.{Keeps}
use Rattle.xti_laws.specs.Updates.{updates, updates_peer, opens, closes, switches}
use Rattle.xti_laws.proofs.Opening.{Closed, closed-there}
use Rattle.xti_laws.proofs.Places.{place-is, generation-is}
use Rattle.xti_laws.proofs.SoundSteps.{after-sound}
use Rattle.xti_sock.specs.Socks.{is_plain, is_release, takes_release, was_released}
use Rattle.xti_sock.proofs.KeptAt.{IfThere, HoldsAt, OfKinds, after-at}

-- ---- a place that was open with a generation

-- it is open with that one or a later one, or closed with a later one
abbrev pub Past : ℕ → Cell → Type 0
Past m (endpoint_cell g None) = m < g
Past m (endpoint_cell g (Some e)) = m ≤ g
Past m (switch_cell s) = Unit {0}

endpoint-past : (m g : ℕ) (f : Endpoint → Endpoint) (x : Cell) → Past m x → Past m (change_endpoint g f x)
endpoint-past m g f (switch_cell s) h = h
endpoint-past m g f (endpoint_cell n None) h = h
endpoint-past m g f (endpoint_cell n (Some e)) h = h

kind-past : (p : Providers) (m : ℕ) → Keeps p (Past m)
kind-past p m c (updates fd f u) x h = endpoint-past m (generation_of p fd) f x h
kind-past p m c (updates_peer fd peer f u) x h = endpoint-past m (generation_of p peer) _ x h
kind-past p m c (switches f u) (endpoint_cell g body) h = h
kind-past p m c (switches f u) (switch_cell s) h = h
kind-past p m c (opens place profile prov nonblock) (endpoint_cell g None) h = omega (arith, h)
kind-past p m c (opens place profile prov nonblock) (endpoint_cell g (Some e)) h = h
kind-past p m c (opens place profile prov nonblock) (switch_cell s) h = h
kind-past p m c (closes fd) (switch_cell s) h = h
kind-past p m c (closes fd) (endpoint_cell g None) h = h
kind-past p m c (closes fd) (endpoint_cell g (Some e)) h = by (eqb g (generation_of p fd))
  where
    by : (b : Bool) → Past m (cond b (endpoint_cell (g + 1) None) (endpoint_cell g (Some e)))
    by true = omega (arith, h)
    by false = h

cell-past : (m : ℕ) (x : Cell) → is_some (endpoint_in m x) ≡ true → Past m x
cell-past m (switch_cell s) h = tt
cell-past m (endpoint_cell g None) h = by (eqb g m) h
  where
    by : (b : Bool) → is_some (cond {A = Option Endpoint} b None None) ≡ true → m < g
    by true k = absurd (false≢true k)
    by false k = absurd (false≢true k)
cell-past m (endpoint_cell g (Some e)) h = by (eqb g m) refl h
  where
    by : (b : Bool) → eqb g m ≡ b → is_some (cond {A = Option Endpoint} b (Some e) None) ≡ true → m ≤ g
    by true i k = let j = eqb-true g m i in omega (arith, j)
    by false i k = absurd (false≢true k)

-- an endpoint that is open with the descriptor
open-past : (p : Providers) (w : World) (fd : ℕ) → is_some (endpoint p w fd) ≡ true → HoldsAt (Past (generation_of p fd)) (place_of p fd) w
open-past p w fd h = by (cell_at w (place_of p fd)) h
  where
    by : (o : Option Numbered) → is_some (option_and_then (λ c. endpoint_in (generation_of p fd) c.cell) o) ≡ true → IfThere (Past (generation_of p fd)) o
    by None k = tt
    by (Some c) k = cell-past (generation_of p fd) c.cell k

-- ---- the two steps

-- a release is taken at an open endpoint alone
release-open : (p : Providers) (w : World) (fd : Fd) (s : Step) → step p w (TRcvRel fd) go.Begin ≡ Some s → s.outcome ≡ Done Plain → is_some (endpoint p w fd.0) ≡ true
unfolding step plan
release-open p w fd s = by _ (endpoint p w fd.0)
  where
    by : (f : Endpoint → Plan) (o : Option Endpoint) → step_of p w (if_open fd.0 o f) ≡ Some s → s.outcome ≡ Done Plain → is_some o ≡ true
    by f None h k = absurd (cc (h, k))
    by f (Some e) h k = refl

-- an open that answers a descriptor opens a place that was free
pub record OpensPlace (p : Providers) (w : World) (prov : Prov) (nonblock : Bool) (fd : Fd) (s : Step) : Type 0 where
  pub place : ℕ
  pub is_place : opening_place p (the_switch p w) prov ≡ Some place
  pub fd_is : fd.0 ≡ Open.fd_at p (the_switch p w) place
  pub world_is : s.world ≡ changed p w (opens_place place (opened (profile p prov) prov nonblock) ∷ at_switch (mark_open place) ∷ [])

pub opens-place : (p : Providers) (w : World) (prov : Prov) (nonblock : Bool) (fd : Fd) (s : Step) → step p w (TOpen prov nonblock) go.Begin ≡ Some s → s.outcome ≡ Done (Opened fd) → OpensPlace p w prov nonblock fd s
unfolding step plan
opens-place p w prov nonblock fd s = by (opening_place p (the_switch p w) prov) refl
  where
    refused : (x : Plan) (b d : Bool) → step_by p w x (first (refuses b TBADNAME ∷ refuses d TSYSERR ∷ [])) ≡ Some s → s.outcome ≡ Done (Opened fd) → (b ≡ false) × (d ≡ false) × (x.outcome ≡ Done (Opened fd)) × (s.world ≡ changed p w x.changes)
    refused x true d h k = absurd (cc (h, k))
    refused x false true h k = absurd (cc (h, k))
    refused x false false h k = (refl, refl, cc (h, k), sym (ap (left_by w) h))

    none : (b : Bool) (o : Option ℕ) → if_provider b o ≡ None → not b ≡ false → is_none o ≡ false → ⊥
    none false o h i j = absurd (cc i)
    none true None h i j = absurd (cc j)
    none true (Some n) h i j = absurd (cc h)

    by : (o : Option ℕ) → opening_place p (the_switch p w) prov ≡ o → step_of p w (Open.plan_where p (the_switch p w) prov nonblock o) ≡ Some s → s.outcome ≡ Done (Opened fd) → OpensPlace p w prov nonblock fd s
    by None i h k =
        let r = refused (Open.refused_plan p (the_switch p w) prov nonblock) (not (is_provider prov)) (is_none (free_place p (the_switch p w))) h k in
        absurd (none (is_provider prov) (free_place p (the_switch p w)) i r.0 r.1)
    by (Some n) i h k =
        let r = refused (Open.plan_at p (the_switch p w) prov nonblock n) (not (is_provider prov)) (is_none (free_place p (the_switch p w))) h k in
        record { place = n; is_place = i; fd_is = cc r.2; world_is = r.3 }

-- such a place is closed
pub place-closed : (p : Providers) (w : World) (prov : Prov) (nonblock : Bool) (fd : Fd) (s : Step) → Agreement p w → (o : OpensPlace p w prov nonblock fd s)
    → (o.place < places p) × Closed w o.place (place_at (the_switch p w) o.place).generation
place-closed p w prov nonblock fd t a o = (below, closed-there p s w n (shut (place_at s n).is_open _ (free (is_provider prov) o.is_place).1) (a.each_agrees n below))
  where
    s : Switch
    s = the_switch p w

    n : ℕ
    n = o.place

    free : (b : Bool) → if_provider b (free_place p s) ≡ Some n → (n < length s.places) × (is_free p (place_at s n) ≡ true)
    free true i = let k = position-Some (is_free p) s.places n closed_place i in (k.0, k.1)
    free false i = absurd (cc i)

    below : n < places p
    below = subst (λ m. n < m) a.places_known (free (is_provider prov) o.is_place).0

    shut : (b d : Bool) → (not b && d) ≡ true → b ≡ false
    shut true d i = absurd (false≢true i)
    shut false d i = refl

-- and was never open with this generation
opened-new : (p : Providers) (w : World) (prov : Prov) (nonblock : Bool) (fd : Fd) (s : Step) → Agreement p w → OpensPlace p w prov nonblock fd s → HoldsAt (Past (generation_of p fd.0)) (place_of p fd.0) w → ⊥
opened-new p w prov nonblock fd s a o h = absurd (omega (arith, later))
  where
    n : ℕ
    n = o.place

    g : ℕ
    g = (place_at (the_switch p w) n).generation

    below : n < places p
    below = (place-closed p w prov nonblock fd s a o).0

    closed : Closed w n g
    closed = (place-closed p w prov nonblock fd s a o).1

    place : place_of p fd.0 ≡ n
    place = ap (place_of p) o.fd_is ∙ place-is p g n below

    generation : generation_of p fd.0 ≡ g
    generation = ap (generation_of p) o.fd_is ∙ generation-is p g n below

    here : IfThere (Past g) (cell_at w n)
    here = subst (λ m. IfThere (Past m) (cell_at w n)) generation (subst (λ m. IfThere (Past (generation_of p fd.0)) (cell_at w m)) place h)

    later : g < g
    later = subst (Past g) closed.is_closed (subst (IfThere (Past g)) closed.is_there here)

-- ---- histories

-- an entry that begins a call is the first step of it
pub fits-begun : (p : Providers) (w : World) (past : List Entry) (e : Entry) (c : Call) → e.act ≡ act.Begin c → Fits (step_at p w past e) e
    → (s : Step) × (step p w c go.Begin ≡ Some s) × (e.outcome ≡ s.outcome) × (step_at p w past e ≡ Some s)
fits-begun p w past e c i f = by-going (unfinished past e.worker) (ap (λ a. option_and_then (step_going p w) (made_by (unfinished past e.worker) a)) i)
  where
    by-step : (o : Option Step) → step p w c go.Begin ≡ o → step_at p w past e ≡ o → (s : Step) × (step p w c go.Begin ≡ Some s) × (e.outcome ≡ s.outcome) × (step_at p w past e ≡ Some s)
    by-step None j k = absurd (subst (λ o. Fits o e) k f)
    by-step (Some s) j k = (s, j, (subst (λ o. Fits o e) k f).0, k)

    by-going : (o : Option Going) → step_at p w past e ≡ option_and_then (step_going p w) (begins o c) → (s : Step) × (step p w c go.Begin ≡ Some s) × (e.outcome ≡ s.outcome) × (step_at p w past e ≡ Some s)
    by-going None j = by-step (step p w c go.Begin) refl j
    by-going (Some g) j = absurd (subst (λ o. Fits o e) j f)

release-begun : (fd : Fd) (a : Act) → is_release fd a ≡ true → (other : Fd) × (a ≡ act.Begin (TRcvRel other)) × (fd.0 ≡ other.0)
release-begun fd (act.Begin (TRcvRel other)) h = (other, refl, eqb-true fd.0 other.0 h)
release-begun fd a h = absurd (false≢true h)

plain-done : (o : Outcome) → is_plain o ≡ true → o ≡ Done Plain
plain-done (Done Plain) h = refl
plain-done o h = absurd (false≢true h)

pub both : (b d : Bool) → (b && d) ≡ true → (b ≡ true) × (d ≡ true)
both true true h = (refl, refl)
both true false h = absurd (false≢true h)
both false d h = absurd (false≢true h)

-- where the entry takes a release, the endpoint was open before it
taken-past : (p : Providers) (fd : Fd) (w : World) (past : List Entry) (e : Entry) → takes_release fd e ≡ true → Fits (step_at p w past e) e → HoldsAt (Past (generation_of p fd.0)) (place_of p fd.0) w
taken-past p fd w past e h f =
    let b = both (is_release fd e.act) (is_plain e.outcome) h in
    let r = release-begun fd e.act b.0 in
    let s = fits-begun p w past e (TRcvRel r.0) r.1 f in
    open-past p w fd.0 (subst (λ x. is_some (endpoint p w x) ≡ true) (sym r.2) (release-open p w r.0 s.0 s.1 (sym s.2 ∙ plain-done e.outcome b.1)))

released-past : OfKinds → (p : Providers) (fd : Fd) (w : World) (past es : List Entry) → LegalFrom p w past es → was_released fd es ≡ true → HoldsAt (Past (generation_of p fd.0)) (place_of p fd.0) (after_from p w past es)
released-past kinds p fd w past [] l h = absurd (false≢true h)
released-past kinds p fd w past (e ∷ es) l h = by (takes_release fd e) refl h (released-past kinds p fd (left_by w (step_at p w past e)) (past ++ e ∷ []) es l.1)
  where
    by : (b : Bool) → takes_release fd e ≡ b → (b || was_released fd es) ≡ true
        → (was_released fd es ≡ true → HoldsAt (Past (generation_of p fd.0)) (place_of p fd.0) (after_from p w past (e ∷ es)))
        → HoldsAt (Past (generation_of p fd.0)) (place_of p fd.0) (after_from p w past (e ∷ es))
    by true i k later = after-at p (Past (generation_of p fd.0)) (place_of p fd.0) (kind-past p (generation_of p fd.0)) kinds w past (e ∷ es) (taken-past p fd w past e i l.0)
    by false i k later = later k

pub front-legal : (p : Providers) (w : World) (past es : List Entry) (e : Entry) → LegalFrom p w past (es ++ e ∷ []) → LegalFrom p w past es
front-legal p w past [] e l = tt
front-legal p w past (x ∷ es) e l = (l.0, front-legal p (left_by w (step_at p w past x)) (past ++ x ∷ []) es e l.1)

pub last-fits : (p : Providers) (w : World) (past es : List Entry) (e : Entry) → LegalFrom p w past (es ++ e ∷ []) → (before : List Entry) × Fits (step_at p (after_from p w past es) before e) e
last-fits p w past [] e l = (past, l.0)
last-fits p w past (x ∷ es) e l = last-fits p (left_by w (step_at p w past x)) (past ++ x ∷ []) es e l.1

pub opened-once : OfKinds → (p : Providers) (es : List Entry) (e : Entry) (prov : Prov) (nonblock : Bool) (fd : Fd)
    → valid p ≡ true → Legal p (es ++ e ∷ []) → e.act ≡ act.Begin (TOpen prov nonblock) → e.outcome ≡ Done (Opened fd) → was_released fd es ≡ false
opened-once kinds p es e prov nonblock fd v l i o = by (was_released fd es) refl
  where
    by : (b : Bool) → was_released fd es ≡ b → b ≡ false
    by false h = refl
    by true h =
        let f = last-fits p (opening p) [] es e l in
        let s = fits-begun p (after p es) f.0 e (TOpen prov nonblock) i f.1 in
        absurd (opened-new p (after p es) prov nonblock fd s.0 (after-sound p es v).registered.agreement (opens-place p (after p es) prov nonblock fd s.0 s.1 (sym s.2 ∙ o))
        (released-past kinds p fd (opening p) [] es (front-legal p (opening p) [] es e l) h))

-- ---- a caller's own entries

pub either : (b d : Bool) → (b || d) ≡ false → (b ≡ false) × (d ≡ false)
either true d h = absurd (cc h)
either false d h = (refl, h)

own-none : (fd : Fd) (n : ℕ) (es : List Entry) → was_released fd es ≡ false → was_released fd (own es n) ≡ false
own-none fd n [] h = refl
own-none fd n (e ∷ es) h =
    let r = either (takes_release fd e) (was_released fd es) h in
    by (eqb e.worker n) r.0 (own-none fd n es r.1)
  where
    by : (b : Bool) → takes_release fd e ≡ false → was_released fd (own es n) ≡ false → was_released fd (cond b (e ∷ own es n) (own es n)) ≡ false
    by true i k = rw (i, k) refl
    by false i k = k

-- no release on a new descriptor stands among them, with the open
pub own-once : OfKinds → (p : Providers) (es : List Entry) (e : Entry) (n : ℕ) (prov : Prov) (nonblock : Bool) (fd : Fd)
    → valid p ≡ true → Legal p (es ++ e ∷ []) → e.act ≡ act.Begin (TOpen prov nonblock) → e.outcome ≡ Done (Opened fd) → was_released fd (own (es ++ e ∷ []) n) ≡ false
own-once kinds p es e n prov nonblock fd v l i o =
    own-none fd n (es ++ e ∷ []) (list_any-append (takes_release fd) es (e ∷ []) ∙ rw (opened-once kinds p es e prov nonblock fd v l i o, i) refl)
