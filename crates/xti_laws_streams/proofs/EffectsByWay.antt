-- The effect of a step of an end, by the way in which the step goes: made, refused, marked, or with fields lost.
use Rattle.std.proofs.Common.{ℕ, Bool, true, false, List, [], ◌∷◌, ◌++◌, ◌≡◌, refl, sym, ap, ◌∙◌, subst, cond, eqb, Option, Some, None}
use Rattle.std.proofs.lemmas.Bool.{false≢true, eqb-true, eq-eqb}
use Rattle.std.specs.Prelude.{option_map}
use Rattle.xti_model.specs.declared.entry.Go.{Go}
use Rattle.xti_model.specs.declared.entry.Outcome.{Outcome}
use Rattle.xti_model.specs.declared.entry.Outcome.TheVariants.{Done}
use Rattle.xti_model.specs.declared.entry.Reply.{Reply}
use Rattle.xti_model.specs.declared.entry.Reply.TheVariants.{Overflow}
use Rattle.xti_model.specs.declared.profile.Providers.{Providers}
use Rattle.xti_model.specs.Endpoint.{Endpoint}
use Rattle.xti_model.specs.World.{World, Change, Switch, at_endpoint, at_switch, closes_endpoint, changed, endpoint, state_of}
use Rattle.xti_model.specs.Links.{names, at_linked, if_names}
use Rattle.xti_model.specs.Plan.{Plan, answers, waits, loses, first, if_open, has_effect}
use Rattle.xti_model.specs.Step.{Step, made, step_of}
use Rattle.xti_model.specs.History.{Going}
use Rattle.xti_model.specs.Streams.{Made, Connection, Sending, sent_by, got_by, sending_of, taken_after, is_over}
use Rattle.xti_laws.proofs.ChangedEndpoints.{endpoint-same, closed-same, switch-other, changed-append}
use Rattle.xti_laws_streams.specs.Laws.{is_release_receipt}
use Rattle.xti_laws_streams.proofs.Invariant.{View, view, HasView, NotNamedBy}
use Rattle.xti_laws.proofs.KeptEndpoints.{Keep, AllKeep, keeps}
use Rattle.xti_laws_streams.proofs.NonLinking.{KeepsView}
use Rattle.xti_laws.proofs.StepWays.{Way, takes, loses_all, is_refused, is_marked, way, all_deny, is_denial, first-denies, not-both}
use Rattle.xti_laws.proofs.ClearedRows.{Cleared, cleared}
use Rattle.xti_laws_streams.proofs.Refusals.{denial-takes, denial-gives, denial-releases}
use Rattle.xti_laws_streams.proofs.Effects.{Effect, TransfersNothing, changes_nothing, PeerBecomes, same, NamesNobody}

-- the change keeps the view of every endpoint
pub data KeepsAllViews : Change → Type 0 where
  update_keeps : (z : ℕ) (f : Endpoint → Endpoint) → KeepsView f → KeepsAllViews (at_endpoint z f)
  switch_keeps : (f : Switch → Switch) → KeepsAllViews (at_switch f)

abbrev pub AllKeepViews : List Change → Type 0
AllKeepViews [] = Unit
AllKeepViews (c ∷ cs) = KeepsAllViews c × AllKeepViews cs

keeps_views-keep : (u : View) (z : ℕ) (c : Change) → KeepsAllViews c → Keep (HasView u) z c
keeps_views-keep u z c (update_keeps y f k) = λ i e q. k e ∙ q
keeps_views-keep u z c (switch_keeps f) = tt

pub all-keep_views : (u : View) (z : ℕ) (cs : List Change) → AllKeepViews cs → AllKeep (HasView u) z cs
all-keep_views u z [] h = tt
all-keep_views u z (c ∷ cs) h = (keeps_views-keep u z c h.0, all-keep_views u z cs h.1)

pub all_kept-view : (p : Providers) (w : World) (z : ℕ) (u : View) (cs : List Change) → AllKeepViews cs → HasView u (endpoint p w z) → HasView u (endpoint p (changed p w cs) z)
all_kept-view p w z u cs h = keeps p (HasView u) z cs (all-keep_views u z cs h) w

pub all_kept-peer : (p : Providers) (w : World) (x : ℕ) (v : View) (cs : List Change) → AllKeepViews cs → PeerBecomes p w (changed p w cs) x v same
all_kept-peer p w x v cs h y u n i j t l = all_kept-view p w y u cs h l

-- the step of the call, with this outcome and the state of the end in this world
abbrev pub made_in : Providers → World → ℕ → Going → Outcome → Made
made_in p w x g outcome = record { going = g; outcome = outcome; after = state_of (endpoint p w x) }

-- the effect of a step with this outcome, after which the world is w'
abbrev pub EffectFor : Providers → World → Connection → ℕ → View → Going → Outcome → World → Type 0
EffectFor p w c x v g outcome w' = Effect p w w' c x v (made_in p w' x g outcome)

-- the effect of this step
abbrev pub EffectOf : Providers → World → Connection → ℕ → View → Going → Step → Type 0
EffectOf p w c x v g s = Effect p w s.world c x v (record { going = g; outcome = s.outcome; after = s.after })

sent-none : (c : Connection) (k : Bool) (g : Go) (s : Option Sending) → sent_by c k g s None ≡ []
sent-none c k g None = refl
sent-none c k g (Some s) = refl

-- a step of a call that is no send, whose outcome gives nothing
pub transfers-nothing : (c : Connection) (g : Going) (outcome : Outcome) → sending_of g.call ≡ None → is_release_receipt g.call outcome ≡ false → ((k : Bool) → got_by c k outcome ≡ []) → TransfersNothing c g outcome
transfers-nothing c g outcome n r d = record { sends = λ k. ap (λ z. sent_by c k g.so_far z (taken_after outcome)) n; gets = d; releases = r }

-- a refusal changes nothing
pub refused-effect : (p : Providers) (w w' : World) (c : Connection) (x : ℕ) (v : View) (g : Going) (r : Reply) → is_denial r ≡ true → HasView v (endpoint p w' x) → PeerBecomes p w w' x v same → EffectFor p w c x v g (Done r) w'
refused-effect p w w' c x v g r h l f = changes_nothing (record {
  sends = λ k. (ap (sent_by c k g.so_far (sending_of g.call)) (denial-takes r h) ∙ sent-none c k g.so_far (sending_of g.call));
  gets = λ k. denial-gives c k r h;
  releases = denial-releases g.call r h;
}) l f

module _ (p : Providers) (w : World) (c : Connection) (x : ℕ) (v : View) (g : Going) (here : HasView v (endpoint p w x)) where
  pub by-ways : (y : Plan) → y.fd ≡ x → ((r : Reply) → first y.rows ≡ Some (answers r) → EffectFor p w c x v g (Done r) w) → ((r : Reply) → first y.rows ≡ Some (waits r) → EffectFor p w c x v g (Done r) (changed p w y.marks))
      → (Cleared y.rows → EffectFor p w c x v g y.outcome (changed p w y.changes)) → (first y.rows ≡ Some loses → Cleared y.rows → (n : ℕ) → EffectFor p w c x v g (Done (Overflow (record { 0 = n }))) (changed p w y.lost))
      → (s : Step) → step_of p w y ≡ Some s → EffectOf p w c x v g s
  by-ways y i refuse mark take lose s h = go (way p w y s h)
    where
      at : (outcome : Outcome) (w' : World) → made p y.fd outcome w' ≡ s → EffectFor p w c x v g outcome w' → EffectOf p w c x v g s
      at outcome w' j d = subst (EffectOf p w c x v g) j (subst (λ z. EffectOf p w c x v g (made p z outcome w')) (sym i) d)

      go : Way p w y s → EffectOf p w c x v g s
      go (takes q j) = at y.outcome (changed p w y.changes) j (take (cleared y.rows (ap has_effect q)))
      go (loses_all n q j) = at (Done (Overflow (record { 0 = n }))) (changed p w y.lost) j (lose q (cleared y.rows (ap has_effect q)) n)
      go (is_refused r q j) = at (Done r) w j (refuse r q)
      go (is_marked r q j) = at (Done r) (changed p w y.marks) j (mark r q)

  -- where each refusal answers an error, only what the call does when it is made is left to show
  pub by-effect : (y : Plan) → y.fd ≡ x → all_deny y.rows ≡ true → AllKeepViews y.marks
      → (Cleared y.rows → EffectFor p w c x v g y.outcome (changed p w y.changes)) → (first y.rows ≡ Some loses → Cleared y.rows → (n : ℕ) → EffectFor p w c x v g (Done (Overflow (record { 0 = n }))) (changed p w y.lost))
      → (s : Step) → step_of p w y ≡ Some s → EffectOf p w c x v g s
  by-effect y i a m = by-ways y i (λ r q. refused-effect p w w c x v g r (first-denies y.rows (answers r) a q) here (λ z u n j k t l. l))
      (λ r q. refused-effect p w (changed p w y.marks) c x v g r (first-denies y.rows (waits r) a q) (all_kept-view p w x v y.marks m here) (all_kept-peer p w x v y.marks m))

  -- a call whose changes keep every view
  pub by-views_kept : (y : Plan) → y.fd ≡ x → all_deny y.rows ≡ true → AllKeepViews y.changes → AllKeepViews y.marks → AllKeepViews y.lost → sending_of g.call ≡ None → ((o : Outcome) → is_release_receipt g.call o ≡ false) → ((k : Bool) → got_by c k y.outcome ≡ [])
      → (s : Step) → step_of p w y ≡ Some s → EffectOf p w c x v g s
  by-views_kept y i a d m l n r o = by-effect y i a m
      (λ q. changes_nothing (transfers-nothing c g y.outcome n (r y.outcome) o) (all_kept-view p w x v y.changes d here) (all_kept-peer p w x v y.changes d))
      (λ f q lost. changes_nothing (transfers-nothing c g (Done (Overflow (record { 0 = lost }))) n (r (Done (Overflow (record { 0 = lost })))) (λ k. refl)) (all_kept-view p w x v y.lost l here) (all_kept-peer p w x v y.lost l))

  -- a call that is refused in each state of a connection
  pub by-state : (y : Plan) → y.fd ≡ x → all_deny y.rows ≡ true → AllKeepViews y.marks → (Cleared y.rows → ⊥) → (s : Step) → step_of p w y ≡ Some s → EffectOf p w c x v g s
  by-state y i a m h = by-effect y i a m (λ q. absurd (h q)) (λ f q n. absurd (h q))

-- the plan on an open endpoint
pub on-it : (p : Providers) (w : World) (x : ℕ) (e : Endpoint) (f : Endpoint → Plan) (s : Step) → endpoint p w x ≡ Some e → step_of p w (if_open x (endpoint p w x) f) ≡ Some s → step_of p w (f e) ≡ Some s
on-it p w x e f s o h = subst (λ z. step_of p w (if_open x z f) ≡ Some s) o h

pub view-is : (p : Providers) (w : World) (x : ℕ) (e : Endpoint) → endpoint p w x ≡ Some e → HasView (view e) (endpoint p w x)
view-is p w x e o = subst (HasView (view e)) (sym o) refl

-- one change, of the call's own endpoint
pub own-change : (p : Providers) (w : World) (x : ℕ) (e : Endpoint) (f : Endpoint → Endpoint) → endpoint p w x ≡ Some e → endpoint p (changed p w (at_endpoint x f ∷ [])) x ≡ Some (f e)
own-change p w x e f o = endpoint-same p x f w ∙ ap (option_map f) o

pub own-view : (p : Providers) (w : World) (x : ℕ) (e : Endpoint) (f : Endpoint → Endpoint) (v : View) → endpoint p w x ≡ Some e → view (f e) ≡ v → HasView v (endpoint p (changed p w (at_endpoint x f ∷ [])) x)
own-view p w x e f v o h = subst (HasView v) (sym (own-change p w x e f o)) h

pub own-peer : (p : Providers) (w : World) (x : ℕ) (v : View) (f : Endpoint → Endpoint) → PeerBecomes p w (changed p w (at_endpoint x f ∷ [])) x v same
own-peer p w x v f y u n i j t l = keeps p (HasView u) y (at_endpoint x f ∷ []) ((λ q. absurd (not-both (eqb y x) n q)), tt) w l

-- the life of x is over in the world, and its endpoint names nobody
pub record Ended (p : Providers) (w : World) (x : ℕ) : Type 0 where
  pub is_over : is_over (state_of (endpoint p w x)) ≡ true
  pub names_nobody : NamesNobody (endpoint p w x)

ended-at : (p : Providers) (w : World) (x : ℕ) (o : Option Endpoint) → endpoint p w x ≡ o → is_over (state_of o) ≡ true → NamesNobody o → Ended p w x
ended-at p w x o i h g = record { is_over = ap (λ z. is_over (state_of z)) i ∙ h; names_nobody = λ z. subst (NotNamedBy z) (sym i) (g z) }

pub last-ended : (p : Providers) (w : World) (x : ℕ) (f : Endpoint → Endpoint) → ((e : Endpoint) → (is_over (f e).state ≡ true) × ((f e).peer ≡ None)) → Ended p (changed p w (at_endpoint x f ∷ [])) x
last-ended p w x f h = ended-at p (changed p w (at_endpoint x f ∷ [])) x (option_map f (endpoint p w x)) (endpoint-same p x f w) (over (endpoint p w x)) (names_nobody (endpoint p w x))
  where
    over : (o : Option Endpoint) → is_over (state_of (option_map f o)) ≡ true
    over None = refl
    over (Some e) = (h e).0

    names_nobody : (o : Option Endpoint) → NamesNobody (option_map f o)
    names_nobody None = λ z. tt
    names_nobody (Some e) = λ z. ap (names z) (h e).1

pub own-ended : (p : Providers) (w : World) (x : ℕ) (e : Endpoint) (f : Endpoint → Endpoint) → endpoint p w x ≡ Some e → is_over (f e).state ≡ true → (f e).peer ≡ None → Ended p (changed p w (at_endpoint x f ∷ [])) x
own-ended p w x e f o h k = ended-at p (changed p w (at_endpoint x f ∷ [])) x (Some (f e)) (own-change p w x e f o) h (λ z. ap (names z) k)

pub closing-ended : (p : Providers) (w : World) (x : ℕ) (f : Switch → Switch) → Ended p (changed p w (closes_endpoint x ∷ at_switch f ∷ [])) x
closing-ended p w x f = ended-at p (changed p w (closes_endpoint x ∷ at_switch f ∷ [])) x None (switch-other p f x (changed p w (closes_endpoint x ∷ [])) ∙ closed-same p x w) refl (λ z. tt)

pub append-ended : (p : Providers) (w : World) (x : ℕ) (cs ds : List Change) → ((w' : World) → Ended p (changed p w' ds) x) → Ended p (changed p w (cs ++ ds)) x
append-ended p w x cs ds h = subst (λ z. Ended p z x) (sym (changed-append p w cs ds)) (h (changed p w cs))

-- what a call does to the endpoint that its own is linked with
pub linked-gets : (p : Providers) (w : World) (x y : ℕ) (o : Option ℕ) (f : Endpoint → Endpoint) (u u' : View) (rest : List Change) → o ≡ Some y → u.peer ≡ Some x → ((e : Endpoint) → view e ≡ u → view (f e) ≡ u') → AllKeep (HasView u') y rest
    → HasView u (endpoint p w y) → HasView u' (endpoint p (changed p w (at_linked x o f ++ rest)) y)
linked-gets p w x y o f u u' rest i j k r l = subst (λ z. HasView u' (endpoint p (changed p w (at_linked x z f ++ rest)) y)) (sym i) (keeps p (HasView u') y rest r (changed p w (at_endpoint y (if_names x f) ∷ [])) (made (endpoint p w y) l (endpoint-same p y (if_names x f) w)))
  where
    named : (b : Bool) (e : Endpoint) → b ≡ true → view e ≡ u → view (cond b (f e) e) ≡ u'
    named true e h q = k e q
    named false e h q = absurd (false≢true h)

    made : (z : Option Endpoint) → HasView u z → endpoint p (changed p w (at_endpoint y (if_names x f) ∷ [])) y ≡ option_map (if_names x f) z → HasView u' (endpoint p (changed p w (at_endpoint y (if_names x f) ∷ [])) y)
    made None l q = absurd l
    made (Some e) l q = subst (HasView u') (sym q) (named (names x e.peer) e (ap (λ z. names x z.peer) l ∙ (ap (names x) j ∙ eq-eqb x x refl)) l)

-- and it leaves its own as it is
pub linked-leaves : (p : Providers) (w : World) (x : ℕ) (o : Option ℕ) (f : Endpoint → Endpoint) (e : Endpoint) → names x o ≡ false → endpoint p w x ≡ Some e → endpoint p (changed p w (at_linked x o f)) x ≡ Some e
linked-leaves p w x None f e n i = i
linked-leaves p w x (Some y) f e n i = keeps p (λ o. o ≡ Some e) x (at_endpoint y (if_names x f) ∷ []) ((λ j. absurd (not-both (eqb y x) n (eq-eqb y x (sym (eqb-true x y j))))), tt) w i
