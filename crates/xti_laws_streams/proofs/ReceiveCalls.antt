-- What t_rcv and t_rcvv do: what they answer, put before what waits then, is what waited.
use Rattle.std.proofs.Common.{ℕ, Bool, true, false, [], ◌∷◌, ◌++◌, ◌<◌, ◌≡◌, refl, sym, ap, ◌∙◌, cond, not, ◌&&◌, Some, None}
use Rattle.std.proofs.lemmas.Bool.{false≢true}
use Rattle.std.proofs.lemmas.List.Elements.{All-drop}
use Rattle.xti_model.specs.declared.entry.Outcome.{Outcome}
use Rattle.xti_model.specs.declared.entry.Outcome.TheVariants.{Done}
use Rattle.xti_model.specs.declared.entry.Reply.TheVariants.{Got}
use Rattle.xti_model.specs.declared.profile.Providers.{Providers}
use Rattle.xti_model.specs.Endpoint.{Endpoint}
use Rattle.xti_model.specs.World.{World, at_endpoint, changed, endpoint}
use Rattle.xti_model.specs.Links.{names}
use Rattle.xti_model.specs.Symbols.{front, rest, ended, piece}
use Rattle.xti_model.specs.Sending.{waiting_of, has_ends}
use Rattle.xti_model.specs.Arguments.{has_more}
use Rattle.xti_model.specs.Events.{is_state, some_wait, receiving}
use Rattle.xti_model.specs.Plan.{Plan, plan_of}
use Rattle.xti_model.specs.Step.{Step, step_of}
use Rattle.xti_model.specs.History.{Going}
use Rattle.xti_model.specs.Streams.{Connection, sent_by, got_by, sending_of, taken_after, same_kind, kind_has_ends}
use Rattle.xti_model.specs.Calls.Receive as Receive
use Rattle.xti_laws_streams.specs.Laws.{is_release_receipt}
use Rattle.xti_laws_streams.proofs.Invariant.{view, waiting_in, LiveEnd}
use Rattle.xti_laws.proofs.StepWays.{never-loses}
use Rattle.xti_laws.proofs.ClearedRows.{Cleared, un-not}
use Rattle.xti_laws_streams.proofs.TakenSymbols.{reads-all, flags-expedited, flags-more}
use Rattle.xti_laws_streams.proofs.Effects.{receives}
use Rattle.xti_laws_streams.proofs.EffectsByWay.{EffectFor, EffectOf, by-effect, on-it, view-is, own-view, own-peer}

-- the endpoint of an end whose life lasts
pub record LiveEndpoint (p : Providers) (w : World) (c : Connection) (x : ℕ) (e : Endpoint) : Type 0 where
  pub is_open : endpoint p w x ≡ Some e
  pub live : LiveEnd p c (view e)
  pub not_itself : names x e.peer ≡ false

-- the connection and the endpoint agree on which kinds have ends of messages
pub kind-ends : (p : Providers) (c : Connection) (e : Endpoint) → LiveEnd p c (view e) → (k : Bool) → has_ends p e k ≡ kind_has_ends c k
kind-ends p c e l true = refl
kind-ends p c e l false = sym l.ends

-- what the reply gives of the kind k, where it is of the kind b
gives : (p : Providers) (c : Connection) (e : Endpoint) (max : ℕ) → LiveEnd p c (view e) → (k b : Bool) → got_by c k (Done (Receive.got p b max e)) ≡ cond (same_kind k b) (piece (front max (waiting_of b e)) (not (not (ended max (waiting_of b e)) && kind_has_ends c b) && kind_has_ends c k)) []
gives p c e max l k b = by (Receive.goes_on p b max e) (ap (λ h. not (ended max (waiting_of b e)) && h) (kind-ends p c e l b))
  where
    by : (more : Bool) → more ≡ (not (ended max (waiting_of b e)) && kind_has_ends c b) → got_by c k (Done (Got (front max (waiting_of b e)) (Receive.flags b more))) ≡ cond (same_kind k b) (piece (front max (waiting_of b e)) (not (not (ended max (waiting_of b e)) && kind_has_ends c b) && kind_has_ends c k)) []
    by more h = ap (λ z. cond (same_kind k z) (piece (front max (waiting_of b e)) (not (has_more (Receive.flags b more)) && kind_has_ends c k)) []) (flags-expedited b more)
        ∙ ap (λ z. cond (same_kind k b) (piece (front max (waiting_of b e)) (not z && kind_has_ends c k)) []) (flags-more b more ∙ h)

-- each kind, where expedited data was received, and where normal data was
expedited-read : (p : Providers) (c : Connection) (e : Endpoint) (max : ℕ) → LiveEnd p c (view e) → (k : Bool) → got_by c k (Done (Receive.got p true max e)) ++ waiting_in k (record (view e) { expedited = rest max e.expedited }) ≡ waiting_in k (view e)
expedited-read p c e max l true = ap (λ z. z ++ rest max e.expedited) (gives p c e max l true true) ∙ reads-all true max e.expedited (λ i. absurd (false≢true (sym i)))
expedited-read p c e max l false = ap (λ z. z ++ e.normal) (gives p c e max l false true)

normal-read : (p : Providers) (c : Connection) (e : Endpoint) (max : ℕ) → LiveEnd p c (view e) → (k : Bool) → got_by c k (Done (Receive.got p false max e)) ++ waiting_in k (record (view e) { normal = rest max e.normal }) ≡ waiting_in k (view e)
normal-read p c e max l true = ap (λ z. z ++ e.expedited) (gives p c e max l true false)
normal-read p c e max l false = ap (λ z. z ++ rest max e.normal) (gives p c e max l false false) ∙ reads-all c.has_ends max e.normal l.stream

abbrev rcv_plan : Providers → ℕ → ℕ → ℕ → Endpoint → Plan
rcv_plan p x sizes max e = plan_of x e (Receive.rows sizes e) (at_endpoint x (Receive.received p max) ∷ []) (Done (Receive.got p (some_wait e.expedited) max e))

module _ (p : Providers) (w : World) (c : Connection) (x : ℕ) (e : Endpoint) (g : Going) (a : LiveEndpoint p w c x e) (sends_not : sending_of g.call ≡ None) (releases_not : (o : Outcome) → is_release_receipt g.call o ≡ false) where
  reads-one : (sizes max : ℕ) → Cleared (Receive.rows sizes e) → (b : Bool) → some_wait e.expedited ≡ b
      → EffectFor p w c x (view e) g (Done (Receive.got p b max e)) (changed p w (at_endpoint x (Receive.received p max) ∷ []))
  reads-one sizes max q true i = receives (un-not (is_state receiving e) q.1.0) e.normal (rest max e.expedited)
      (own-view p w x e (Receive.received p max) (record (view e) { expedited = rest max e.expedited }) a.is_open (ap (λ b. view (cond b (record e { expedited = rest max e.expedited; mid_expedited = Receive.goes_on p true max e }) (record e { normal = rest max e.normal }))) i))
      (λ k. ap (λ z. sent_by c k g.so_far z (taken_after (Done (Receive.got p true max e)))) sends_not)
      (expedited-read p c e max a.live) a.live.stream (releases_not (Done (Receive.got p true max e))) (own-peer p w x (view e) (Receive.received p max))
  reads-one sizes max q false i = receives (un-not (is_state receiving e) q.1.0) (rest max e.normal) e.expedited
      (own-view p w x e (Receive.received p max) (record (view e) { normal = rest max e.normal }) a.is_open (ap (λ b. view (cond b (record e { expedited = rest max e.expedited; mid_expedited = Receive.goes_on p true max e }) (record e { normal = rest max e.normal }))) i))
      (λ k. ap (λ z. sent_by c k g.so_far z (taken_after (Done (Receive.got p false max e)))) sends_not)
      (normal-read p c e max a.live) (λ n. All-drop (λ s. s < 256) _ e.normal (a.live.stream n)) (releases_not (Done (Receive.got p false max e))) (own-peer p w x (view e) (Receive.received p max))

  pub rcv-effect : (sizes max : ℕ) (s : Step) → step_of p w (Receive.plan p w x sizes max) ≡ Some s → EffectOf p w c x (view e) g s
  rcv-effect sizes max s h = by-effect p w c x (view e) g (view-is p w x e a.is_open) (rcv_plan p x sizes max e) refl refl tt
      (λ q. reads-one sizes max q (some_wait e.expedited) refl)
      (λ f. absurd (never-loses (Receive.rows sizes e) refl f))
      s (on-it p w x e (rcv_plan p x sizes max) s a.is_open h)
