-- What t_sndrel, t_rcvrel and their forms with data do.
use Rattle.std.proofs.Common.{ℕ, Bool, true, false, List, [], ◌∷◌, ◌++◌, ◌≡◌, ◌⊎◌, inl, inr, refl, sym, ap, subst, cond, eqb, not, ◌&&◌, Some, None, is_some}
use Rattle.std.proofs.lemmas.Bool.{false≢true}
use Rattle.std.specs.List.{list_any}
use Rattle.xti_base.specs.Kinds.{same_state}
use Rattle.xti_base.specs.declared.kinds.State.{State}
use Rattle.xti_base.specs.declared.kinds.State.TheVariants.{T_DATAXFER, T_OUTREL, T_INREL}
use Rattle.xti_base.specs.declared.kinds.Event.TheVariants.{T_ORDREL}
use Rattle.xti_model.specs.declared.entry.Outcome.{Outcome}
use Rattle.xti_model.specs.declared.entry.Outcome.TheVariants.{Done}
use Rattle.xti_model.specs.declared.entry.Reply.{Reply}
use Rattle.xti_model.specs.declared.entry.Reply.TheVariants.{Plain, Overflow}
use Rattle.xti_model.specs.declared.profile.Providers.{Providers}
use Rattle.xti_model.specs.Endpoint.{Endpoint}
use Rattle.xti_model.specs.World.{World, at_endpoint, changed, endpoint}
use Rattle.xti_model.specs.Links.{at_linked}
use Rattle.xti_model.specs.Events.{is_state, is_here, some_wait, sending, receiving}
use Rattle.xti_model.specs.Plan.{Plan, plan_of}
use Rattle.xti_model.specs.Step.{Step, step_of}
use Rattle.xti_model.specs.History.{Going}
use Rattle.xti_model.specs.Streams.{Connection, is_over, sent_by, got_by, sending_of, taken_after}
use Rattle.xti_model.specs.Calls.Release as Release
use Rattle.xti_model.specs.Calls.Disconnect as Disconnect
use Rattle.xti_laws.proofs.ChangedEndpoints.{changed-append}
use Rattle.xti_laws_streams.specs.Laws.{is_release_receipt}
use Rattle.xti_laws_streams.proofs.Invariant.{view, HasView}
use Rattle.xti_laws.proofs.StepWays.{not-both, never-loses}
use Rattle.xti_laws.proofs.ClearedRows.{Cleared, un-not}
use Rattle.xti_laws_streams.proofs.Effects.{sends_release, sends_last, gets_release, gets_last, PeerBecomes, with_release}
use Rattle.xti_laws_streams.proofs.EffectsByWay.{EffectFor, EffectOf, transfers-nothing, by-effect, on-it, view-is, own-view, own-peer, Ended, own-ended, linked-gets, linked-leaves}
use Rattle.xti_laws_streams.proofs.ReceiveCalls.{LiveEndpoint}

-- States in which data may be sent or received.
sends-from : (s : State) → list_any (same_state s) sending ≡ true → (s ≡ T_DATAXFER) ⊎ (s ≡ T_INREL)
sends-from T_DATAXFER h = inl refl
sends-from T_INREL h = inr refl
sends-from other h = absurd (false≢true h)

receives-from : (s : State) → list_any (same_state s) receiving ≡ true → (s ≡ T_DATAXFER) ⊎ (s ≡ T_OUTREL)
receives-from T_DATAXFER h = inl refl
receives-from T_OUTREL h = inr refl
receives-from other h = absurd (false≢true h)

-- the view after the call, by the state before it
after_send-view : (e : Endpoint) (s : State) → e.state ≡ s → view (Release.after_send e) ≡ view (cond (list_any (same_state s) (T_DATAXFER ∷ [])) (record e { state = T_OUTREL }) (Disconnect.idle e))
after_send-view e s h = ap (λ z. view (cond (list_any (same_state z) (T_DATAXFER ∷ [])) (record e { state = T_OUTREL }) (Disconnect.idle e))) h

after_receive-view : (e : Endpoint) (s : State) → e.state ≡ s → view (Release.after_receive e) ≡ view (cond (list_any (same_state s) (T_DATAXFER ∷ [])) (record e { release = None; state = T_INREL }) (Disconnect.idle e))
after_receive-view e s h = ap (λ z. view (cond (list_any (same_state z) (T_DATAXFER ∷ [])) (record e { release = None; state = T_INREL }) (Disconnect.idle e))) h

nothing-left : (l : List ℕ) → some_wait l ≡ false → l ≡ []
nothing-left [] h = refl
nothing-left (n ∷ l) h = absurd (false≢true (sym h))

-- where T_ORDREL is shown, the release waits and no data does
shown-release : (r n e q : Bool) → (r && not n && not e && q) ≡ true → (r ≡ true) × (n ≡ false) × (e ≡ false)
shown-release true false false q h = (refl, refl, refl)
shown-release true false true q h = absurd (false≢true h)
shown-release true true e q h = absurd (false≢true h)
shown-release false n e q h = absurd (false≢true h)

module _ (p : Providers) (w : World) (c : Connection) (x : ℕ) (e : Endpoint) (g : Going) (a : LiveEndpoint p w c x e) (sends_not : sending_of g.call ≡ None) (udata : List ℕ) where
  abbrev sndrel_plan : Endpoint → Plan
  sndrel_plan e = plan_of x e (Release.send_rows p udata e) (at_linked x e.peer (Release.released udata) ++ at_endpoint x Release.after_send ∷ []) (Done Plain)

  abbrev linked_world : World
  linked_world = changed p w (at_linked x e.peer (Release.released udata))

  abbrev sent_world : World
  sent_world = changed p w (at_linked x e.peer (Release.released udata) ++ at_endpoint x Release.after_send ∷ [])

  sent-shape : sent_world ≡ changed p linked_world (at_endpoint x Release.after_send ∷ [])
  sent-shape = changed-append p w (at_linked x e.peer (Release.released udata)) (at_endpoint x Release.after_send ∷ [])

  open-still : endpoint p linked_world x ≡ Some e
  open-still = linked-leaves p w x e.peer (Release.released udata) e a.not_itself a.is_open

  sent-peer : PeerBecomes p w sent_world x (view e) with_release
  sent-peer y u n i j t l = linked-gets p w x y e.peer (Release.released udata) u (with_release u) (at_endpoint x Release.after_send ∷ []) i j (λ z q. ap with_release q) ((λ q. absurd (not-both (eqb y x) n q)), tt) l

  pub sndrel-effect : (releases_not : (o : Outcome) → is_release_receipt g.call o ≡ false) → (s : Step) → step_of p w (Release.send_plan p w x udata) ≡ Some s → EffectOf p w c x (view e) g s
  sndrel-effect releases_not s h = by-effect p w c x (view e) g (view-is p w x e a.is_open) (sndrel_plan e) refl refl tt
      (λ q. took (sends-from e.state (un-not (is_state sending e) q.1.0)))
      (λ f. absurd (never-loses (Release.send_rows p udata e) refl f))
      s (on-it p w x e sndrel_plan s a.is_open h)
    where
      took : (e.state ≡ T_DATAXFER) ⊎ (e.state ≡ T_INREL) → EffectFor p w c x (view e) g (Done Plain) sent_world
      took (inl d) = sends_release (transfers-nothing c g (Done Plain) sends_not (releases_not (Done Plain)) (λ k. refl)) d (subst (λ z. HasView (record (view e) { state = T_OUTREL }) (endpoint p z x)) (sym sent-shape) (own-view p linked_world x e Release.after_send (record (view e) { state = T_OUTREL }) open-still (after_send-view e T_DATAXFER d)))
          sent-peer
      took (inr d) =
          let over : Ended p sent_world x = subst (λ z. Ended p z x) (sym sent-shape) (own-ended p linked_world x e Release.after_send open-still (ap (λ z. is_over z.state) (after_send-view e T_INREL d)) (ap (λ z. z.peer) (after_send-view e T_INREL d))) in
          sends_last (transfers-nothing c g (Done Plain) sends_not (releases_not (Done Plain)) (λ k. refl)) d over.is_over over.names_nobody sent-peer

module _ (p : Providers) (w : World) (c : Connection) (x : ℕ) (e : Endpoint) (g : Going) (a : LiveEndpoint p w c x e) (sends_not : sending_of g.call ≡ None) where
  nothing : (k : Bool) (outcome : Outcome) → sent_by c k g.so_far (sending_of g.call) (taken_after outcome) ≡ []
  nothing k outcome = ap (λ z. sent_by c k g.so_far z (taken_after outcome)) sends_not

  abbrev rcvrel_plan : ℕ → (Endpoint → Reply) → Endpoint → Plan
  rcvrel_plan umax reply e = plan_of x e (Release.receive_rows umax e) (at_endpoint x Release.after_receive ∷ []) (Done (reply e))

  -- the release is taken, also where its data are lost
  taken : (outcome : Outcome) → ((k : Bool) → got_by c k outcome ≡ []) → (e.state ≡ T_DATAXFER) ⊎ (e.state ≡ T_OUTREL) → (is_some e.release ≡ true) × (some_wait e.normal ≡ false) × (some_wait e.expedited ≡ false)
      → EffectFor p w c x (view e) g outcome (changed p w (at_endpoint x Release.after_receive ∷ []))
  taken outcome gives (inl d) r = gets_release d r.0 (nothing-left e.normal r.1) (nothing-left e.expedited r.2) (own-view p w x e Release.after_receive (record (view e) { release = false; state = T_INREL }) a.is_open (after_receive-view e T_DATAXFER d))
      (λ k. nothing k outcome) gives (own-peer p w x (view e) Release.after_receive)
  taken outcome gives (inr d) r =
      let over : Ended p (changed p w (at_endpoint x Release.after_receive ∷ [])) x = own-ended p w x e Release.after_receive a.is_open (ap (λ z. is_over z.state) (after_receive-view e T_OUTREL d)) (ap (λ z. z.peer) (after_receive-view e T_OUTREL d)) in
      gets_last r.0 (nothing-left e.normal r.1) (nothing-left e.expedited r.2) over.is_over over.names_nobody (λ k. nothing k outcome) gives (own-peer p w x (view e) Release.after_receive)

  pub rcvrel-effect : (umax : ℕ) (reply : Endpoint → Reply) → ((k : Bool) → got_by c k (Done (reply e)) ≡ []) → (s : Step) → step_of p w (Release.taking_plan p w x umax reply) ≡ Some s → EffectOf p w c x (view e) g s
  rcvrel-effect umax reply gives s h = by-effect p w c x (view e) g (view-is p w x e a.is_open) (rcvrel_plan umax reply e) refl refl tt
      (λ q. told (Done (reply e)) gives q)
      (λ f q n. told (Done (Overflow (record { 0 = n }))) (λ k. refl) q)
      s (on-it p w x e (rcvrel_plan umax reply) s a.is_open h)
    where
      told : (outcome : Outcome) → ((k : Bool) → got_by c k outcome ≡ []) → Cleared (Release.receive_rows umax e) → EffectFor p w c x (view e) g outcome (changed p w (at_endpoint x Release.after_receive ∷ []))
      told outcome gives q = taken outcome gives (receives-from e.state (un-not (is_state receiving e) q.1.0)) (shown-release (is_some e.release) (some_wait e.normal) (some_wait e.expedited) (is_state receiving e) (un-not (is_here e T_ORDREL) q.1.1.1.0))
