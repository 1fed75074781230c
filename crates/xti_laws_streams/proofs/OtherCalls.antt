-- The calls that the state of a connection refuses, and those that change nothing of it.
use Rattle.std.proofs.Common.{ℕ, Bool, true, false, List, [], ◌∷◌, ◌≡◌, refl, sym, Option, Some, None}
use Rattle.std.proofs.lemmas.Bool.{false≢true}
use Rattle.std.specs.Prelude.{option_and_then}
use Rattle.std.specs.List.{list_any}
use Rattle.xti_base.specs.Kinds.{same_state}
use Rattle.xti_base.specs.declared.kinds.Fd.{Fd}
use Rattle.xti_base.specs.declared.kinds.Seq.{Seq}
use Rattle.xti_base.specs.declared.kinds.State.{State}
use Rattle.xti_base.specs.declared.kinds.State.TheVariants.{T_UNINIT, T_UNBND, T_IDLE, T_INCON, T_OUTCON, T_DATAXFER, T_OUTREL, T_INREL}
use Rattle.xti_model.specs.declared.call.Call.{Call}
use Rattle.xti_model.specs.declared.call.Call.TheVariants as call
use Rattle.xti_model.specs.declared.entry.Go.{Go}
use Rattle.xti_model.specs.declared.entry.Outcome.{Outcome}
use Rattle.xti_model.specs.declared.profile.Providers.{Providers}
use Rattle.xti_model.specs.Endpoint.{Endpoint}
use Rattle.xti_model.specs.World.{World, endpoint, the_switch}
use Rattle.xti_model.specs.Switch.{bound}
use Rattle.xti_model.specs.Events.{is_state}
use Rattle.xti_model.specs.Plan.{Plan, if_open}
use Rattle.xti_model.specs.Step.{Step, step_of}
use Rattle.xti_model.specs.Streams.{Connection, sending_of, got_by}
use Rattle.xti_model.specs.Calls.Bind as Bind
use Rattle.xti_model.specs.Calls.Listen as Listen
use Rattle.xti_model.specs.Calls.Datagrams as Datagrams
use Rattle.xti_laws_streams.specs.Laws.{is_release_receipt}
use Rattle.xti_laws_streams.proofs.Invariant.{view, HasView}
use Rattle.xti_laws.specs.Requests.{is_connected}
use Rattle.xti_laws_streams.proofs.NonLinking.{datagram-keeps_view}
use Rattle.xti_laws.proofs.StepWays.{all_deny, not-both}
use Rattle.xti_laws.proofs.ClearedRows.{Cleared, un-not}
use Rattle.xti_laws_streams.proofs.EffectsByWay.{EffectOf, by-views_kept, by-state, on-it, view-is, AllKeepViews, update_keeps}
use Rattle.xti_laws_streams.proofs.ReceiveCalls.{LiveEndpoint}

-- a state of a connection is none of these states
not-in : (states : List State) (s : State) → is_connected s ≡ true → list_any (same_state T_OUTCON) states ≡ false → list_any (same_state T_DATAXFER) states ≡ false → list_any (same_state T_OUTREL) states ≡ false → list_any (same_state T_INREL) states ≡ false → list_any (same_state s) states ≡ false
not-in states T_UNINIT h i j k l = absurd (false≢true h)
not-in states T_UNBND h i j k l = absurd (false≢true h)
not-in states T_IDLE h i j k l = absurd (false≢true h)
not-in states T_INCON h i j k l = absurd (false≢true h)
not-in states T_OUTCON h i j k l = i
not-in states T_DATAXFER h i j k l = j
not-in states T_OUTREL h i j k l = k
not-in states T_INREL h i j k l = l

datagram-keeps_views : (p : Providers) (fd : ℕ) (address options : List ℕ) (parts : ℕ) (bytes : List ℕ) (e : Endpoint) (o : Option ℕ) (there : Option Endpoint) → AllKeepViews (Datagrams.send_to p fd address options parts bytes e o there).changes
datagram-keeps_views p fd address options parts bytes e None there = (update_keeps fd _ (λ e. refl), tt)
datagram-keeps_views p fd address options parts bytes e (Some z) there = (update_keeps z _ (λ e. refl), (update_keeps fd _ (λ e. refl), tt))

module _ (p : Providers) (w : World) (c : Connection) (x : ℕ) (e : Endpoint) (a : LiveEndpoint p w c x e) (g : Go) (s : Step) where
  -- the step is one of this call
  abbrev EffectBy : Call → Type 0
  EffectBy call = EffectOf p w c x (view e) (record { call = call; so_far = g }) s

  here : HasView (view e) (endpoint p w x)
  here = view-is p w x e a.is_open

  pub refused : (states : List State) → list_any (same_state T_OUTCON) states ≡ false → list_any (same_state T_DATAXFER) states ≡ false → list_any (same_state T_OUTREL) states ≡ false → list_any (same_state T_INREL) states ≡ false → is_state states e ≡ true → ⊥
  refused states i j k l h = not-both (is_state states e) (not-in states e.state a.live.in_connection i j k l) h

  pub own-refused : (call : Call) (f : Endpoint → Plan) → step_of p w (if_open x (endpoint p w x) f) ≡ Some s → (f e).fd ≡ x → all_deny (f e).rows ≡ true → AllKeepViews (f e).marks → (Cleared (f e).rows → ⊥) → EffectBy call
  own-refused call f h i d m q = by-state p w c x (view e) (record { call = call; so_far = g }) here (f e) i d m q s (on-it p w x e f s a.is_open h)

  pub own-views_kept : (call : Call) (f : Endpoint → Plan) → step_of p w (if_open x (endpoint p w x) f) ≡ Some s → (f e).fd ≡ x → all_deny (f e).rows ≡ true → AllKeepViews (f e).changes × AllKeepViews (f e).marks × AllKeepViews (f e).lost → sending_of call ≡ None → ((o : Outcome) → is_release_receipt call o ≡ false) → ((k : Bool) → got_by c k (f e).outcome ≡ []) → EffectBy call
  own-views_kept call f h i d m n r o = by-views_kept p w c x (view e) (record { call = call; so_far = g }) here (f e) i d m.0 m.1 m.2 n r o s (on-it p w x e f s a.is_open h)

  pub own-bind : (fd : Fd) (addr : List ℕ) (qlen amax : ℕ) → step_of p w (Bind.plan p w x addr qlen amax) ≡ Some s → EffectBy (call.TBind fd addr qlen amax)
  own-bind fd addr qlen amax h = own-refused (call.TBind fd addr qlen amax) (Bind.plan_in (the_switch p w) x addr qlen amax) h refl refl tt (λ q. refused (T_UNBND ∷ []) refl refl refl refl (un-not (is_state (T_UNBND ∷ []) e) q.0))

  pub own-unbind : (fd : Fd) → step_of p w (Bind.unbind_plan p w x) ≡ Some s → EffectBy (call.TUnbind fd)
  own-unbind fd h = own-refused (call.TUnbind fd) _ h refl refl tt (λ q. refused (T_IDLE ∷ []) refl refl refl refl (un-not (is_state (T_IDLE ∷ []) e) q.0))

  pub own-listen : (fd : Fd) (amax omax umax : ℕ) → step_of p w (Listen.listen_plan p w x amax omax umax) ≡ Some s → EffectBy (call.TListen fd amax omax umax)
  own-listen fd amax omax umax h = own-refused (call.TListen fd amax omax umax) _ h refl refl tt (λ q. refused (T_IDLE ∷ T_INCON ∷ []) refl refl refl refl (un-not (is_state (T_IDLE ∷ T_INCON ∷ []) e) q.1.0))

  accept-refused : (resfd number : ℕ) (options udata : List ℕ) (o : Option Endpoint) → ((Listen.accept_with p x resfd number options udata e o).fd ≡ x) × (all_deny (Listen.accept_with p x resfd number options udata e o).rows ≡ true) × AllKeepViews (Listen.accept_with p x resfd number options udata e o).marks × (Cleared (Listen.accept_with p x resfd number options udata e o).rows → ⊥)
  accept-refused resfd number options udata None = (refl, refl, tt, λ q. false≢true (sym q.0))
  accept-refused resfd number options udata (Some r) = (refl, refl, tt, λ q. refused (T_INCON ∷ []) refl refl refl refl (un-not (is_state (T_INCON ∷ []) e) q.1.0))

  pub own-accept : (fd resfd : Fd) (seq : Seq) (options udata : List ℕ) → step_of p w (Listen.accept_plan p w x resfd.0 seq.0 options udata) ≡ Some s → EffectBy (call.TAccept fd resfd seq options udata)
  own-accept fd resfd seq options udata h = (let r = accept-refused resfd.0 seq.0 options udata (endpoint p w resfd.0) in own-refused (call.TAccept fd resfd seq options udata) (λ e. Listen.accept_with p x resfd.0 seq.0 options udata e (endpoint p w resfd.0)) h r.0 r.1 r.2 r.3)

  pub own-sndudata : (call : Call) (address options : List ℕ) (parts : ℕ) (bytes : List ℕ) → sending_of call ≡ None → ((o : Outcome) → is_release_receipt call o ≡ false) → step_of p w (Datagrams.send_plan p w x address options parts bytes) ≡ Some s → EffectBy call
  own-sndudata call address options parts bytes n r h =
      let d : AllKeepViews (Datagrams.send_from p w x address options parts bytes e (bound (the_switch p w) e.prov address)).changes = datagram-keeps_views p x address options parts bytes e (bound (the_switch p w) e.prov address) (option_and_then (endpoint p w) (bound (the_switch p w) e.prov address)) in
      own-views_kept call (λ e. Datagrams.send_from p w x address options parts bytes e (bound (the_switch p w) e.prov address)) h refl refl (d, (update_keeps x _ (λ e. refl), tt), d) n r (λ k. refl)

  pub own-rcvudata : (call : Call) (sizes max amax omax : ℕ) → sending_of call ≡ None → ((o : Outcome) → is_release_receipt call o ≡ false) → step_of p w (Datagrams.receive_plan p w x sizes max amax omax) ≡ Some s → EffectBy call
  own-rcvudata call sizes max amax omax n r h = own-views_kept call (Datagrams.receive_from x sizes max amax omax) h refl refl ((update_keeps x _ (datagram-keeps_view max), tt), tt, (update_keeps x _ (λ e. refl), tt)) n r (λ k. refl)
