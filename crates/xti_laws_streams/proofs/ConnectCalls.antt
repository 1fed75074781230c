-- What the confirmation of a connect does: the caller's end may send and receive.
use Rattle.std.proofs.Common.{ℕ, Bool, true, false, List, [], ◌∷◌, ◌≡◌, refl, Some, None}
use Rattle.std.proofs.lemmas.Bool.{false≢true}
use Rattle.std.specs.List.{list_any}
use Rattle.xti_base.specs.Kinds.{same_state}
use Rattle.xti_base.specs.declared.kinds.State.{State}
use Rattle.xti_base.specs.declared.kinds.State.TheVariants.{T_IDLE, T_OUTCON, T_DATAXFER}
use Rattle.xti_base.specs.declared.kinds.Fd.{Fd}
use Rattle.xti_model.specs.declared.call.Call.TheVariants as call
use Rattle.xti_model.specs.declared.entry.Go.{Go}
use Rattle.xti_model.specs.declared.entry.Go.TheVariants as go
use Rattle.xti_model.specs.declared.entry.Outcome.{Outcome}
use Rattle.xti_model.specs.declared.entry.Outcome.TheVariants.{Done}
use Rattle.xti_model.specs.declared.entry.Reply.TheVariants.{Overflow}
use Rattle.xti_model.specs.declared.profile.Providers.{Providers}
use Rattle.xti_model.specs.Endpoint.{Endpoint}
use Rattle.xti_model.specs.World.{World, at_endpoint, changed}
use Rattle.xti_model.specs.Events.{is_state}
use Rattle.xti_model.specs.Plan.{Plan, plan_of}
use Rattle.xti_model.specs.Step.{Step, step_of, connect}
use Rattle.xti_model.specs.History.{Going}
use Rattle.xti_model.specs.Streams.{Connection, got_by, sending_of}
use Rattle.xti_model.specs.Calls.Connect as Connect
use Rattle.xti_laws.proofs.ClearedRows.{Cleared, un-not}
use Rattle.xti_laws_streams.specs.Laws.{is_release_receipt}
use Rattle.xti_laws_streams.proofs.Invariant.{view}
use Rattle.xti_laws_streams.proofs.Effects.{confirms}
use Rattle.xti_laws_streams.proofs.EffectsByWay.{EffectFor, EffectOf, transfers-nothing, by-effect, on-it, view-is, own-view, own-peer}
use Rattle.xti_laws_streams.proofs.ReceiveCalls.{LiveEndpoint}
use Rattle.xti_laws_streams.proofs.OtherCalls.{own-refused, refused}

out-from : (s : State) → list_any (same_state s) (T_OUTCON ∷ []) ≡ true → s ≡ T_OUTCON
out-from T_OUTCON h = refl
out-from other h = absurd (false≢true h)

module _ (p : Providers) (w : World) (c : Connection) (x : ℕ) (e : Endpoint) (g : Going) (a : LiveEndpoint p w c x e) (sends_not : sending_of g.call ≡ None) (releases_not : (o : Outcome) → is_release_receipt g.call o ≡ false) (amax omax umax : ℕ) where
  abbrev confirm_plan : Endpoint → Plan
  confirm_plan e = plan_of x e (Connect.confirm_rows amax omax umax e) (at_endpoint x Connect.confirmed ∷ []) (Done (Connect.connected (Connect.confirmation_or e.confirmation) amax omax umax))

  confirmed : (outcome : Outcome) → ((k : Bool) → got_by c k outcome ≡ []) → Cleared (Connect.confirm_rows amax omax umax e) → EffectFor p w c x (view e) g outcome (changed p w (at_endpoint x Connect.confirmed ∷ []))
  confirmed outcome d q = confirms (transfers-nothing c g outcome sends_not (releases_not outcome) d) (out-from e.state (un-not (is_state (T_OUTCON ∷ []) e) q.1.0))
      (own-view p w x e Connect.confirmed (record (view e) { state = T_DATAXFER }) a.is_open refl) (own-peer p w x (view e) Connect.confirmed)

  -- also where the fields of the answer do not fit
  pub confirm-effect : (s : Step) → step_of p w (Connect.confirm_plan p w x amax omax umax) ≡ Some s → EffectOf p w c x (view e) g s
  confirm-effect s h = by-effect p w c x (view e) g (view-is p w x e a.is_open) (confirm_plan e) refl refl tt
      (confirmed (confirm_plan e).outcome (λ k. refl))
      (λ f q n. confirmed (Done (Overflow (record { 0 = n }))) (λ k. refl) q)
      s (on-it p w x e confirm_plan s a.is_open h)

-- a connect is refused, since the end is in a connection; its later step is the confirmation
pub own-connect : (p : Providers) (w : World) (c : Connection) (x : ℕ) (e : Endpoint) (a : LiveEndpoint p w c x e) (g : Go) (s : Step) → (fd : Fd) (addr opt udata : List ℕ) (amax omax umax : ℕ) (go : Go) → g ≡ go → step_of p w (connect p w x addr opt udata amax omax umax go) ≡ Some s → EffectOf p w c x (view e) (record { call = (call.TConnect fd addr opt udata amax omax umax); so_far = g }) s
own-connect p w c x e a g s fd addr opt udata amax omax umax go.Begin i h = own-refused p w c x e a g s (call.TConnect fd addr opt udata amax omax umax) (λ e. Connect.plan_to x addr opt udata e (Connect.found p w x addr e)) h refl refl tt (λ q. refused p w c x e a g s (T_IDLE ∷ []) refl refl refl refl (un-not (is_state (T_IDLE ∷ []) e) q.1.0))
own-connect p w c x e a g s fd addr opt udata amax omax umax (go.More n) i h = confirm-effect p w c x e (record { call = call.TConnect fd addr opt udata amax omax umax; so_far = g }) a refl (λ o. refl) amax omax umax s h
