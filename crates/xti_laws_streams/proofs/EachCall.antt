-- What each call of an end whose life lasts does to its connection.
use Rattle.std.proofs.Common.{ℕ, true, [], ◌≡◌, refl, subst, length, sum, Option, Some, None}
use Rattle.std.proofs.lemmas.Bool.{false≢true, eqb-true}
use Rattle.std.specs.Prelude.{is_some}
use Rattle.std.specs.List.{concat}
use Rattle.xti_model.specs.declared.call.Call.{Call}
use Rattle.xti_model.specs.declared.call.Call.TheVariants as call
use Rattle.xti_model.specs.declared.entry.Go.{Go}
use Rattle.xti_model.specs.declared.profile.Providers.{Providers}
use Rattle.xti_model.specs.Endpoint.{Endpoint}
use Rattle.xti_model.specs.World.{World}
use Rattle.xti_model.specs.Links.{names}
use Rattle.xti_model.specs.Events.{around}
use Rattle.xti_model.specs.Step.{Step, step, plan}
use Rattle.xti_model.specs.Touched.{fd_of}
use Rattle.xti_model.specs.Streams.{Connection}
use Rattle.xti_model.specs.Calls.Show as Show
use Rattle.xti_laws_streams.proofs.Invariant.{view}
use Rattle.xti_model.specs.SentBytes.{SendsBytes}
use Rattle.xti_laws_streams.proofs.UnderWay.{SendHasBytesLeft}
use Rattle.xti_laws_streams.proofs.NonLinking.{call_fd, shown-keeps_view}
use Rattle.xti_laws_streams.proofs.EffectsByWay.{EffectOf, update_keeps}
use Rattle.xti_laws_streams.proofs.OtherCalls.{own-views_kept, own-bind, own-unbind, own-listen, own-accept, own-sndudata, own-rcvudata}
use Rattle.xti_laws_streams.proofs.ReceiveCalls.{LiveEndpoint, rcv-effect}
use Rattle.xti_laws_streams.proofs.SendCalls.{own-send}
use Rattle.xti_laws_streams.proofs.DisconnectCalls.{close-effect, snddis-effect, rcvdis-effect}
use Rattle.xti_laws_streams.proofs.ReleaseCalls.{sndrel-effect, rcvrel-effect}
use Rattle.xti_laws_streams.proofs.ConnectCalls.{own-connect, confirm-effect}

-- the descriptor that is named is that of the call
call_fd-is : (call : Call) (x : ℕ) → names x (fd_of call) ≡ true → call_fd call ≡ x
call_fd-is (call.TOpen prov nonblock) x i = absurd (false≢true i)
call_fd-is other x i = eqb-true (call_fd other) x i

is_named : (x : ℕ) (o : Option ℕ) → names x o ≡ true → is_some o ≡ true
is_named x None i = i
is_named x (Some fd) i = refl

effect-at : (p : Providers) (w : World) (c : Connection) (e : Endpoint) (call : Call) (g : Go) (s : Step) → is_some (fd_of call) ≡ true → LiveEndpoint p w c (call_fd call) e → SendsBytes call → SendHasBytesLeft call g → step p w call g ≡ Some s
    → EffectOf p w c (call_fd call) (view e) (record { call = call; so_far = g }) s
unfolding step plan
effect-at p w c e (call.TOpen prov nonblock) g s i a b m h = absurd (false≢true i)
effect-at p w c e (call.TClose fd) g s i a b m h = close-effect p w c fd.0 e (record { call = call.TClose fd; so_far = g }) a refl (λ o. refl) s h
effect-at p w c e (call.TBind fd addr qlen amax) g s i a b m h = own-bind p w c fd.0 e a g s fd addr qlen amax h
effect-at p w c e (call.TUnbind fd) g s i a b m h = own-unbind p w c fd.0 e a g s fd h
effect-at p w c e (call.TConnect fd addr opt udata amax omax umax) g s i a b m h = own-connect p w c fd.0 e a g s fd addr opt udata amax omax umax g refl h
effect-at p w c e (call.TRcvConnect fd amax omax umax) g s i a b m h = confirm-effect p w c fd.0 e (record { call = call.TRcvConnect fd amax omax umax; so_far = g }) a refl (λ o. refl) amax omax umax s h
effect-at p w c e (call.TListen fd amax omax umax) g s i a b m h = own-listen p w c fd.0 e a g s fd amax omax umax h
effect-at p w c e (call.TAccept fd resfd seq opt udata) g s i a b m h = own-accept p w c fd.0 e a g s fd resfd seq opt udata h
effect-at p w c e (call.TSnd fd bytes flags) g s i a b m h = own-send p w c fd.0 e a g s (call.TSnd fd bytes flags) 1 bytes flags refl (λ o. refl) b g refl m h
effect-at p w c e (call.TSndV fd parts flags) g s i a b m h = own-send p w c fd.0 e a g s (call.TSndV fd parts flags) (length parts) (concat parts) flags refl (λ o. refl) b g refl m h
effect-at p w c e (call.TRcv fd max) g s i a b m h = rcv-effect p w c fd.0 e (record { call = call.TRcv fd max; so_far = g }) a refl (λ o. refl) 1 max s h
effect-at p w c e (call.TRcvV fd sizes) g s i a b m h = rcv-effect p w c fd.0 e (record { call = call.TRcvV fd sizes; so_far = g }) a refl (λ o. refl) (length sizes) (sum sizes) s h
effect-at p w c e (call.TSndDis fd seq udata) g s i a b m h = snddis-effect p w c fd.0 e (record { call = call.TSndDis fd seq udata; so_far = g }) a refl (λ o. refl) seq.0 udata s h
effect-at p w c e (call.TRcvDis fd umax) g s i a b m h = rcvdis-effect p w c fd.0 e (record { call = call.TRcvDis fd umax; so_far = g }) a refl (λ o. refl) umax s h
effect-at p w c e (call.TSndRel fd) g s i a b m h = sndrel-effect p w c fd.0 e (record { call = call.TSndRel fd; so_far = g }) a refl [] (λ o. refl) s h
effect-at p w c e (call.TRcvRel fd) g s i a b m h = rcvrel-effect p w c fd.0 e (record { call = call.TRcvRel fd; so_far = g }) a refl 0 _ (λ k. refl) s h
effect-at p w c e (call.TSndRelData fd udata) g s i a b m h = sndrel-effect p w c fd.0 e (record { call = call.TSndRelData fd udata; so_far = g }) a refl udata (λ o. refl) s h
effect-at p w c e (call.TRcvRelData fd umax) g s i a b m h = rcvrel-effect p w c fd.0 e (record { call = call.TRcvRelData fd umax; so_far = g }) a refl umax _ (λ k. refl) s h
effect-at p w c e (call.TSndUData fd addr opt bytes) g s i a b m h = own-sndudata p w c fd.0 e a g s (call.TSndUData fd addr opt bytes) addr opt 1 bytes refl (λ o. refl) h
effect-at p w c e (call.TSndVUData fd addr opt parts) g s i a b m h = own-sndudata p w c fd.0 e a g s (call.TSndVUData fd addr opt parts) addr opt (length parts) (concat parts) refl (λ o. refl) h
effect-at p w c e (call.TRcvUData fd max amax omax) g s i a b m h = own-rcvudata p w c fd.0 e a g s (call.TRcvUData fd max amax omax) 1 max amax omax refl (λ o. refl) h
effect-at p w c e (call.TRcvVUData fd sizes amax omax) g s i a b m h = own-rcvudata p w c fd.0 e a g s (call.TRcvVUData fd sizes amax omax) (length sizes) (sum sizes) amax omax refl (λ o. refl) h
effect-at p w c e (call.TRcvUDErr fd amax omax) g s i a b m h = own-views_kept p w c fd.0 e a g s (call.TRcvUDErr fd amax omax) _ h refl refl ((update_keeps fd.0 _ (λ e. refl), tt), tt, (update_keeps fd.0 _ (λ e. refl), tt)) refl (λ o. refl) (λ k. refl)
effect-at p w c e (call.TLookAt fd) g s i a b m h = own-views_kept p w c fd.0 e a g s (call.TLookAt fd) (λ e. Show.look_in fd.0 e (around p w fd.0 e)) h refl refl ((update_keeps fd.0 _ (shown-keeps_view (Show.first_pending (around p w fd.0 e) e)), tt), tt, (update_keeps fd.0 _ (shown-keeps_view (Show.first_pending (around p w fd.0 e) e)), tt)) refl (λ o. refl) (λ k. refl)
effect-at p w c e (call.TGetState fd) g s i a b m h = own-views_kept p w c fd.0 e a g s (call.TGetState fd) _ h refl refl (tt, tt, tt) refl (λ o. refl) (λ k. refl)
effect-at p w c e (call.TSync fd) g s i a b m h = own-views_kept p w c fd.0 e a g s (call.TSync fd) _ h refl refl (tt, tt, tt) refl (λ o. refl) (λ k. refl)
effect-at p w c e (call.TGetInfo fd) g s i a b m h = own-views_kept p w c fd.0 e a g s (call.TGetInfo fd) _ h refl refl (tt, tt, tt) refl (λ o. refl) (λ k. refl)
effect-at p w c e (call.TGetProtAddr fd amax pmax) g s i a b m h = own-views_kept p w c fd.0 e a g s (call.TGetProtAddr fd amax pmax) _ h refl refl (tt, tt, tt) refl (λ o. refl) (λ k. refl)
effect-at p w c e (call.TOptMgmt fd action opt omax) g s i a b m h = own-views_kept p w c fd.0 e a g s (call.TOptMgmt fd action opt omax) (λ e. Show.option_plan_of fd.0 (Show.negotiated p action opt e) action opt omax e) h refl refl ((update_keeps fd.0 _ (λ e. refl), tt), tt, (update_keeps fd.0 _ (λ e. refl), tt)) refl (λ o. refl) (λ k. refl)
effect-at p w c e (call.SetMode fd nonblock) g s i a b m h = own-views_kept p w c fd.0 e a g s (call.SetMode fd nonblock) _ h refl refl ((update_keeps fd.0 _ (λ e. refl), tt), tt, (update_keeps fd.0 _ (λ e. refl), tt)) refl (λ o. refl) (λ k. refl)

-- the call of this end
pub own-effect : (p : Providers) (w : World) (c : Connection) (x : ℕ) (e : Endpoint) (call : Call) (g : Go) (s : Step) → LiveEndpoint p w c x e → names x (fd_of call) ≡ true → SendsBytes call → SendHasBytesLeft call g → step p w call g ≡ Some s → EffectOf p w c x (view e) (record { call = call; so_far = g }) s
own-effect p w c x e call g s a i b m h = subst (λ z. LiveEndpoint p w c z e → EffectOf p w c z (view e) (record { call = call; so_far = g }) s) (call_fd-is call x i) (λ k. effect-at p w c e call g s (is_named x (fd_of call) i) k b m h) a
