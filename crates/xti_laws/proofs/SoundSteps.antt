-- Every step keeps a world sound, and so do all entries.
use Rattle.std.proofs.Common.{List, [], ◌∷◌, ◌++◌, true, ◌≡◌, refl, subst, length, sum, Option, Some, None}
use Rattle.std.specs.Prelude.{option_and_then}
use Rattle.std.specs.List.{concat}
use Rattle.xti_model.specs.declared.call.Call.{Call}
use Rattle.xti_model.specs.declared.call.Call.TheVariants as call
use Rattle.xti_model.specs.declared.entry.Go.{Go}
use Rattle.xti_model.specs.declared.entry.Go.TheVariants as go
use Rattle.xti_model.specs.declared.entry.Entry.{Entry}
use Rattle.xti_model.specs.declared.profile.Providers.{Providers}
use Rattle.xti_model.specs.Profile.{valid}
use Rattle.xti_model.specs.World.{World, opening}
use Rattle.xti_model.specs.Step.{Step, plan, step}
use Rattle.xti_model.specs.History.{Going, doing, step_going, step_at, left_by, after_from, after}
use Rattle.xti_laws.proofs.Steps.{sound-step, bound-step}
use Rattle.xti_laws.specs.Invariant.{SoundWorld, Paired}
use Rattle.xti_laws.specs.Connections.{Matched, PeersThere}
use Rattle.xti_laws.proofs.PairedAfterCalls.{next-paired}
use Rattle.xti_laws.proofs.MatchedAfterCalls.{next-matched}
use Rattle.xti_laws.proofs.PeersAfterCalls.{next-there}
use Rattle.xti_laws.proofs.QuietChanges.{Parts}
use Rattle.xti_laws.proofs.OwnCalls.{bind-parts, unbind-parts, connect-parts, confirm-parts, listen-parts, rcv-parts, rcvdis-parts, rcvrel-parts}
use Rattle.xti_laws.proofs.ShowCalls.{sndudata-parts, rcvudata-parts, rcvuderr-parts, look-parts, mode-parts, option-parts, state-parts, info-parts, addresses-parts, open-parts}
use Rattle.xti_laws.proofs.AcrossCalls.{close-parts, snddis-parts, sndrel-parts}
use Rattle.xti_laws.proofs.SendCalls.{send-parts}
use Rattle.xti_laws.proofs.SoundAcceptCall.{accept-parts}
use Rattle.xti_laws.proofs.Beginning.{opening-sound}

next-parts : (p : Providers) (w : World) (c : Call) (g : Go) → valid p ≡ true → SoundWorld p w → Parts p (left_by w (step p w c g))
unfolding step plan
next-parts p w (call.TOpen prov nonblock) g v h = open-parts p w prov nonblock v h
next-parts p w (call.TClose fd) g v h = close-parts p w h fd.0
next-parts p w (call.TBind fd addr qlen amax) g v h = bind-parts p w fd.0 addr qlen amax h
next-parts p w (call.TUnbind fd) g v h = unbind-parts p w fd.0 h
next-parts p w (call.TConnect fd addr opt udata amax omax umax) go.Begin v h = connect-parts p w h fd.0 addr opt udata
next-parts p w (call.TConnect fd addr opt udata amax omax umax) (go.More n) v h = confirm-parts p w h fd.0 amax omax umax
next-parts p w (call.TRcvConnect fd amax omax umax) g v h = confirm-parts p w h fd.0 amax omax umax
next-parts p w (call.TListen fd amax omax umax) g v h = listen-parts p w h fd.0 amax omax umax
next-parts p w (call.TAccept fd resfd seq opt udata) g v h = accept-parts p w h fd.0 resfd.0 seq.0 opt udata
next-parts p w (call.TSnd fd bytes flags) g v h = send-parts p w v h fd.0 1 bytes flags g
next-parts p w (call.TSndV fd parts flags) g v h = send-parts p w v h fd.0 (length parts) (concat parts) flags g
next-parts p w (call.TRcv fd max) g v h = rcv-parts p w h fd.0 1 max
next-parts p w (call.TRcvV fd sizes) g v h = rcv-parts p w h fd.0 (length sizes) (sum sizes)
next-parts p w (call.TSndDis fd seq udata) g v h = snddis-parts p w h fd.0 seq.0 udata
next-parts p w (call.TRcvDis fd umax) g v h = rcvdis-parts p w h fd.0 umax
next-parts p w (call.TSndRel fd) g v h = sndrel-parts p w h fd.0 []
next-parts p w (call.TRcvRel fd) g v h = rcvrel-parts p w h fd.0 0 _
next-parts p w (call.TSndRelData fd udata) g v h = sndrel-parts p w h fd.0 udata
next-parts p w (call.TRcvRelData fd umax) g v h = rcvrel-parts p w h fd.0 umax _
next-parts p w (call.TSndUData fd addr opt bytes) g v h = sndudata-parts p w h fd.0 addr opt 1 bytes v
next-parts p w (call.TSndVUData fd addr opt parts) g v h = sndudata-parts p w h fd.0 addr opt (length parts) (concat parts) v
next-parts p w (call.TRcvUData fd max amax omax) g v h = rcvudata-parts p w h fd.0 1 max amax omax
next-parts p w (call.TRcvVUData fd sizes amax omax) g v h = rcvudata-parts p w h fd.0 (length sizes) (sum sizes) amax omax
next-parts p w (call.TRcvUDErr fd amax omax) g v h = rcvuderr-parts p w h fd.0 amax omax
next-parts p w (call.TLookAt fd) g v h = look-parts p w h fd.0
next-parts p w (call.TGetState fd) g v h = state-parts p w h fd.0
next-parts p w (call.TSync fd) g v h = state-parts p w h fd.0
next-parts p w (call.TGetInfo fd) g v h = info-parts p w h fd.0
next-parts p w (call.TGetProtAddr fd amax pmax) g v h = addresses-parts p w h fd.0 amax pmax
next-parts p w (call.TOptMgmt fd action opt omax) g v h = option-parts p w h fd.0 action opt omax
next-parts p w (call.SetMode fd nonblock) g v h = mode-parts p w h fd.0 nonblock

pub step-sound : (p : Providers) (w : World) (c : Call) (g : Go) (s : Step) → valid p ≡ true → SoundWorld p w → step p w c g ≡ Some s → SoundWorld p s.world
step-sound p w c g s v h i =
    let q : Parts p s.world = subst (λ o. Parts p (left_by w o)) i (next-parts p w c g v h) in
    record { registered = q.0; endpoints = q.1; links = sound-step p w c g s h.links h.bound i; bound = bound-step p w c g s h.bound i; pairs = subst (λ o. Paired p (left_by w o)) i (next-paired p w c g h.links h.pairs); matched = subst (λ o. Matched p (left_by w o)) i (next-matched p w h.links h.pairs h.matched c g); there = subst (λ o. PeersThere p (left_by w o)) i (next-there p w h c g) }

going-sound : (p : Providers) (w : World) (o : Option Going) → valid p ≡ true → SoundWorld p w → SoundWorld p (left_by w (option_and_then (step_going p w) o))
going-sound p w None v h = h
going-sound p w (Some g) v h = go (step p w g.call g.so_far) refl
  where
    go : (o : Option Step) → step p w g.call g.so_far ≡ o → SoundWorld p (left_by w o)
    go None i = h
    go (Some s) i = step-sound p w g.call g.so_far s v h i

pub after_from-sound : (p : Providers) (w : World) (past es : List Entry) → valid p ≡ true → SoundWorld p w → SoundWorld p (after_from p w past es)
after_from-sound p w past [] v h = h
after_from-sound p w past (e ∷ es) v h = after_from-sound p (left_by w (step_at p w past e)) (past ++ e ∷ []) es v (going-sound p w (doing past e) v h)

pub after-sound : (p : Providers) (es : List Entry) → valid p ≡ true → SoundWorld p (after p es)
after-sound p es v = after_from-sound p (opening p) [] es v (opening-sound p)
