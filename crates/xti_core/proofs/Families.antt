-- The families of calls.
use Rattle.std.proofs.Common.{◌≡◌, true, ℕ, Some, None, refl}
use Rattle.xti_model.specs.declared.call.Call.{Call}
use Rattle.xti_model.specs.declared.call.Call.TheVariants as call
use Rattle.xti_model.specs.declared.entry.Go.{Go}
use Rattle.xti_model.specs.declared.profile.Providers.{Providers}
use Rattle.xti_model.specs.Touched.{fd_of}
use Rattle.xti_model.specs.World.{place_of}
use Rattle.xti_end.specs.Taken.{IsAt}
use Rattle.xti_switch.specs.Calls.{goes_through_switch}

-- a call without a descriptor opens an endpoint
pub opens-by-switch : (c : Call) (g : Go) → None ≡ fd_of c → goes_through_switch c g ≡ true
opens-by-switch (call.TOpen prov nonblock) g e = refl
opens-by-switch other g e = cc

-- the call is none of those that may touch the cell of another endpoint or the switch, unless it has no descriptor
abbrev pub TouchesOwn : Call → Type 0
TouchesOwn (call.TClose fd) = ⊥
TouchesOwn (call.TBind fd addr qlen amax) = ⊥
TouchesOwn (call.TUnbind fd) = ⊥
TouchesOwn (call.TConnect fd addr opt udata amax omax umax) = ⊥
TouchesOwn (call.TAccept fd resfd seq opt udata) = ⊥
TouchesOwn (call.TSnd fd bytes flags) = ⊥
TouchesOwn (call.TSndV fd parts flags) = ⊥
TouchesOwn (call.TSndDis fd seq udata) = ⊥
TouchesOwn (call.TSndRel fd) = ⊥
TouchesOwn (call.TSndRelData fd udata) = ⊥
TouchesOwn (call.TSndUData fd addr opt bytes) = ⊥
TouchesOwn (call.TSndVUData fd addr opt parts) = ⊥
TouchesOwn (call.TLookAt fd) = ⊥
TouchesOwn other = Unit {0}

same-place : (p : Providers) (n m : ℕ) → Some n ≡ Some m → place_of p m ≡ place_of p n
same-place p n m e = let h : n ≡ m = cc in rw h refl

-- the others touch the cell of their descriptor alone
pub at-own : (p : Providers) (c : Call) (g : Go) (fd : ℕ) → Some fd ≡ fd_of c → TouchesOwn c → IsAt p (place_of p fd) c g
at-own p (call.TOpen prov nonblock) g fd e t = cc
at-own p (call.TClose n) g fd e t = absurd t
at-own p (call.TBind n addr qlen amax) g fd e t = absurd t
at-own p (call.TUnbind n) g fd e t = absurd t
at-own p (call.TConnect n addr opt udata amax omax umax) g fd e t = absurd t
at-own p (call.TAccept n resfd seq opt udata) g fd e t = absurd t
at-own p (call.TSnd n bytes flags) g fd e t = absurd t
at-own p (call.TSndV n parts flags) g fd e t = absurd t
at-own p (call.TSndDis n seq udata) g fd e t = absurd t
at-own p (call.TSndRel n) g fd e t = absurd t
at-own p (call.TSndRelData n udata) g fd e t = absurd t
at-own p (call.TSndUData n addr opt bytes) g fd e t = absurd t
at-own p (call.TSndVUData n addr opt parts) g fd e t = absurd t
at-own p (call.TLookAt n) g fd e t = absurd t
at-own p (call.TRcvConnect n amax omax umax) g fd e t = same-place p fd n.0 e
at-own p (call.TListen n amax omax umax) g fd e t = same-place p fd n.0 e
at-own p (call.TRcv n max) g fd e t = same-place p fd n.0 e
at-own p (call.TRcvV n sizes) g fd e t = same-place p fd n.0 e
at-own p (call.TRcvDis n umax) g fd e t = same-place p fd n.0 e
at-own p (call.TRcvRel n) g fd e t = same-place p fd n.0 e
at-own p (call.TRcvRelData n umax) g fd e t = same-place p fd n.0 e
at-own p (call.TRcvUData n max amax omax) g fd e t = same-place p fd n.0 e
at-own p (call.TRcvVUData n sizes amax omax) g fd e t = same-place p fd n.0 e
at-own p (call.TRcvUDErr n amax omax) g fd e t = same-place p fd n.0 e
at-own p (call.TGetState n) g fd e t = same-place p fd n.0 e
at-own p (call.TSync n) g fd e t = same-place p fd n.0 e
at-own p (call.TGetInfo n) g fd e t = same-place p fd n.0 e
at-own p (call.TGetProtAddr n amax pmax) g fd e t = same-place p fd n.0 e
at-own p (call.TOptMgmt n action opt omax) g fd e t = same-place p fd n.0 e
at-own p (call.SetMode n nonblock) g fd e t = same-place p fd n.0 e
