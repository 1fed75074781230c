-- A step leaves the states and counts of all endpoints but those that it takes by the table, and a refused one all of them.
use Rattle.std.proofs.Common.{ℕ, Bool, false, List, [], ◌≡◌, refl, sym, ap, ◌∙◌, subst, true, eqb, length, Option, Some, None}
use Rattle.std.proofs.lemmas.Bool.{eqb-true}
use Rattle.std.specs.Prelude.{sum, option_and_then}
use Rattle.std.specs.List.{concat}
use Rattle.xti_model.specs.declared.call.Call.{Call}
use Rattle.xti_model.specs.declared.call.Call.TheVariants as call
use Rattle.xti_model.specs.declared.entry.Go.{Go}
use Rattle.xti_model.specs.declared.entry.Go.TheVariants as go
use Rattle.xti_model.specs.declared.profile.Providers.{Providers}
use Rattle.xti_model.specs.Endpoint.{Endpoint}
use Rattle.xti_model.specs.World.{World, Switch, changed, endpoint, state_of, the_switch}
use Rattle.xti_model.specs.Switch.{opening_place, bound, give_up_address}
use Rattle.xti_model.specs.Events.{around}
use Rattle.xti_model.specs.Plan.{Plan, if_open, on_open}
use Rattle.xti_model.specs.Step.{plan, step, step_of, connect}
use Rattle.xti_model.specs.History.{left_by}
use Rattle.xti_model.specs.Calls.Open as Open
use Rattle.xti_model.specs.Calls.Close as Close
use Rattle.xti_model.specs.Calls.Bind as Bind
use Rattle.xti_model.specs.Calls.Connect as Connect
use Rattle.xti_model.specs.Calls.Listen as Listen
use Rattle.xti_model.specs.Calls.Receive as Receive
use Rattle.xti_model.specs.Calls.Disconnect as Disconnect
use Rattle.xti_model.specs.Calls.Release as Release
use Rattle.xti_model.specs.Calls.Datagrams as Datagrams
use Rattle.xti_model.specs.Calls.Show as Show
use Rattle.xti_laws.specs.States.{state_at, ocnt_of, is_responding, KeepsEveryState, KeepsOtherStates}
use Rattle.xti_laws.specs.Counts.{ocnt_at, KeepsEveryCount, KeepsOtherCounts}
use Rattle.xti_laws.proofs.Effects.{AllLeave, elsewhere, steady, in_switch, linked-leave, append-leave, step-any, step-refused}
use Rattle.xti_laws.proofs.LeavingPlans.{leaves-state, leaves-count, PlanLeaves, both, one, on_open-leave, close-leave, request-leave, accept-leave, snddis-leave, datagram-leave, send-leave}
use Rattle.xti_laws.proofs.Opening.{open-others}
use Rattle.xti_laws.proofs.StatesOfConnections.{passed-count}
use Rattle.xti_laws.proofs.TableWalk.{told-fd}

connect-leave : (p : Providers) (w : World) (x fd : ℕ) (address options udata : List ℕ) (amax omax umax : ℕ) (g : Go) → eqb x (connect p w fd address options udata amax omax umax g).fd ≡ false → PlanLeaves x (connect p w fd address options udata amax omax umax g)
connect-leave p w x fd address options udata amax omax umax go.Begin k = on_open-leave p w x fd (λ e. Connect.plan_to fd address options udata e (Connect.found p w fd address e)) (λ e. refl) (λ e j. both x (Connect.request fd options udata e (Connect.found p w fd address e)) (request-leave x fd options udata e (Connect.found p w fd address e) j)) k
connect-leave p w x fd address options udata amax omax umax (go.More n) k = on_open-leave p w x fd _ (λ e. refl) (λ e j. one x fd Connect.confirmed j) k

accept-fd : (p : Providers) (fd resfd number : ℕ) (options udata : List ℕ) (e : Endpoint) (o : Option Endpoint) → (Listen.accept_with p fd resfd number options udata e o).fd ≡ fd
accept-fd p fd resfd number options udata e None = refl
accept-fd p fd resfd number options udata e (Some r) = refl

sndrel-leave : (p : Providers) (w : World) (x fd : ℕ) (udata : List ℕ) → eqb x (Release.send_plan p w fd udata).fd ≡ false → PlanLeaves x (Release.send_plan p w fd udata)
sndrel-leave p w x fd udata k = on_open-leave p w x fd _ (λ e. refl) (λ e j. both x _ (append-leave x _ _ (linked-leave x fd e.peer (Release.released udata) (λ z. refl)) (elsewhere fd Release.after_send j, tt))) k

-- all calls but an open leave others
abbrev CallLeaves : ℕ → Call → Plan → Type 0
CallLeaves x (call.TOpen prov nonblock) plan = Unit
CallLeaves x other plan = PlanLeaves x plan

plan-leaves : (p : Providers) (w : World) (x : ℕ) (c : Call) (g : Go) → eqb x (plan p w c g).fd ≡ false → is_responding c x ≡ false → CallLeaves x c (plan p w c g)
unfolding plan
plan-leaves p w x (call.TOpen prov nonblock) g k r = tt
plan-leaves p w x (call.TClose fd) g k r = on_open-leave p w x fd.0 _ (λ e. refl) (λ e j. both x (Close.changes p fd.0 e) (close-leave p x fd.0 e j)) k
plan-leaves p w x (call.TBind fd addr qlen amax) g k r = on_open-leave p w x fd.0 _ (λ e. refl) (λ e j. ((elsewhere fd.0 _ j, (in_switch _, tt)), tt, (elsewhere fd.0 _ j, (in_switch _, tt)))) k
plan-leaves p w x (call.TUnbind fd) g k r = on_open-leave p w x fd.0 _ (λ e. refl) (λ e j. ((elsewhere fd.0 Bind.unbound j, (in_switch (give_up_address fd.0), tt)), tt, (elsewhere fd.0 Bind.unbound j, (in_switch (give_up_address fd.0), tt)))) k
plan-leaves p w x (call.TConnect fd addr opt udata amax omax umax) g k r = connect-leave p w x fd.0 addr opt udata amax omax umax g k
plan-leaves p w x (call.TRcvConnect fd amax omax umax) g k r = on_open-leave p w x fd.0 _ (λ e. refl) (λ e j. one x fd.0 Connect.confirmed j) k
plan-leaves p w x (call.TListen fd amax omax umax) g k r = on_open-leave p w x fd.0 _ (λ e. refl) (λ e j. one x fd.0 Listen.listened j) k
plan-leaves p w x (call.TAccept fd resfd seq opt udata) g k r = on_open-leave p w x fd.0 (λ e. Listen.accept_with p fd.0 resfd.0 seq.0 opt udata e (endpoint p w resfd.0)) (λ e. accept-fd p fd.0 resfd.0 seq.0 opt udata e (endpoint p w resfd.0)) (λ e j. accept-leave p x fd.0 resfd.0 seq.0 opt udata e (endpoint p w resfd.0) j r) k
plan-leaves p w x (call.TSnd fd bytes flags) g k r = send-leave p w x fd.0 1 bytes flags g
plan-leaves p w x (call.TSndV fd parts flags) g k r = send-leave p w x fd.0 (length parts) (concat parts) flags g
plan-leaves p w x (call.TRcv fd max) g k r = on_open-leave p w x fd.0 _ (λ e. refl) (λ e j. one x fd.0 (Receive.received p max) j) k
plan-leaves p w x (call.TRcvV fd sizes) g k r = on_open-leave p w x fd.0 _ (λ e. refl) (λ e j. one x fd.0 (Receive.received p (sum sizes)) j) k
plan-leaves p w x (call.TSndDis fd seq udata) g k r = on_open-leave p w x fd.0 _ (λ e. refl) (λ e j. both x (Disconnect.send_changes fd.0 seq.0 udata e) (snddis-leave x fd.0 seq.0 udata e j)) k
plan-leaves p w x (call.TRcvDis fd umax) g k r = on_open-leave p w x fd.0 _ (λ e. refl) (λ e j. one x fd.0 Disconnect.received j) k
plan-leaves p w x (call.TSndRel fd) g k r = sndrel-leave p w x fd.0 [] k
plan-leaves p w x (call.TRcvRel fd) g k r = on_open-leave p w x fd.0 _ (λ e. refl) (λ e j. one x fd.0 Release.after_receive j) k
plan-leaves p w x (call.TSndRelData fd udata) g k r = sndrel-leave p w x fd.0 udata k
plan-leaves p w x (call.TRcvRelData fd umax) g k r = on_open-leave p w x fd.0 _ (λ e. refl) (λ e j. one x fd.0 Release.after_receive j) k
plan-leaves p w x (call.TSndUData fd addr opt bytes) g k r = on_open-leave p w x fd.0 _ (λ e. refl) (λ e j. datagram-leave p x fd.0 addr opt 1 bytes e (bound (the_switch p w) e.prov addr) (option_and_then (endpoint p w) (bound (the_switch p w) e.prov addr))) k
plan-leaves p w x (call.TSndVUData fd addr opt parts) g k r = on_open-leave p w x fd.0 _ (λ e. refl) (λ e j. datagram-leave p x fd.0 addr opt (length parts) (concat parts) e (bound (the_switch p w) e.prov addr) (option_and_then (endpoint p w) (bound (the_switch p w) e.prov addr))) k
plan-leaves p w x (call.TRcvUData fd max amax omax) g k r = on_open-leave p w x fd.0 _ (λ e. refl) (λ e j. ((elsewhere fd.0 (Datagrams.received max) j, tt), tt, (elsewhere fd.0 Datagrams.dropped j, tt))) k
plan-leaves p w x (call.TRcvVUData fd sizes amax omax) g k r = on_open-leave p w x fd.0 _ (λ e. refl) (λ e j. ((elsewhere fd.0 (Datagrams.received (sum sizes)) j, tt), tt, (elsewhere fd.0 Datagrams.dropped j, tt))) k
plan-leaves p w x (call.TRcvUDErr fd amax omax) g k r = on_open-leave p w x fd.0 _ (λ e. refl) (λ e j. one x fd.0 Datagrams.without_error j) k
plan-leaves p w x (call.TLookAt fd) g k r = on_open-leave p w x fd.0 _ (λ e. refl) (λ e j. one x fd.0 (Show.shown (Show.first_pending (around p w fd.0 e) e)) j) k
plan-leaves p w x (call.TGetState fd) g k r = on_open-leave p w x fd.0 _ (λ e. refl) (λ e j. (tt, tt, tt)) k
plan-leaves p w x (call.TSync fd) g k r = on_open-leave p w x fd.0 _ (λ e. refl) (λ e j. (tt, tt, tt)) k
plan-leaves p w x (call.TGetInfo fd) g k r = on_open-leave p w x fd.0 _ (λ e. refl) (λ e j. (tt, tt, tt)) k
plan-leaves p w x (call.TGetProtAddr fd amax pmax) g k r = on_open-leave p w x fd.0 _ (λ e. refl) (λ e j. (tt, tt, tt)) k
plan-leaves p w x (call.TOptMgmt fd action opt omax) g k r = on_open-leave p w x fd.0 _ (λ e. refl) (λ e j. one x fd.0 (Show.with_settings (Show.negotiated p action opt e).settings) j) k
plan-leaves p w x (call.SetMode fd nonblock) g k r = on_open-leave p w x fd.0 _ (λ e. refl) (λ e j. one x fd.0 (Show.in_mode nonblock) j) k

leave-both : (p : Providers) (w : World) (x : ℕ) (y : Plan) → PlanLeaves x y → (state_at p (left_by w (step_of p w y)) x ≡ state_at p w x) × (ocnt_at p (left_by w (step_of p w y)) x ≡ ocnt_at p w x)
leave-both p w x y h = (
  step-any (λ z. state_at p z x ≡ state_at p w x) p w y refl (leaves-state p x y.changes h.0 w) (leaves-state p x y.marks h.1 w) (leaves-state p x y.lost h.2 w),
  step-any (λ z. ocnt_at p z x ≡ ocnt_at p w x) p w y refl (leaves-count p x y.changes h.0 w) (leaves-count p x y.marks h.1 w) (leaves-count p x y.lost h.2 w),
)

pub keeps-others : (p : Providers) (w : World) (c : Call) (g : Go) → KeepsOtherStates p w c g
unfolding step plan
keeps-others p w (call.TOpen prov nonblock) g = λ a x k r. ap state_of (open-others p w prov nonblock g a x k)
keeps-others p w other g = λ a x k r. (leave-both p w x (plan p w other g) (plan-leaves p w x other g k r)).0

-- the other responding endpoint of an accept keeps its count
accept-count : (p : Providers) (w : World) (fd resfd number : ℕ) (options udata : List ℕ) → eqb resfd fd ≡ false → ocnt_at p (left_by w (step_of p w (Listen.accept_plan p w fd resfd number options udata))) resfd ≡ ocnt_at p w resfd
accept-count p w fd resfd number options udata n = go (endpoint p w fd)
  where
    same : (e : Endpoint) (o : Option Endpoint) → endpoint p w resfd ≡ o → ocnt_at p (left_by w (step_of p w (Listen.accept_with p fd resfd number options udata e o))) resfd ≡ ocnt_at p w resfd
    same e None h = refl
    same e (Some r) h =
        let k : ocnt_at p (changed p w (Listen.accept_with p fd resfd number options udata e (Some r)).changes) resfd ≡ ocnt_at p w resfd = passed-count p w fd resfd number options udata e (Some r) h n in
        step-any (λ z. ocnt_at p z resfd ≡ ocnt_at p w resfd) p w (Listen.accept_with p fd resfd number options udata e (Some r)) refl k refl k

    go : (o : Option Endpoint) → ocnt_at p (left_by w (step_of p w (if_open fd o (λ e. Listen.accept_with p fd resfd number options udata e (endpoint p w resfd))))) resfd ≡ ocnt_at p w resfd
    go None = refl
    go (Some e) = same e (endpoint p w resfd) refl

pub keeps-other-counts : (p : Providers) (w : World) (c : Call) (g : Go) → KeepsOtherCounts p w c g
unfolding step plan
keeps-other-counts p w (call.TOpen prov nonblock) g = λ a x k. ap ocnt_of (open-others p w prov nonblock g a x k)
keeps-other-counts p w (call.TAccept fd resfd seq opt udata) g = λ a x k. go x k (eqb x resfd.0) refl
  where
    c : Call
    c = call.TAccept fd resfd seq opt udata

    own : (plan p w c g).fd ≡ fd.0
    own = told-fd p w c g

    go : (x : ℕ) → eqb x (plan p w c g).fd ≡ false → (b : Bool) → eqb x resfd.0 ≡ b → ocnt_at p (left_by w (step p w c g)) x ≡ ocnt_at p w x
    go x k true j =
        let i : x ≡ resfd.0 = eqb-true x resfd.0 j in
        subst (λ z. ocnt_at p (left_by w (step p w c g)) z ≡ ocnt_at p w z) (sym i) (accept-count p w fd.0 resfd.0 seq.0 opt udata (ap (λ z. eqb z fd.0) (sym i) ∙ (ap (eqb x) (sym own) ∙ k)))
    go x k false j = (leave-both p w x (plan p w c g) (plan-leaves p w x c g k j)).1
keeps-other-counts p w other g = λ a x k. (leave-both p w x (plan p w other g) (plan-leaves p w x other g k refl)).1

-- A plan's marks leave every state.
on_open-marks : (p : Providers) (w : World) (x fd : ℕ) (f : Endpoint → Plan) → ((e : Endpoint) → AllLeave x (f e).marks) → AllLeave x (on_open p w fd f).marks
on_open-marks p w x fd f h = go (endpoint p w fd)
  where
    go : (o : Option Endpoint) → AllLeave x (if_open fd o f).marks
    go None = tt
    go (Some e) = h e

connect-marks : (p : Providers) (w : World) (x fd : ℕ) (address options udata : List ℕ) (amax omax umax : ℕ) (g : Go) → AllLeave x (connect p w fd address options udata amax omax umax g).marks
connect-marks p w x fd address options udata amax omax umax go.Begin = on_open-marks p w x fd (λ e. Connect.plan_to fd address options udata e (Connect.found p w fd address e)) (λ e. tt)
connect-marks p w x fd address options udata amax omax umax (go.More n) = on_open-marks p w x fd _ (λ e. tt)

accept-marks : (p : Providers) (x fd resfd number : ℕ) (options udata : List ℕ) (e : Endpoint) (o : Option Endpoint) → AllLeave x (Listen.accept_with p fd resfd number options udata e o).marks
accept-marks p x fd resfd number options udata e None = tt
accept-marks p x fd resfd number options udata e (Some r) = tt

open-marks : (p : Providers) (x : ℕ) (s : Switch) (prov : _) (nonblock : Bool) (o : Option ℕ) → AllLeave x (Open.plan_where p s prov nonblock o).marks
open-marks p x s prov nonblock None = tt
open-marks p x s prov nonblock (Some n) = tt

marks-leave : (p : Providers) (w : World) (x : ℕ) (c : Call) (g : Go) → AllLeave x (plan p w c g).marks
unfolding plan
marks-leave p w x (call.TOpen prov nonblock) g = open-marks p x (the_switch p w) prov nonblock (opening_place p (the_switch p w) prov)
marks-leave p w x (call.TClose fd) g = on_open-marks p w x fd.0 _ (λ e. tt)
marks-leave p w x (call.TBind fd addr qlen amax) g = on_open-marks p w x fd.0 _ (λ e. tt)
marks-leave p w x (call.TUnbind fd) g = on_open-marks p w x fd.0 _ (λ e. tt)
marks-leave p w x (call.TConnect fd addr opt udata amax omax umax) g = connect-marks p w x fd.0 addr opt udata amax omax umax g
marks-leave p w x (call.TRcvConnect fd amax omax umax) g = on_open-marks p w x fd.0 _ (λ e. tt)
marks-leave p w x (call.TListen fd amax omax umax) g = on_open-marks p w x fd.0 _ (λ e. tt)
marks-leave p w x (call.TAccept fd resfd seq opt udata) g = on_open-marks p w x fd.0 (λ e. Listen.accept_with p fd.0 resfd.0 seq.0 opt udata e (endpoint p w resfd.0)) (λ e. accept-marks p x fd.0 resfd.0 seq.0 opt udata e (endpoint p w resfd.0))
marks-leave p w x (call.TSnd fd bytes flags) g = (send-leave p w x fd.0 1 bytes flags g).1
marks-leave p w x (call.TSndV fd parts flags) g = (send-leave p w x fd.0 (length parts) (concat parts) flags g).1
marks-leave p w x (call.TRcv fd max) g = on_open-marks p w x fd.0 _ (λ e. tt)
marks-leave p w x (call.TRcvV fd sizes) g = on_open-marks p w x fd.0 _ (λ e. tt)
marks-leave p w x (call.TSndDis fd seq udata) g = on_open-marks p w x fd.0 _ (λ e. tt)
marks-leave p w x (call.TRcvDis fd umax) g = on_open-marks p w x fd.0 _ (λ e. tt)
marks-leave p w x (call.TSndRel fd) g = on_open-marks p w x fd.0 _ (λ e. tt)
marks-leave p w x (call.TRcvRel fd) g = on_open-marks p w x fd.0 _ (λ e. tt)
marks-leave p w x (call.TSndRelData fd udata) g = on_open-marks p w x fd.0 _ (λ e. tt)
marks-leave p w x (call.TRcvRelData fd umax) g = on_open-marks p w x fd.0 _ (λ e. tt)
marks-leave p w x (call.TSndUData fd addr opt bytes) g = on_open-marks p w x fd.0 _ (λ e. (steady fd.0 _ (λ z. refl), tt))
marks-leave p w x (call.TSndVUData fd addr opt parts) g = on_open-marks p w x fd.0 _ (λ e. (steady fd.0 _ (λ z. refl), tt))
marks-leave p w x (call.TRcvUData fd max amax omax) g = on_open-marks p w x fd.0 _ (λ e. tt)
marks-leave p w x (call.TRcvVUData fd sizes amax omax) g = on_open-marks p w x fd.0 _ (λ e. tt)
marks-leave p w x (call.TRcvUDErr fd amax omax) g = on_open-marks p w x fd.0 _ (λ e. tt)
marks-leave p w x (call.TLookAt fd) g = on_open-marks p w x fd.0 _ (λ e. tt)
marks-leave p w x (call.TGetState fd) g = on_open-marks p w x fd.0 _ (λ e. tt)
marks-leave p w x (call.TSync fd) g = on_open-marks p w x fd.0 _ (λ e. tt)
marks-leave p w x (call.TGetInfo fd) g = on_open-marks p w x fd.0 _ (λ e. tt)
marks-leave p w x (call.TGetProtAddr fd amax pmax) g = on_open-marks p w x fd.0 _ (λ e. tt)
marks-leave p w x (call.TOptMgmt fd action opt omax) g = on_open-marks p w x fd.0 _ (λ e. tt)
marks-leave p w x (call.SetMode fd nonblock) g = on_open-marks p w x fd.0 _ (λ e. tt)

pub keeps-every : (p : Providers) (w : World) (c : Call) (g : Go) → KeepsEveryState p w c g
unfolding step
keeps-every p w c g h x = step-refused (λ z. state_at p z x ≡ state_at p w x) p w (plan p w c g) refl (leaves-state p x (plan p w c g).marks (marks-leave p w x c g) w) h

pub keeps-every-count : (p : Providers) (w : World) (c : Call) (g : Go) → KeepsEveryCount p w c g
unfolding step
keeps-every-count p w c g h x = step-refused (λ z. ocnt_at p z x ≡ ocnt_at p w x) p w (plan p w c g) refl (leaves-count p x (plan p w c g).marks (marks-leave p w x c g) w) h
