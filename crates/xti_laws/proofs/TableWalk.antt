-- A step with an effect takes the call's endpoint from state to state by the table, and changes its count of outstanding indications so.
use Rattle.std.proofs.Common.{ℕ, true, false, List, [], ◌∷◌, ◌++◌, ◌≡◌, refl, sym, cond, subst, eqb, length, map, Option, Some, None}
use Rattle.std.specs.Prelude.{sum, option_and_then, is_none}
use Rattle.std.specs.List.{concat}
use Rattle.xti_base.specs.declared.kinds.State.TheVariants.{T_UNBND, T_IDLE}
use Rattle.xti_model.specs.declared.call.Call.{Call}
use Rattle.xti_model.specs.declared.call.Call.TheVariants as call
use Rattle.xti_model.specs.declared.entry.Go.{Go}
use Rattle.xti_model.specs.declared.entry.Go.TheVariants as go
use Rattle.xti_model.specs.declared.profile.Providers.{Providers}
use Rattle.xti_model.specs.Endpoint.{Endpoint, ocnt}
use Rattle.xti_model.specs.World.{World, at_endpoint, at_switch, changed, endpoint, the_switch}
use Rattle.xti_model.specs.Switch.{bound, chosen, give_up_address}
use Rattle.xti_model.specs.Links.{linked, break}
use Rattle.xti_model.specs.Events.{is_state, around, sending, receiving}
use Rattle.xti_model.specs.Plan.{Plan, first, if_open, on_open, has_effect}
use Rattle.xti_model.specs.Step.{plan, step, step_of, send, connect}
use Rattle.xti_model.specs.History.{left_by}
use Rattle.xti_model.specs.Touched.{fd_of}
use Rattle.std.proofs.lemmas.Bool.{false≢true}
use Rattle.xti_model.specs.Calls.Close as Close
use Rattle.xti_model.specs.Calls.Bind as Bind
use Rattle.xti_model.specs.Calls.Connect as Connect
use Rattle.xti_model.specs.Calls.Listen as Listen
use Rattle.xti_model.specs.Calls.Send as Send
use Rattle.xti_model.specs.Calls.Receive as Receive
use Rattle.xti_model.specs.Calls.Datagrams as Datagrams
use Rattle.xti_model.specs.Calls.Show as Show
use Rattle.xti_model.specs.StateTable.{move_of, by_close, by_bind, by_unbind, by_connect, by_rcvconnect, by_listen, by_accept_here, by_accept_there, by_snd, by_rcv, by_snddis, by_rcvdis, by_sndrel, by_rcvrel, by_datagram, by_show, passed, is_in_table}
use Rattle.xti_laws.specs.States.{state_at, ocnt_of, told, TakesByTheTable, PassesByTheTable}
use Rattle.xti_laws.specs.Counts.{TakesOutstanding, CountsByTheTable}
use Rattle.xti_laws.proofs.SteadyUpdates.{received-steady, datagram-steady, shown-steady}
use Rattle.xti_laws.proofs.Effects.{AllLeave, steady, in_switch, closed-state, open-effect}
use Rattle.xti_laws.proofs.TableRows.{bind-row, unbind-row, snd-row, rcv-row, datagram-row, show-row, close-row}
use Rattle.xti_laws.proofs.FollowsTable.{Taken, FollowsIf, take, take-later, own, stay, leads_to}
use Rattle.xti_laws.proofs.ClearedRows.{Cleared, cleared, un-not}
use Rattle.xti_laws.proofs.StatesOfConnections.{confirm-taken, listen-taken, request-taken, send_release-taken, receive_release-taken, receive_disconnect-taken, send_disconnect-taken, accept-taken, passed-taken}
use Rattle.xti_laws.proofs.LeavingPlans.{send_to-leave, datagram-leave}
use Rattle.xti_laws.proofs.Opening.{open-takes}

-- the law at a descriptor
abbrev TakesAt : Providers → World → Call → Go → ℕ → Type 0
TakesAt p w c g fd = has_effect (first (plan p w c g).rows) ≡ true → FollowsIf (TakesOutstanding p w c) (move_of c g) (endpoint p w fd) (endpoint p (left_by w (step p w c g)) fd)

on_open-fd : (p : Providers) (w : World) (fd : ℕ) (f : Endpoint → Plan) → ((e : Endpoint) → (f e).fd ≡ fd) → (on_open p w fd f).fd ≡ fd
on_open-fd p w fd f h = go (endpoint p w fd)
  where
    go : (o : Option Endpoint) → (if_open fd o f).fd ≡ fd
    go None = refl
    go (Some e) = h e

-- where all changes leave the state, and the table has the state itself
shows : (p : Providers) (w : World) (fd : ℕ) (f : Endpoint → Plan) → ((e : Endpoint) → AllLeave fd (f e).changes × AllLeave fd (f e).lost) → has_effect (first (on_open p w fd f).rows) ≡ true
    → FollowsIf Unit by_show (endpoint p w fd) (endpoint p (left_by w (step_of p w (on_open p w fd f))) fd)
shows p w fd f h = take Unit p w fd by_show f (λ e o c. stay p w fd by_show e (f e).changes (f e).lost o (h e).0 (h e).1 (show-row e.state (ocnt e)))

connect-takes : (p : Providers) (w : World) (fd : _) (addr opt udata : List ℕ) (amax omax umax : ℕ) (g : Go) → TakesAt p w (call.TConnect fd addr opt udata amax omax umax) g fd.0
unfolding step plan
connect-takes p w fd addr opt udata amax omax umax go.Begin = take Unit p w fd.0 by_connect (λ e. Connect.plan_to fd.0 addr opt udata e (Connect.found p w fd.0 addr e)) (λ e o c. request-taken p w fd.0 addr opt udata e (Connect.found p w fd.0 addr e) o c)
connect-takes p w fd addr opt udata amax omax umax (go.More n) = take Unit p w fd.0 by_rcvconnect _ (λ e o c. confirm-taken p w fd.0 amax omax umax e o c)

send-taken : (p : Providers) (w : World) (fd parts : ℕ) (bytes : List ℕ) (flags taken : ℕ) (e : Endpoint) (peer : Option Endpoint) → endpoint p w fd ≡ Some e → Cleared (Send.rows p parts bytes flags taken peer e) → Taken p w fd by_snd e (Send.plan_to p fd parts bytes flags taken e peer).changes (Send.plan_to p fd parts bytes flags taken e peer).lost
send-taken p w fd parts bytes flags taken e peer o c = stay p w fd by_snd e (Send.plan_to p fd parts bytes flags taken e peer).changes (Send.plan_to p fd parts bytes flags taken e peer).lost o
    (send_to-leave p fd fd parts bytes flags taken e peer).0 (send_to-leave p fd fd parts bytes flags taken e peer).2 (snd-row e.state (ocnt e) (un-not (is_state sending e) c.1.1.0))

send-takes : (p : Providers) (w : World) (fd parts : ℕ) (bytes : List ℕ) (flags : ℕ) (g : Go) → has_effect (first (send p w fd parts bytes flags g).rows) ≡ true
    → FollowsIf Unit by_snd (endpoint p w fd) (endpoint p (left_by w (step_of p w (send p w fd parts bytes flags g))) fd)
send-takes p w fd parts bytes flags go.Begin = take Unit p w fd by_snd (λ e. Send.plan_to p fd parts bytes flags 0 e (linked p w fd e)) (λ e o c. send-taken p w fd parts bytes flags 0 e (linked p w fd e) o c)
send-takes p w fd parts bytes flags (go.More n) = take-later p w fd n by_snd (λ e. Send.plan_to p fd parts bytes flags n e (linked p w fd e)) (λ e o c. send-taken p w fd parts bytes flags n e (linked p w fd e) o c)

send-fd : (p : Providers) (w : World) (fd parts : ℕ) (bytes : List ℕ) (flags : ℕ) (g : Go) → (send p w fd parts bytes flags g).fd ≡ fd
send-fd p w fd parts bytes flags go.Begin = on_open-fd p w fd (λ e. Send.plan_to p fd parts bytes flags 0 e (linked p w fd e)) (λ e. refl)
send-fd p w fd parts bytes flags (go.More n) = on_open-fd p w fd (λ e. Send.plan_to p fd parts bytes flags n e (linked p w fd e)) (λ e. refl)

connect-fd : (p : Providers) (w : World) (fd : ℕ) (addr opt udata : List ℕ) (amax omax umax : ℕ) (g : Go) → (connect p w fd addr opt udata amax omax umax g).fd ≡ fd
connect-fd p w fd addr opt udata amax omax umax go.Begin = on_open-fd p w fd (λ e. Connect.plan_to fd addr opt udata e (Connect.found p w fd addr e)) (λ e. refl)
connect-fd p w fd addr opt udata amax omax umax (go.More n) = on_open-fd p w fd _ (λ e. refl)

accept-fd : (p : Providers) (fd resfd number : ℕ) (options udata : List ℕ) (e : Endpoint) (o : Option Endpoint) → (Listen.accept_with p fd resfd number options udata e o).fd ≡ fd
accept-fd p fd resfd number options udata e None = refl
accept-fd p fd resfd number options udata e (Some r) = refl

-- the descriptor whose state is told is the call's own
abbrev pub ToldIs : Providers → World → Call → Go → Option ℕ → Type 0
ToldIs p w c g None = Unit
ToldIs p w c g (Some fd) = (plan p w c g).fd ≡ fd

pub told-fd : (p : Providers) (w : World) (c : Call) (g : Go) → ToldIs p w c g (fd_of c)
unfolding plan
told-fd p w (call.TOpen prov nonblock) g = tt
told-fd p w (call.TConnect fd addr opt udata amax omax umax) g = connect-fd p w fd.0 addr opt udata amax omax umax g
told-fd p w (call.TAccept fd resfd seq opt udata) g = on_open-fd p w fd.0 (λ e. Listen.accept_with p fd.0 resfd.0 seq.0 opt udata e (endpoint p w resfd.0)) (λ e. accept-fd p fd.0 resfd.0 seq.0 opt udata e (endpoint p w resfd.0))
told-fd p w (call.TSnd fd bytes flags) g = send-fd p w fd.0 1 bytes flags g
told-fd p w (call.TSndV fd parts flags) g = send-fd p w fd.0 (length parts) (concat parts) flags g
told-fd p w (call.TClose fd) g = on_open-fd p w fd.0 _ (λ e. refl)
told-fd p w (call.TBind fd addr qlen amax) g = on_open-fd p w fd.0 _ (λ e. refl)
told-fd p w (call.TUnbind fd) g = on_open-fd p w fd.0 _ (λ e. refl)
told-fd p w (call.TRcvConnect fd amax omax umax) g = on_open-fd p w fd.0 _ (λ e. refl)
told-fd p w (call.TListen fd amax omax umax) g = on_open-fd p w fd.0 _ (λ e. refl)
told-fd p w (call.TRcv fd max) g = on_open-fd p w fd.0 _ (λ e. refl)
told-fd p w (call.TRcvV fd sizes) g = on_open-fd p w fd.0 _ (λ e. refl)
told-fd p w (call.TSndDis fd seq udata) g = on_open-fd p w fd.0 _ (λ e. refl)
told-fd p w (call.TRcvDis fd umax) g = on_open-fd p w fd.0 _ (λ e. refl)
told-fd p w (call.TSndRel fd) g = on_open-fd p w fd.0 _ (λ e. refl)
told-fd p w (call.TRcvRel fd) g = on_open-fd p w fd.0 _ (λ e. refl)
told-fd p w (call.TSndRelData fd udata) g = on_open-fd p w fd.0 _ (λ e. refl)
told-fd p w (call.TRcvRelData fd umax) g = on_open-fd p w fd.0 _ (λ e. refl)
told-fd p w (call.TSndUData fd addr opt bytes) g = on_open-fd p w fd.0 _ (λ e. refl)
told-fd p w (call.TSndVUData fd addr opt parts) g = on_open-fd p w fd.0 _ (λ e. refl)
told-fd p w (call.TRcvUData fd max amax omax) g = on_open-fd p w fd.0 _ (λ e. refl)
told-fd p w (call.TRcvVUData fd sizes amax omax) g = on_open-fd p w fd.0 _ (λ e. refl)
told-fd p w (call.TRcvUDErr fd amax omax) g = on_open-fd p w fd.0 _ (λ e. refl)
told-fd p w (call.TLookAt fd) g = on_open-fd p w fd.0 _ (λ e. refl)
told-fd p w (call.TGetState fd) g = on_open-fd p w fd.0 _ (λ e. refl)
told-fd p w (call.TSync fd) g = on_open-fd p w fd.0 _ (λ e. refl)
told-fd p w (call.TGetInfo fd) g = on_open-fd p w fd.0 _ (λ e. refl)
told-fd p w (call.TGetProtAddr fd amax pmax) g = on_open-fd p w fd.0 _ (λ e. refl)
told-fd p w (call.TOptMgmt fd action opt omax) g = on_open-fd p w fd.0 _ (λ e. refl)
told-fd p w (call.SetMode fd nonblock) g = on_open-fd p w fd.0 _ (λ e. refl)

datagram-takes : (p : Providers) (w : World) (fd : ℕ) (address options : List ℕ) (parts : ℕ) (bytes : List ℕ) → has_effect (first (Datagrams.send_plan p w fd address options parts bytes).rows) ≡ true
    → FollowsIf Unit by_datagram (endpoint p w fd) (endpoint p (left_by w (step_of p w (Datagrams.send_plan p w fd address options parts bytes))) fd)
datagram-takes p w fd address options parts bytes = take Unit p w fd by_datagram (λ e. Datagrams.send_from p w fd address options parts bytes e (bound (the_switch p w) e.prov address)) (λ e o c.
    let l = datagram-leave p fd fd address options parts bytes e (bound (the_switch p w) e.prov address) (option_and_then (endpoint p w) (bound (the_switch p w) e.prov address)) in
    stay p w fd by_datagram e (Datagrams.send_from p w fd address options parts bytes e (bound (the_switch p w) e.prov address)).changes (Datagrams.send_from p w fd address options parts bytes e (bound (the_switch p w) e.prov address)).lost o l.0 l.2 (datagram-row e.state (ocnt e) (un-not (is_state (T_IDLE ∷ []) e) c.1.0)))

datagram_receive-takes : (p : Providers) (w : World) (fd sizes max amax omax : ℕ) → has_effect (first (Datagrams.receive_plan p w fd sizes max amax omax).rows) ≡ true
    → FollowsIf Unit by_datagram (endpoint p w fd) (endpoint p (left_by w (step_of p w (Datagrams.receive_plan p w fd sizes max amax omax))) fd)
datagram_receive-takes p w fd sizes max amax omax = take Unit p w fd by_datagram (Datagrams.receive_from fd sizes max amax omax) (λ e o c.
    stay p w fd by_datagram e (at_endpoint fd (Datagrams.received max) ∷ []) (at_endpoint fd Datagrams.dropped ∷ []) o (steady fd (Datagrams.received max) (datagram-steady max), tt) (steady fd Datagrams.dropped (λ z. refl), tt) (datagram-row e.state (ocnt e) (un-not (is_state (T_IDLE ∷ []) e) c.1.0)))

abbrev TakesAtOwn : Providers → World → Call → Go → Option ℕ → Type 0
TakesAtOwn p w c g None = Unit
TakesAtOwn p w c g (Some fd) = TakesAt p w c g fd

-- the law at the call's own descriptor
takes : (p : Providers) (w : World) (c : Call) (g : Go) → TakesAtOwn p w c g (fd_of c)
unfolding step plan
takes p w (call.TOpen prov nonblock) g = tt
takes p w (call.TClose fd) g = take Unit p w fd.0 by_close _ (λ e o c. leads_to p w fd.0 by_close e (Close.changes p fd.0 e) None (closed-state p w fd.0 (break fd.0 e 5 [] ++ map (Close.give_up_caller fd.0) (e.pending ++ e.outstanding)) (at_switch (Close.forget p fd.0) ∷ []) (in_switch (Close.forget p fd.0), tt)) (close-row e.state (ocnt e)))
takes p w (call.TBind fd addr qlen amax) g = take Unit p w fd.0 by_bind (Bind.plan_in (the_switch p w) fd.0 addr qlen amax) (λ e o c. own p w fd.0 by_bind e (Bind.bound_to (chosen (the_switch p w) e.prov addr) (Bind.queue e.prov qlen)) (at_switch _ ∷ []) o (in_switch _, tt) (bind-row e.state (ocnt e) (un-not (is_state (T_UNBND ∷ []) e) c.0)))
takes p w (call.TUnbind fd) g = take Unit p w fd.0 by_unbind _ (λ e o c. own p w fd.0 by_unbind e Bind.unbound (at_switch (give_up_address fd.0) ∷ []) o (in_switch (give_up_address fd.0), tt) (unbind-row e.state (ocnt e) (un-not (is_state (T_IDLE ∷ []) e) c.0)))
takes p w (call.TConnect fd addr opt udata amax omax umax) g = connect-takes p w fd addr opt udata amax omax umax g
takes p w (call.TRcvConnect fd amax omax umax) g = take Unit p w fd.0 by_rcvconnect _ (λ e o c. confirm-taken p w fd.0 amax omax umax e o c)
takes p w (call.TListen fd amax omax umax) g = take Unit p w fd.0 by_listen _ (λ e o c. listen-taken p w fd.0 amax omax umax e o c)
takes p w (call.TAccept fd resfd seq opt udata) g = take Unit p w fd.0 (cond (eqb fd.0 resfd.0) by_accept_here by_accept_there) (λ e. Listen.accept_with p fd.0 resfd.0 seq.0 opt udata e (endpoint p w resfd.0)) (λ e o c. accept-taken p w fd.0 resfd.0 seq.0 opt udata e (endpoint p w resfd.0) o c)
takes p w (call.TSnd fd bytes flags) g = send-takes p w fd.0 1 bytes flags g
takes p w (call.TSndV fd parts flags) g = send-takes p w fd.0 (length parts) (concat parts) flags g
takes p w (call.TRcv fd max) g = take Unit p w fd.0 by_rcv _ (λ e o c. stay p w fd.0 by_rcv e (at_endpoint fd.0 (Receive.received p max) ∷ []) (at_endpoint fd.0 (Receive.received p max) ∷ []) o (steady fd.0 (Receive.received p max) (received-steady p max), tt) (steady fd.0 (Receive.received p max) (received-steady p max), tt) (rcv-row e.state (ocnt e) (un-not (is_state receiving e) c.1.0)))
takes p w (call.TRcvV fd sizes) g = take Unit p w fd.0 by_rcv _ (λ e o c. stay p w fd.0 by_rcv e (at_endpoint fd.0 (Receive.received p (sum sizes)) ∷ []) (at_endpoint fd.0 (Receive.received p (sum sizes)) ∷ []) o (steady fd.0 (Receive.received p (sum sizes)) (received-steady p (sum sizes)), tt) (steady fd.0 (Receive.received p (sum sizes)) (received-steady p (sum sizes)), tt) (rcv-row e.state (ocnt e) (un-not (is_state receiving e) c.1.0)))
takes p w (call.TSndDis fd seq udata) g = take Unit p w fd.0 by_snddis _ (λ e o c. send_disconnect-taken p w fd.0 seq.0 udata e o c)
takes p w (call.TRcvDis fd umax) g = take (TakesOutstanding p w (call.TRcvDis fd umax)) p w fd.0 by_rcvdis _ (λ e o c. receive_disconnect-taken (TakesOutstanding p w (call.TRcvDis fd umax)) p w fd.0 umax e (λ k. k e o) o c)
takes p w (call.TSndRel fd) g = take Unit p w fd.0 by_sndrel _ (λ e o c. send_release-taken p w fd.0 [] e o c)
takes p w (call.TRcvRel fd) g = take Unit p w fd.0 by_rcvrel _ (λ e o c. receive_release-taken p w fd.0 0 e o c)
takes p w (call.TSndRelData fd udata) g = take Unit p w fd.0 by_sndrel _ (λ e o c. send_release-taken p w fd.0 udata e o c)
takes p w (call.TRcvRelData fd umax) g = take Unit p w fd.0 by_rcvrel _ (λ e o c. receive_release-taken p w fd.0 umax e o c)
takes p w (call.TSndUData fd addr opt bytes) g = datagram-takes p w fd.0 addr opt 1 bytes
takes p w (call.TSndVUData fd addr opt parts) g = datagram-takes p w fd.0 addr opt (length parts) (concat parts)
takes p w (call.TRcvUData fd max amax omax) g = datagram_receive-takes p w fd.0 1 max amax omax
takes p w (call.TRcvVUData fd sizes amax omax) g = datagram_receive-takes p w fd.0 (length sizes) (sum sizes) amax omax
takes p w (call.TRcvUDErr fd amax omax) g = take Unit p w fd.0 by_datagram _ (λ e o c. stay p w fd.0 by_datagram e (at_endpoint fd.0 Datagrams.without_error ∷ []) (at_endpoint fd.0 Datagrams.without_error ∷ []) o (steady fd.0 Datagrams.without_error (λ z. refl), tt) (steady fd.0 Datagrams.without_error (λ z. refl), tt) (datagram-row e.state (ocnt e) (un-not (is_state (T_IDLE ∷ []) e) c.1.0)))
takes p w (call.TLookAt fd) g = shows p w fd.0 (λ e. Show.look_in fd.0 e (around p w fd.0 e)) (λ e. ((steady fd.0 (Show.shown (Show.first_pending (around p w fd.0 e) e)) (shown-steady (Show.first_pending (around p w fd.0 e) e)), tt), (steady fd.0 (Show.shown (Show.first_pending (around p w fd.0 e) e)) (shown-steady (Show.first_pending (around p w fd.0 e) e)), tt)))
takes p w (call.TGetState fd) g = shows p w fd.0 _ (λ e. (tt, tt))
takes p w (call.TSync fd) g = shows p w fd.0 _ (λ e. (tt, tt))
takes p w (call.TGetInfo fd) g = shows p w fd.0 _ (λ e. (tt, tt))
takes p w (call.TGetProtAddr fd amax pmax) g = shows p w fd.0 _ (λ e. (tt, tt))
takes p w (call.TOptMgmt fd action opt omax) g = shows p w fd.0 (λ e. Show.option_plan_of fd.0 (Show.negotiated p action opt e) action opt omax e) (λ e. ((steady fd.0 _ (λ z. refl), tt), (steady fd.0 _ (λ z. refl), tt)))
takes p w (call.SetMode fd nonblock) g = shows p w fd.0 _ (λ e. ((steady fd.0 (Show.in_mode nonblock) (λ z. refl), tt), (steady fd.0 (Show.in_mode nonblock) (λ z. refl), tt)))

from-own : (p : Providers) (w : World) (c : Call) (g : Go) (o : Option ℕ) → ToldIs p w c g o → TakesAtOwn p w c g o → is_none o ≡ false → TakesAt p w c g (told p w c g)
from-own p w c g None t h k = absurd (false≢true (sym k))
from-own p w c g (Some fd) t h k = subst (TakesAt p w c g) (sym t) h

by-own : (p : Providers) (w : World) (c : Call) (g : Go) → is_none (fd_of c) ≡ false → TakesAt p w c g (told p w c g)
by-own p w c g k = from-own p w c g (fd_of c) (told-fd p w c g) (takes p w c g) k

pub by-the-table : (p : Providers) (w : World) (c : Call) (g : Go) → TakesByTheTable p w c g
by-the-table p w (call.TOpen prov nonblock) g = λ a i h. (open-takes p w prov nonblock g a h).0 i
by-the-table p w other g = λ a i h. (by-own p w other g refl h).0 i

pub counts-by-the-table : (p : Providers) (w : World) (c : Call) (g : Go) → CountsByTheTable p w c g
counts-by-the-table p w (call.TOpen prov nonblock) g = λ a t h. (open-takes p w prov nonblock g a h).1 t
counts-by-the-table p w other g = λ a t h. (by-own p w other g refl h).1 t

accept-lost : (p : Providers) (w : World) (fd resfd number : ℕ) (options udata : List ℕ) (e : Endpoint) (o : Option Endpoint)
    → is_in_table passed (state_at p w resfd) (ocnt_of (endpoint p w resfd)) (state_at p (changed p w (Listen.accept_with p fd resfd number options udata e o).changes) resfd) ≡ true
    → is_in_table passed (state_at p w resfd) (ocnt_of (endpoint p w resfd)) (state_at p (changed p w (Listen.accept_with p fd resfd number options udata e o).lost) resfd) ≡ true
accept-lost p w fd resfd number options udata e None h = h
accept-lost p w fd resfd number options udata e (Some r) h = h

pub passes-by-the-table : (p : Providers) (w : World) (c : Call) (g : Go) → PassesByTheTable p w c g
unfolding step plan
passes-by-the-table p w (call.TAccept fd resfd seq opt udata) g = λ n. open-effect (λ z. is_in_table passed (state_at p w resfd.0) (ocnt_of (endpoint p w resfd.0)) (state_at p z resfd.0) ≡ true) p w fd.0 (λ e. Listen.accept_with p fd.0 resfd.0 seq.0 opt udata e (endpoint p w resfd.0))
    (λ e o j. (let h = passed-taken p w fd.0 resfd.0 seq.0 opt udata e (endpoint p w resfd.0) refl n (cleared (Listen.accept_with p fd.0 resfd.0 seq.0 opt udata e (endpoint p w resfd.0)).rows j) in (h, accept-lost p w fd.0 resfd.0 seq.0 opt udata e (endpoint p w resfd.0) h)))
passes-by-the-table p w other g = tt
