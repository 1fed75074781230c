-- Each change that a call may make is one of the named kinds.
use Rattle.std.proofs.Common.{ℕ, Bool, true, false, List, [], ◌∷◌, ◌++◌, Option, Some, None, map, cond, not}
use Rattle.std.specs.Prelude.{nat_lt, length, sum, ◌+◌, ◌-◌, option_and_then}
use Rattle.std.specs.List.{concat}
use Rattle.xti_model.specs.declared.call.Call.{Call}
use Rattle.xti_model.specs.declared.call.Call.TheVariants as call
use Rattle.xti_model.specs.declared.entry.Go.{Go}
use Rattle.xti_model.specs.declared.entry.Go.TheVariants as go
use Rattle.xti_model.specs.declared.profile.Providers.{Providers}
use Rattle.xti_model.specs.World.{World, Change, Switch, at_endpoint, at_switch, the_switch, endpoint}
use Rattle.xti_model.specs.Endpoint.{Endpoint, Indication, Target, find_number, address_of}
use Rattle.xti_model.specs.Links.{linked, at_linked, take_back, break, broken, taken_back}
use Rattle.xti_model.specs.Events.{is_state, around}
use Rattle.xti_model.specs.Switch.{bound, chosen, give_up_address, mark_open, opening_place, give_address}
use Rattle.xti_base.specs.declared.kinds.Prov.{Prov}
use Rattle.xti_base.specs.declared.kinds.State.TheVariants.{T_UNBND}
use Rattle.xti_model.specs.Arguments.{is_expedited}
use Rattle.xti_model.specs.Plan.{Plan, if_open, on_open, later_plan}
use Rattle.xti_model.specs.Step.{plan, send, connect}
use Rattle.xti_model.specs.Calls.Open as Open
use Rattle.xti_model.specs.Calls.Close as Close
use Rattle.xti_model.specs.Calls.Bind as Bind
use Rattle.xti_model.specs.Calls.Connect as Connect
use Rattle.xti_model.specs.Calls.Listen as Listen
use Rattle.xti_model.specs.Calls.Send as Send
use Rattle.xti_model.specs.Calls.Receive as Receive
use Rattle.xti_model.specs.Calls.Disconnect as Disconnect
use Rattle.xti_model.specs.Calls.Release as Release
use Rattle.xti_model.specs.Calls.Datagrams as Datagrams
use Rattle.xti_model.specs.Calls.Show as Show
use Rattle.xti_model.specs.Provider.{profile}
use Rattle.xti_laws.specs.Updates.{Update, SwitchUpdate, gives_address, gives_up_address, marks_open, forgets, AllKinds, PlanKinds, updates, updates_peer, opens, closes, switches, binds, unbinds, is_asked, is_asking, is_turned_away, confirms, listens, loses_indication, binds_like, responds, is_accepted, marks_flow, sends, gets_symbols, reads, breaks, takes_back, is_given_up, is_rejected, idles, reads_disconnect, is_released, releases, reads_release, marks_datagram, gets_datagram, gets_error, reads_datagram, drops_datagram, reads_error, is_shown, changes_mode, changes_settings}

-- Each change that a call may make is one of a few kinds.

append-kinds : (cs ds : List Change) → AllKinds cs → AllKinds ds → AllKinds (cs ++ ds)
append-kinds [] ds h k = k
append-kinds (c ∷ cs) ds h k = (h.0, append-kinds cs ds h.1 k)

on_open-kinds : (p : Providers) (w : World) (fd : ℕ) (f : Endpoint → Plan) → ((e : Endpoint) → PlanKinds (f e)) → PlanKinds (on_open p w fd f)
on_open-kinds p w fd f h = go (endpoint p w fd)
  where
    go : (o : Option Endpoint) → PlanKinds (if_open fd o f)
    go None = (tt, tt, tt)
    go (Some e) = h e

-- one update of the call's own endpoint
one : (fd : ℕ) (f : Endpoint → Endpoint) → Update f → AllKinds (at_endpoint fd f ∷ []) × AllKinds [] × AllKinds (at_endpoint fd f ∷ [])
one fd f k = ((updates fd f k, tt), tt, (updates fd f k, tt))

both : (cs : List Change) → AllKinds cs → AllKinds cs × AllKinds [] × AllKinds cs
both cs h = (h, tt, h)

linked-kinds : (fd : ℕ) (o : Option ℕ) (f : Endpoint → Endpoint) → Update f → AllKinds (at_linked fd o f)
linked-kinds fd None f k = tt
linked-kinds fd (Some peer) f k = (updates_peer fd peer f k, tt)

take_back-kinds : (o : Option Target) (reason : ℕ) (udata : List ℕ) → AllKinds (take_back o reason udata)
take_back-kinds None reason udata = tt
take_back-kinds (Some t) reason udata = (updates t.listener (taken_back t.number reason udata) (takes_back t.number reason udata), tt)

break-kinds : (fd : ℕ) (e : Endpoint) (reason : ℕ) (udata : List ℕ) → AllKinds (break fd e reason udata)
break-kinds fd e reason udata = append-kinds _ _ (linked-kinds fd e.peer (broken reason udata) (breaks reason udata)) (take_back-kinds e.target reason udata)

callers-kinds : (fd : ℕ) (is : List Indication) → AllKinds (map (Close.give_up_caller fd) is)
callers-kinds fd [] = tt
callers-kinds fd (i ∷ is) = (updates i.caller (Close.given_up fd i.number) (is_given_up fd i.number), callers-kinds fd is)

close-changes : (p : Providers) (fd : ℕ) (e : Endpoint) → AllKinds (Close.changes p fd e)
close-changes p fd e = append-kinds (break fd e 5 [] ++ map (Close.give_up_caller fd) (e.pending ++ e.outstanding)) (Close.closing p fd)
    (append-kinds (break fd e 5 []) (map (Close.give_up_caller fd) (e.pending ++ e.outstanding)) (break-kinds fd e 5 []) (callers-kinds fd (e.pending ++ e.outstanding)))
    (closes fd, (switches (Close.forget p fd) (forgets p fd), tt))

two : (fd : ℕ) (f : Endpoint → Endpoint) (g : Switch → Switch) → Update f → SwitchUpdate g → AllKinds (at_endpoint fd f ∷ at_switch g ∷ []) × AllKinds [] × AllKinds (at_endpoint fd f ∷ at_switch g ∷ [])
two fd f g k h = ((updates fd f k, (switches g h, tt)), tt, (updates fd f k, (switches g h, tt)))

open-plan : (p : Providers) (s : Switch) (prov : Prov) (nonblock : Bool) (o : Option ℕ) → PlanKinds (Open.plan_where p s prov nonblock o)
open-plan p s prov nonblock None = (tt, tt, tt)
open-plan p s prov nonblock (Some n) = ((opens n (profile p prov) prov nonblock, (switches (mark_open n) (marks_open n), tt)), tt, tt)

reach-kinds : (fd l : ℕ) (options udata : List ℕ) (e le : Endpoint) → AllKinds (Connect.reach fd l options udata e le)
reach-kinds fd l options udata e le = go (not (Connect.is_listening le)) (Connect.is_full le)
  where
    go : (b d : Bool) → AllKinds (cond b (at_endpoint fd (Connect.turned_away 1) ∷ []) (cond d (at_endpoint fd (Connect.turned_away 2) ∷ []) (at_endpoint l (Connect.asked fd (address_of e) options udata) ∷ at_endpoint fd (Connect.asking l (le.last_number + 1)) ∷ [])))
    go true d = (updates fd (Connect.turned_away 1) (is_turned_away 1), tt)
    go false true = (updates fd (Connect.turned_away 2) (is_turned_away 2), tt)
    go false false = (updates l (Connect.asked fd (address_of e) options udata) (is_asked fd (address_of e) options udata), (updates fd (Connect.asking l (le.last_number + 1)) (is_asking l (le.last_number + 1)), tt))

request-kinds : (fd : ℕ) (options udata : List ℕ) (e : Endpoint) (o : Option Connect.Found) → AllKinds (Connect.request fd options udata e o)
request-kinds fd options udata e None = (updates fd (Connect.turned_away 1) (is_turned_away 1), tt)
request-kinds fd options udata e (Some l) = reach-kinds fd l.fd options udata e l.endpoint

connect-kinds : (p : Providers) (w : World) (fd : ℕ) (address options udata : List ℕ) (amax omax umax : ℕ) (g : Go) → PlanKinds (connect p w fd address options udata amax omax umax g)
connect-kinds p w fd address options udata amax omax umax go.Begin = on_open-kinds p w fd _ (λ e. both (Connect.request fd options udata e (Connect.found p w fd address e)) (request-kinds fd options udata e (Connect.found p w fd address e)))
connect-kinds p w fd address options udata amax omax umax (go.More n) = on_open-kinds p w fd _ (λ e. one fd Connect.confirmed confirms)

bind_like-kinds : (e : Endpoint) (resfd : ℕ) (r : Endpoint) → AllKinds (Listen.bind_like e resfd r)
bind_like-kinds e resfd r = go (is_state (T_UNBND ∷ []) r)
  where
    go : (b : Bool) → AllKinds (cond b (at_endpoint resfd (Listen.bound_like e) ∷ at_switch (give_address r.prov (address_of e) resfd false) ∷ []) [])
    go true = (updates resfd (Listen.bound_like e) (binds_like e), (switches (give_address r.prov (address_of e) resfd false) (gives_address r.prov (address_of e) resfd false), tt))
    go false = tt

linking-kinds : (resfd : ℕ) (i : Indication) (address options udata : List ℕ) → AllKinds (Listen.linking resfd i address options udata)
linking-kinds resfd i address options udata = (updates resfd (Listen.responding i) (responds i), (updates i.caller (Listen.accepted resfd address options udata) (is_accepted resfd address options udata), tt))

accept_changes-kinds : (fd resfd : ℕ) (i : Indication) (options udata : List ℕ) (e r : Endpoint) → AllKinds (Listen.accept_changes fd resfd i options udata e r)
accept_changes-kinds fd resfd i options udata e r = (updates fd (Listen.taken_out i.number) (loses_indication i.number), append-kinds (Listen.bind_like e resfd r) (Listen.linking resfd i (address_of (Listen.bound_like e r)) options udata) (bind_like-kinds e resfd r) (linking-kinds resfd i (address_of (Listen.bound_like e r)) options udata))

accept-kinds : (p : Providers) (fd resfd number : ℕ) (options udata : List ℕ) (e : Endpoint) (o : Option Endpoint) → PlanKinds (Listen.accept_with p fd resfd number options udata e o)
accept-kinds p fd resfd number options udata e None = (tt, tt, tt)
accept-kinds p fd resfd number options udata e (Some r) = both (Listen.accept_found fd resfd (find_number number e.outstanding) options udata e r) (go (find_number number e.outstanding))
  where
    go : (o : Option Indication) → AllKinds (Listen.accept_found fd resfd o options udata e r)
    go None = tt
    go (Some i) = accept_changes-kinds fd resfd i options udata e r

send_changes-kinds : (p : Providers) (fd : ℕ) (bytes : List ℕ) (flags taken now : ℕ) (e : Endpoint) → AllKinds (Send.changes p fd bytes flags taken now e)
send_changes-kinds p fd bytes flags taken now e = append-kinds (at_linked fd e.peer _) _ (linked-kinds fd e.peer _ (gets_symbols (is_expedited flags) _)) (updates fd _ (sends p (is_expedited flags) _ now), tt)

send_to-kinds : (p : Providers) (fd parts : ℕ) (bytes : List ℕ) (flags taken : ℕ) (e : Endpoint) (peer : Option Endpoint) → PlanKinds (Send.plan_to p fd parts bytes flags taken e peer)
send_to-kinds p fd parts bytes flags taken e peer =
    let h = send_changes-kinds p fd bytes flags taken (Send.taken_now peer e (is_expedited flags) (length bytes - taken)) e in
    (h, (updates fd (Send.mark_flow (is_expedited flags) true) (marks_flow (is_expedited flags) true), tt), h)

later-kinds : (n : ℕ) (x : Plan) → PlanKinds x → PlanKinds (later_plan n x)
later-kinds n x h = (h.0, tt, h.2)

send-kinds : (p : Providers) (w : World) (fd parts : ℕ) (bytes : List ℕ) (flags : ℕ) (g : Go) → PlanKinds (send p w fd parts bytes flags g)
send-kinds p w fd parts bytes flags go.Begin = on_open-kinds p w fd (λ e. Send.plan_to p fd parts bytes flags 0 e (linked p w fd e)) (λ e. send_to-kinds p fd parts bytes flags 0 e (linked p w fd e))
send-kinds p w fd parts bytes flags (go.More n) = later-kinds n (Send.plan p w fd parts bytes flags n) (on_open-kinds p w fd (λ e. Send.plan_to p fd parts bytes flags n e (linked p w fd e)) (λ e. send_to-kinds p fd parts bytes flags n e (linked p w fd e)))

snddis-kinds : (fd number : ℕ) (udata : List ℕ) (e : Endpoint) → AllKinds (Disconnect.send_changes fd number udata e)
snddis-kinds fd number udata e = go (Disconnect.is_asked e) (find_number number e.outstanding)
  where
    go : (b : Bool) (o : Option Indication) → AllKinds (cond b (Disconnect.reject fd udata o) (break fd e 4 udata ++ at_endpoint fd Disconnect.idle ∷ []))
    go true None = tt
    go true (Some i) = (updates fd (Listen.taken_out i.number) (loses_indication i.number), (updates i.caller (Disconnect.rejected udata) (is_rejected udata), tt))
    go false o = append-kinds (break fd e 4 udata) (at_endpoint fd Disconnect.idle ∷ []) (break-kinds fd e 4 udata) (updates fd Disconnect.idle idles, tt)

datagram-kinds : (p : Providers) (fd : ℕ) (address options : List ℕ) (parts : ℕ) (bytes : List ℕ) (e : Endpoint) (o : Option ℕ) (there : Option Endpoint) → PlanKinds (Datagrams.send_to p fd address options parts bytes e o there)
datagram-kinds p fd address options parts bytes e None there = ((updates fd _ (gets_error _), tt), (updates fd _ (marks_datagram (Some address)), tt), (updates fd _ (gets_error _), tt))
datagram-kinds p fd address options parts bytes e (Some to) there = ((updates to _ (gets_datagram _), (updates fd _ (marks_datagram None), tt)), (updates fd _ (marks_datagram (Some address)), tt), (updates to _ (gets_datagram _), (updates fd _ (marks_datagram None), tt)))

datagram_plan-kinds : (p : Providers) (w : World) (fd sizes max amax omax : ℕ) → PlanKinds (Datagrams.receive_plan p w fd sizes max amax omax)
datagram_plan-kinds p w fd sizes max amax omax = on_open-kinds p w fd _ (λ e. ((updates fd (Datagrams.received max) (reads_datagram max), tt), tt, (updates fd Datagrams.dropped drops_datagram, tt)))

sndrel-kinds : (p : Providers) (w : World) (fd : ℕ) (udata : List ℕ) → PlanKinds (Release.send_plan p w fd udata)
sndrel-kinds p w fd udata = on_open-kinds p w fd _ (λ e. both (at_linked fd e.peer (Release.released udata) ++ at_endpoint fd Release.after_send ∷ []) (append-kinds (at_linked fd e.peer (Release.released udata)) (at_endpoint fd Release.after_send ∷ []) (linked-kinds fd e.peer (Release.released udata) (is_released udata)) (updates fd Release.after_send releases, tt)))

pub plan-kinds : (p : Providers) (w : World) (c : Call) (g : Go) → PlanKinds (plan p w c g)
unfolding plan
plan-kinds p w (call.TOpen prov nonblock) g = open-plan p (the_switch p w) prov nonblock (opening_place p (the_switch p w) prov)
plan-kinds p w (call.TClose fd) g = on_open-kinds p w fd.0 _ (λ e. both (Close.changes p fd.0 e) (close-changes p fd.0 e))
plan-kinds p w (call.TBind fd addr qlen amax) g = on_open-kinds p w fd.0 _ (λ e. two fd.0 (Bind.bound_to (chosen (the_switch p w) e.prov addr) (Bind.queue e.prov qlen)) _ (binds (chosen (the_switch p w) e.prov addr) qlen e.prov) (gives_address e.prov (chosen (the_switch p w) e.prov addr) fd.0 (nat_lt 0 (Bind.queue e.prov qlen))))
plan-kinds p w (call.TUnbind fd) g = on_open-kinds p w fd.0 _ (λ e. two fd.0 Bind.unbound (give_up_address fd.0) unbinds (gives_up_address fd.0))
plan-kinds p w (call.TConnect fd addr opt udata amax omax umax) g = connect-kinds p w fd.0 addr opt udata amax omax umax g
plan-kinds p w (call.TRcvConnect fd amax omax umax) g = on_open-kinds p w fd.0 _ (λ e. one fd.0 Connect.confirmed confirms)
plan-kinds p w (call.TListen fd amax omax umax) g = on_open-kinds p w fd.0 _ (λ e. one fd.0 Listen.listened listens)
plan-kinds p w (call.TAccept fd resfd seq opt udata) g = on_open-kinds p w fd.0 _ (λ e. accept-kinds p fd.0 resfd.0 seq.0 opt udata e (endpoint p w resfd.0))
plan-kinds p w (call.TSnd fd bytes flags) g = send-kinds p w fd.0 1 bytes flags g
plan-kinds p w (call.TSndV fd parts flags) g = send-kinds p w fd.0 (length parts) (concat parts) flags g
plan-kinds p w (call.TRcv fd max) g = on_open-kinds p w fd.0 _ (λ e. one fd.0 (Receive.received p max) (reads p max))
plan-kinds p w (call.TRcvV fd sizes) g = on_open-kinds p w fd.0 _ (λ e. one fd.0 (Receive.received p (sum sizes)) (reads p (sum sizes)))
plan-kinds p w (call.TSndDis fd seq udata) g = on_open-kinds p w fd.0 _ (λ e. both (Disconnect.send_changes fd.0 seq.0 udata e) (snddis-kinds fd.0 seq.0 udata e))
plan-kinds p w (call.TRcvDis fd umax) g = on_open-kinds p w fd.0 _ (λ e. one fd.0 Disconnect.received reads_disconnect)
plan-kinds p w (call.TSndRel fd) g = sndrel-kinds p w fd.0 []
plan-kinds p w (call.TRcvRel fd) g = on_open-kinds p w fd.0 _ (λ e. one fd.0 Release.after_receive reads_release)
plan-kinds p w (call.TSndRelData fd udata) g = sndrel-kinds p w fd.0 udata
plan-kinds p w (call.TRcvRelData fd umax) g = on_open-kinds p w fd.0 _ (λ e. one fd.0 Release.after_receive reads_release)
plan-kinds p w (call.TSndUData fd addr opt bytes) g = on_open-kinds p w fd.0 _ (λ e. datagram-kinds p fd.0 addr opt 1 bytes e (bound (the_switch p w) e.prov addr) (option_and_then (endpoint p w) (bound (the_switch p w) e.prov addr)))
plan-kinds p w (call.TSndVUData fd addr opt parts) g = on_open-kinds p w fd.0 _ (λ e. datagram-kinds p fd.0 addr opt (length parts) (concat parts) e (bound (the_switch p w) e.prov addr) (option_and_then (endpoint p w) (bound (the_switch p w) e.prov addr)))
plan-kinds p w (call.TRcvUData fd max amax omax) g = datagram_plan-kinds p w fd.0 1 max amax omax
plan-kinds p w (call.TRcvVUData fd sizes amax omax) g = datagram_plan-kinds p w fd.0 (length sizes) (sum sizes) amax omax
plan-kinds p w (call.TRcvUDErr fd amax omax) g = on_open-kinds p w fd.0 _ (λ e. one fd.0 Datagrams.without_error reads_error)
plan-kinds p w (call.TLookAt fd) g = on_open-kinds p w fd.0 _ (λ e. one fd.0 (Show.shown (Show.first_pending (around p w fd.0 e) e)) (is_shown (Show.first_pending (around p w fd.0 e) e)))
plan-kinds p w (call.TGetState fd) g = on_open-kinds p w fd.0 _ (λ e. both [] tt)
plan-kinds p w (call.TSync fd) g = on_open-kinds p w fd.0 _ (λ e. both [] tt)
plan-kinds p w (call.TGetInfo fd) g = on_open-kinds p w fd.0 _ (λ e. both [] tt)
plan-kinds p w (call.TGetProtAddr fd amax pmax) g = on_open-kinds p w fd.0 _ (λ e. both [] tt)
plan-kinds p w (call.TOptMgmt fd action opt omax) g = on_open-kinds p w fd.0 _ (λ e. one fd.0 _ (changes_settings (Show.negotiated p action opt e).settings))
plan-kinds p w (call.SetMode fd nonblock) g = on_open-kinds p w fd.0 _ (λ e. one fd.0 _ (changes_mode nonblock))
