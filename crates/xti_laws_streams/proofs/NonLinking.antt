-- Every call but an accept links nobody: no endpoint gets a peer by it.
use Rattle.std.proofs.Common.{ℕ, Bool, true, false, List, [], ◌∷◌, ◌++◌, ◌≡◌, refl, sym, ap, Option, Some, None, map, cond, not, length, sum, drop}
use Rattle.std.proofs.lemmas.Bool.{false≢true}
use Rattle.std.specs.Prelude.{◌+◌, ◌-◌, option_and_then, is_some}
use Rattle.std.specs.List.{concat}
use Rattle.xti_base.specs.declared.kinds.Prov.{Prov}
use Rattle.xti_base.specs.declared.kinds.Event.{Event}
use Rattle.xti_base.specs.declared.kinds.State.TheVariants.{T_DATAXFER}
use Rattle.xti_model.specs.declared.call.Call.{Call}
use Rattle.xti_model.specs.declared.call.Call.TheVariants as call
use Rattle.xti_model.specs.declared.entry.Go.{Go}
use Rattle.xti_model.specs.declared.entry.Go.TheVariants as go
use Rattle.xti_model.specs.declared.profile.Providers.{Providers}
use Rattle.xti_model.specs.Provider.{profile}
use Rattle.xti_model.specs.Endpoint.{Endpoint, Indication, Target, find_number, without_number, address_of, disconnected, is_target, opened}
use Rattle.xti_model.specs.World.{World, Change, Switch, at_endpoint, at_switch, opens_place, closes_endpoint, endpoint, the_switch}
use Rattle.xti_model.specs.Switch.{bound, opening_place, mark_open}
use Rattle.xti_model.specs.Links.{linked, at_linked, if_names, names, take_back, taken_back, break, broken}
use Rattle.xti_model.specs.Events.{around, is_state, some_wait}
use Rattle.xti_model.specs.Symbols.{rest}
use Rattle.xti_model.specs.Arguments.{is_expedited}
use Rattle.xti_model.specs.Plan.{Plan, if_open, on_open}
use Rattle.xti_model.specs.Step.{plan, send, connect}
use Rattle.xti_model.specs.Calls.Open as Open
use Rattle.xti_model.specs.Calls.Close as Close
use Rattle.xti_model.specs.Calls.Connect as Connect
use Rattle.xti_model.specs.Calls.Listen as Listen
use Rattle.xti_model.specs.Calls.Send as Send
use Rattle.xti_model.specs.Calls.Receive as Receive
use Rattle.xti_model.specs.Calls.Disconnect as Disconnect
use Rattle.xti_model.specs.Calls.Release as Release
use Rattle.xti_model.specs.Calls.Datagrams as Datagrams
use Rattle.xti_model.specs.Calls.Show as Show
use Rattle.xti_laws.proofs.EndpointUpdates.{Desk}
use Rattle.xti_laws.proofs.UnseenChanges.{Unseen, mark_flow-unseen, sent-unseen, bound_like-unseen, datagram-unseen, shown-unseen}
use Rattle.xti_laws_streams.proofs.Invariant.{view}

-- the update keeps the view
abbrev pub KeepsView : (Endpoint → Endpoint) → Type 0
KeepsView f = (e : Endpoint) → view (f e) ≡ view e

-- the update gives the endpoint no peer that it did not have
abbrev pub NamesNobodyNew : (Endpoint → Endpoint) → Type 0
NamesNobodyNew f = (x : ℕ) (e : Endpoint) → names x e.peer ≡ false → names x (f e).peer ≡ false

-- the update keeps the view of an endpoint that has no target
abbrev pub ClearsTarget : (Endpoint → Endpoint) → Type 0
ClearsTarget f = (e : Endpoint) → e.target ≡ None → view (f e) ≡ view e

-- a change by a call with this descriptor, whose endpoint has the peer `to`: it links nobody
pub data NonLinking (fd : ℕ) (to : Option ℕ) : Change → Type 0 where
  keeps_view : (z : ℕ) (f : Endpoint → Endpoint) → KeepsView f → NonLinking fd to (at_endpoint z f)
  clears_target : (z : ℕ) (f : Endpoint → Endpoint) → ClearsTarget f → NamesNobodyNew f → NonLinking fd to (at_endpoint z f)
  of_own : (f : Endpoint → Endpoint) → NamesNobodyNew f → NonLinking fd to (at_endpoint fd f)
  of_peer : (peer : ℕ) (f : Endpoint → Endpoint) → to ≡ Some peer → NamesNobodyNew f → NonLinking fd to (at_endpoint peer (if_names fd f))
  of_switch : (f : Switch → Switch) → NonLinking fd to (at_switch f)
  opens_place_with : (place : ℕ) (e : Endpoint) → e.peer ≡ None → NonLinking fd to (opens_place place e)
  closes_own : NonLinking fd to (closes_endpoint fd)

abbrev pub AllNonLinking : ℕ → Option ℕ → List Change → Type 0
AllNonLinking fd to [] = Unit
AllNonLinking fd to (c ∷ cs) = NonLinking fd to c × AllNonLinking fd to cs

abbrev pub PlanNonLinking : ℕ → Option ℕ → Plan → Type 0
PlanNonLinking fd to x = AllNonLinking fd to x.changes × AllNonLinking fd to x.marks × AllNonLinking fd to x.lost

pub append-non_linking : (fd : ℕ) (to : Option ℕ) (cs ds : List Change) → AllNonLinking fd to cs → AllNonLinking fd to ds → AllNonLinking fd to (cs ++ ds)
append-non_linking fd to [] ds h k = k
append-non_linking fd to (c ∷ cs) ds h k = (h.0, append-non_linking fd to cs ds h.1 k)

-- an update that is one of two
view-choice : (b : Bool) (x y e : Endpoint) → view x ≡ view e → view y ≡ view e → view (cond b x y) ≡ view e
view-choice true x y e h k = h
view-choice false x y e h k = k

peer-choice : (b : Bool) (z : ℕ) (x y : Endpoint) → names z x.peer ≡ false → names z y.peer ≡ false → names z (cond b x y).peer ≡ false
peer-choice true z x y h k = h
peer-choice false z x y h k = k

-- what is unseen by the facts on requests keeps the view
pub unseen-keeps_view : (f : Endpoint → Endpoint) → Unseen f → KeepsView f
unseen-keeps_view f h e = ap (λ (d : Desk). record { prov = d.prov; state = d.state; target = d.target; peer = d.peer; normal = d.normal; expedited = d.expedited; release = is_some d.release }) (h e)

pub mark_flow-keeps_view : (expedited on : Bool) → KeepsView (Send.mark_flow expedited on)
mark_flow-keeps_view expedited on = unseen-keeps_view (Send.mark_flow expedited on) (mark_flow-unseen expedited on)

pub sent-keeps_view : (p : Providers) (expedited ends : Bool) (now : ℕ) → KeepsView (Send.sent p expedited ends now)
sent-keeps_view p expedited ends now = unseen-keeps_view (Send.sent p expedited ends now) (sent-unseen p expedited ends now)

pub taken_back-keeps_view : (number reason : ℕ) (udata : List ℕ) → KeepsView (taken_back number reason udata)
taken_back-keeps_view number reason udata e = view-choice (is_some (find_number number e.pending)) (record e { pending = without_number number e.pending }) (cond (is_some (find_number number e.outstanding)) (disconnected reason number udata e) e) e refl
    (view-choice (is_some (find_number number e.outstanding)) (disconnected reason number udata e) e e refl refl)

pub bound_like-keeps_view : (l : Endpoint) → KeepsView (Listen.bound_like l)
bound_like-keeps_view l = unseen-keeps_view (Listen.bound_like l) (bound_like-unseen l)

pub datagram-keeps_view : (max : ℕ) → KeepsView (Datagrams.received max)
datagram-keeps_view max = unseen-keeps_view (Datagrams.received max) (datagram-unseen max)

pub shown-keeps_view : (o : Option Event) → KeepsView (Show.shown o)
shown-keeps_view o = unseen-keeps_view (Show.shown o) (shown-unseen o)

-- to take a target away that is not there changes nothing
no-target : (e : Endpoint) → e.target ≡ None → view (record e { target = None }) ≡ view e
no-target e h = ap (λ t. record (view e) { target = t }) (sym h)

given_up-clears_target : (fd number : ℕ) → ClearsTarget (Close.given_up fd number)
given_up-clears_target fd number e h = view-choice (is_target fd number e.target) (record (disconnected 5 0 [] e) { target = None }) e e (no-target e h) refl

given_up-names : (fd number : ℕ) → NamesNobodyNew (Close.given_up fd number)
given_up-names fd number x e h = peer-choice (is_target fd number e.target) x (record (disconnected 5 0 [] e) { target = None }) e h h

rejected-clears_target : (udata : List ℕ) → ClearsTarget (Disconnect.rejected udata)
rejected-clears_target udata e h = no-target e h

after_send-names : NamesNobodyNew Release.after_send
after_send-names x e h = peer-choice (is_state (T_DATAXFER ∷ []) e) x (record e { state = _ }) (Disconnect.idle e) h refl

after_receive-names : NamesNobodyNew Release.after_receive
after_receive-names x e h = peer-choice (is_state (T_DATAXFER ∷ []) e) x (record e { release = None; state = _ }) (Disconnect.idle e) h refl

received-names : (p : Providers) (max : ℕ) → NamesNobodyNew (Receive.received p max)
received-names p max x e h = peer-choice (some_wait e.expedited) x (record e { expedited = rest max e.expedited; mid_expedited = Receive.goes_on p true max e }) (record e { normal = rest max e.normal }) h h

disconnect-names : NamesNobodyNew Disconnect.received
disconnect-names x e h = peer-choice (Disconnect.is_asked e) x (record (Listen.taken_out (Disconnect.oldest e).number e) { disconnects = drop 1 e.disconnects }) (Disconnect.idle e) h refl

symbols-names : (expedited : Bool) (symbols : List ℕ) → NamesNobodyNew (Send.received expedited symbols)
symbols-names true symbols x e h = h
symbols-names false symbols x e h = h

-- Lists of changes.

pub linked-non_linking : (fd : ℕ) (o : Option ℕ) (f : Endpoint → Endpoint) → NamesNobodyNew f → AllNonLinking fd o (at_linked fd o f)
linked-non_linking fd None f k = tt
linked-non_linking fd (Some peer) f k = (of_peer peer f refl k, tt)

pub take_back-non_linking : (fd : ℕ) (to : Option ℕ) (o : Option Target) (reason : ℕ) (udata : List ℕ) → AllNonLinking fd to (take_back o reason udata)
take_back-non_linking fd to None reason udata = tt
take_back-non_linking fd to (Some t) reason udata = (keeps_view t.listener (taken_back t.number reason udata) (taken_back-keeps_view t.number reason udata), tt)

pub break-non_linking : (fd : ℕ) (e : Endpoint) (reason : ℕ) (udata : List ℕ) → AllNonLinking fd e.peer (break fd e reason udata)
break-non_linking fd e reason udata = append-non_linking fd e.peer (at_linked fd e.peer (broken reason udata)) (take_back e.target reason udata) (linked-non_linking fd e.peer (broken reason udata) (λ x e h. refl)) (take_back-non_linking fd e.peer e.target reason udata)

pub callers-non_linking : (fd : ℕ) (to : Option ℕ) (is : List Indication) → AllNonLinking fd to (map (Close.give_up_caller fd) is)
callers-non_linking fd to [] = tt
callers-non_linking fd to (i ∷ is) = (clears_target i.caller (Close.given_up fd i.number) (given_up-clears_target fd i.number) (given_up-names fd i.number), callers-non_linking fd to is)

both-lists : (fd : ℕ) (to : Option ℕ) (cs : List Change) → AllNonLinking fd to cs → AllNonLinking fd to cs × AllNonLinking fd to [] × AllNonLinking fd to cs
both-lists fd to cs h = (h, tt, h)

pub one-own : (fd : ℕ) (to : Option ℕ) (f : Endpoint → Endpoint) → NamesNobodyNew f → AllNonLinking fd to (at_endpoint fd f ∷ []) × AllNonLinking fd to [] × AllNonLinking fd to (at_endpoint fd f ∷ [])
one-own fd to f k = ((of_own f k, tt), tt, (of_own f k, tt))

-- an update of the call's own endpoint, and one of the switch
own-and_switch : (fd : ℕ) (to : Option ℕ) (f : Endpoint → Endpoint) (g : Switch → Switch) → NamesNobodyNew f → AllNonLinking fd to (at_endpoint fd f ∷ at_switch g ∷ []) × AllNonLinking fd to [] × AllNonLinking fd to (at_endpoint fd f ∷ at_switch g ∷ [])
own-and_switch fd to f g k = ((of_own f k, (of_switch g, tt)), tt, (of_own f k, (of_switch g, tt)))

-- an update of the call's own endpoint that keeps its view
one-kept : (fd : ℕ) (to : Option ℕ) (f : Endpoint → Endpoint) → KeepsView f → AllNonLinking fd to (at_endpoint fd f ∷ []) × AllNonLinking fd to [] × AllNonLinking fd to (at_endpoint fd f ∷ [])
one-kept fd to f k = ((keeps_view fd f k, tt), tt, (keeps_view fd f k, tt))

pub close-non_linking : (p : Providers) (fd : ℕ) (e : Endpoint) → AllNonLinking fd e.peer (Close.changes p fd e)
close-non_linking p fd e = append-non_linking fd e.peer (break fd e 5 [] ++ map (Close.give_up_caller fd) (e.pending ++ e.outstanding)) (Close.closing p fd)
    (append-non_linking fd e.peer (break fd e 5 []) (map (Close.give_up_caller fd) (e.pending ++ e.outstanding)) (break-non_linking fd e 5 []) (callers-non_linking fd e.peer (e.pending ++ e.outstanding)))
    (closes_own, (of_switch (Close.forget p fd), tt))

pub open-non_linking : (p : Providers) (s : Switch) (prov : Prov) (nonblock : Bool) (fd : ℕ) (to o : Option ℕ) → PlanNonLinking fd to (Open.plan_where p s prov nonblock o)
open-non_linking p s prov nonblock fd to None = (tt, tt, tt)
open-non_linking p s prov nonblock fd to (Some n) = ((opens_place_with n (opened (profile p prov) prov nonblock) refl, (of_switch (mark_open n), tt)), tt, tt)

reach-non_linking : (fd : ℕ) (to : Option ℕ) (l : ℕ) (options udata : List ℕ) (e le : Endpoint) → AllNonLinking fd to (Connect.reach fd l options udata e le)
reach-non_linking fd to l options udata e le = go (not (Connect.is_listening le)) (Connect.is_full le)
  where
    go : (b d : Bool) → AllNonLinking fd to (cond b (at_endpoint fd (Connect.turned_away 1) ∷ []) (cond d (at_endpoint fd (Connect.turned_away 2) ∷ []) (at_endpoint l (Connect.asked fd (address_of e) options udata) ∷ at_endpoint fd (Connect.asking l (le.last_number + 1)) ∷ [])))
    go true d = (of_own (Connect.turned_away 1) (λ x e h. h), tt)
    go false true = (of_own (Connect.turned_away 2) (λ x e h. h), tt)
    go false false = (keeps_view l (Connect.asked fd (address_of e) options udata) (λ e. refl), (of_own (Connect.asking l (le.last_number + 1)) (λ x e h. h), tt))

request-non_linking : (fd : ℕ) (to : Option ℕ) (options udata : List ℕ) (e : Endpoint) (o : Option Connect.Found) → AllNonLinking fd to (Connect.request fd options udata e o)
request-non_linking fd to options udata e None = (of_own (Connect.turned_away 1) (λ x e h. h), tt)
request-non_linking fd to options udata e (Some l) = reach-non_linking fd to l.fd options udata e l.endpoint

pub send_changes-non_linking : (p : Providers) (fd : ℕ) (bytes : List ℕ) (flags taken now : ℕ) (e : Endpoint) → AllNonLinking fd e.peer (Send.changes p fd bytes flags taken now e)
send_changes-non_linking p fd bytes flags taken now e = append-non_linking fd e.peer (at_linked fd e.peer _) _ (linked-non_linking fd e.peer _ (symbols-names (is_expedited flags) _)) (keeps_view fd _ (sent-keeps_view p (is_expedited flags) _ now), tt)

send_to-non_linking : (p : Providers) (fd parts : ℕ) (bytes : List ℕ) (flags taken : ℕ) (e : Endpoint) (peer : Option Endpoint) → PlanNonLinking fd e.peer (Send.plan_to p fd parts bytes flags taken e peer)
send_to-non_linking p fd parts bytes flags taken e peer =
    let h = send_changes-non_linking p fd bytes flags taken (Send.taken_now peer e (is_expedited flags) (length bytes - taken)) e in
    (h, (keeps_view fd (Send.mark_flow (is_expedited flags) true) (mark_flow-keeps_view (is_expedited flags) true), tt), h)

pub snddis-non_linking : (fd number : ℕ) (udata : List ℕ) (e : Endpoint) → AllNonLinking fd e.peer (Disconnect.send_changes fd number udata e)
snddis-non_linking fd number udata e = go (Disconnect.is_asked e) (find_number number e.outstanding)
  where
    go : (b : Bool) (o : Option Indication) → AllNonLinking fd e.peer (cond b (Disconnect.reject fd udata o) (break fd e 4 udata ++ at_endpoint fd Disconnect.idle ∷ []))
    go true None = tt
    go true (Some i) = (of_own (Listen.taken_out i.number) (λ x e h. h), (clears_target i.caller (Disconnect.rejected udata) (rejected-clears_target udata) (λ x e h. h), tt))
    go false o = append-non_linking fd e.peer (break fd e 4 udata) (at_endpoint fd Disconnect.idle ∷ []) (break-non_linking fd e 4 udata) (of_own Disconnect.idle (λ x e h. refl), tt)

datagram-non_linking : (p : Providers) (fd : ℕ) (to : Option ℕ) (address options : List ℕ) (parts : ℕ) (bytes : List ℕ) (e : Endpoint) (o : Option ℕ) (there : Option Endpoint) → PlanNonLinking fd to (Datagrams.send_to p fd address options parts bytes e o there)
datagram-non_linking p fd to address options parts bytes e None there = ((keeps_view fd _ (λ e. refl), tt), (keeps_view fd _ (λ e. refl), tt), (keeps_view fd _ (λ e. refl), tt))
datagram-non_linking p fd to address options parts bytes e (Some z) there = ((keeps_view z _ (λ e. refl), (keeps_view fd _ (λ e. refl), tt)), (keeps_view fd _ (λ e. refl), tt), (keeps_view z _ (λ e. refl), (keeps_view fd _ (λ e. refl), tt)))

-- the peer of an endpoint that may be open
abbrev pub peer_at : Option Endpoint → Option ℕ
peer_at None = None
peer_at (Some e) = e.peer

-- the descriptor of a call; 0 for an open, which has none
abbrev pub call_fd : Call → ℕ
call_fd (call.TOpen prov nonblock) = 0
call_fd (call.TClose fd) = fd.0
call_fd (call.TBind fd addr qlen amax) = fd.0
call_fd (call.TUnbind fd) = fd.0
call_fd (call.TConnect fd addr opt udata amax omax umax) = fd.0
call_fd (call.TRcvConnect fd amax omax umax) = fd.0
call_fd (call.TListen fd amax omax umax) = fd.0
call_fd (call.TAccept fd resfd seq opt udata) = fd.0
call_fd (call.TSnd fd bytes flags) = fd.0
call_fd (call.TSndV fd parts flags) = fd.0
call_fd (call.TRcv fd max) = fd.0
call_fd (call.TRcvV fd sizes) = fd.0
call_fd (call.TSndDis fd seq udata) = fd.0
call_fd (call.TRcvDis fd umax) = fd.0
call_fd (call.TSndRel fd) = fd.0
call_fd (call.TRcvRel fd) = fd.0
call_fd (call.TSndRelData fd udata) = fd.0
call_fd (call.TRcvRelData fd umax) = fd.0
call_fd (call.TSndUData fd addr opt bytes) = fd.0
call_fd (call.TSndVUData fd addr opt parts) = fd.0
call_fd (call.TRcvUData fd max amax omax) = fd.0
call_fd (call.TRcvVUData fd sizes amax omax) = fd.0
call_fd (call.TRcvUDErr fd amax omax) = fd.0
call_fd (call.TLookAt fd) = fd.0
call_fd (call.TGetState fd) = fd.0
call_fd (call.TSync fd) = fd.0
call_fd (call.TGetInfo fd) = fd.0
call_fd (call.TGetProtAddr fd amax pmax) = fd.0
call_fd (call.TOptMgmt fd action opt omax) = fd.0
call_fd (call.SetMode fd nonblock) = fd.0

on_open-non_linking : (p : Providers) (w : World) (fd : ℕ) (f : Endpoint → Plan) → ((e : Endpoint) → PlanNonLinking fd e.peer (f e)) → PlanNonLinking fd (peer_at (endpoint p w fd)) (on_open p w fd f)
on_open-non_linking p w fd f h = go (endpoint p w fd)
  where
    go : (o : Option Endpoint) → PlanNonLinking fd (peer_at o) (if_open fd o f)
    go None = (tt, tt, tt)
    go (Some e) = h e

on_open-quiet : (p : Providers) (w : World) (fd : ℕ) (to : Option ℕ) (f : Endpoint → Plan) → ((e : Endpoint) → PlanNonLinking fd to (f e)) → PlanNonLinking fd to (on_open p w fd f)
on_open-quiet p w fd to f h = go (endpoint p w fd)
  where
    go : (o : Option Endpoint) → PlanNonLinking fd to (if_open fd o f)
    go None = (tt, tt, tt)
    go (Some e) = h e

-- a call that does nothing to the peer of its endpoint
abbrev pub is_quiet : Call → Bool
is_quiet (call.TClose fd) = false
is_quiet (call.TAccept fd resfd seq opt udata) = false
is_quiet (call.TSnd fd bytes flags) = false
is_quiet (call.TSndV fd parts flags) = false
is_quiet (call.TSndDis fd seq udata) = false
is_quiet (call.TSndRel fd) = false
is_quiet (call.TSndRelData fd udata) = false
is_quiet other = true

connect-quiet : (p : Providers) (w : World) (fd : ℕ) (to : Option ℕ) (addr opt udata : List ℕ) (amax omax umax : ℕ) (g : Go) → PlanNonLinking fd to (connect p w fd addr opt udata amax omax umax g)
connect-quiet p w fd to addr opt udata amax omax umax go.Begin = on_open-quiet p w fd to _ (λ e. both-lists fd to (Connect.request fd opt udata e (Connect.found p w fd addr e)) (request-non_linking fd to opt udata e (Connect.found p w fd addr e)))
connect-quiet p w fd to addr opt udata amax omax umax (go.More n) = on_open-quiet p w fd to _ (λ e. one-own fd to Connect.confirmed (λ x e h. h))

pub quiet-non_linking : (p : Providers) (w : World) (c : Call) (g : Go) (to : Option ℕ) → is_quiet c ≡ true → PlanNonLinking (call_fd c) to (plan p w c g)
unfolding plan
quiet-non_linking p w (call.TOpen prov nonblock) g to q = open-non_linking p (the_switch p w) prov nonblock 0 to (opening_place p (the_switch p w) prov)
quiet-non_linking p w (call.TClose fd) g to q = absurd (false≢true q)
quiet-non_linking p w (call.TBind fd addr qlen amax) g to q = on_open-quiet p w fd.0 to _ (λ e. own-and_switch fd.0 to _ _ (λ x e h. h))
quiet-non_linking p w (call.TUnbind fd) g to q = on_open-quiet p w fd.0 to _ (λ e. own-and_switch fd.0 to _ _ (λ x e h. h))
quiet-non_linking p w (call.TConnect fd addr opt udata amax omax umax) g to q = connect-quiet p w fd.0 to addr opt udata amax omax umax g
quiet-non_linking p w (call.TRcvConnect fd amax omax umax) g to q = on_open-quiet p w fd.0 to _ (λ e. one-own fd.0 to Connect.confirmed (λ x e h. h))
quiet-non_linking p w (call.TListen fd amax omax umax) g to q = on_open-quiet p w fd.0 to _ (λ e. one-own fd.0 to Listen.listened (λ x e h. h))
quiet-non_linking p w (call.TAccept fd resfd seq opt udata) g to q = absurd (false≢true q)
quiet-non_linking p w (call.TSnd fd bytes flags) g to q = absurd (false≢true q)
quiet-non_linking p w (call.TSndV fd parts flags) g to q = absurd (false≢true q)
quiet-non_linking p w (call.TRcv fd max) g to q = on_open-quiet p w fd.0 to _ (λ e. one-own fd.0 to (Receive.received p max) (received-names p max))
quiet-non_linking p w (call.TRcvV fd sizes) g to q = on_open-quiet p w fd.0 to _ (λ e. one-own fd.0 to (Receive.received p (sum sizes)) (received-names p (sum sizes)))
quiet-non_linking p w (call.TSndDis fd seq udata) g to q = absurd (false≢true q)
quiet-non_linking p w (call.TRcvDis fd umax) g to q = on_open-quiet p w fd.0 to _ (λ e. one-own fd.0 to Disconnect.received disconnect-names)
quiet-non_linking p w (call.TSndRel fd) g to q = absurd (false≢true q)
quiet-non_linking p w (call.TRcvRel fd) g to q = on_open-quiet p w fd.0 to _ (λ e. one-own fd.0 to Release.after_receive after_receive-names)
quiet-non_linking p w (call.TSndRelData fd udata) g to q = absurd (false≢true q)
quiet-non_linking p w (call.TRcvRelData fd umax) g to q = on_open-quiet p w fd.0 to _ (λ e. one-own fd.0 to Release.after_receive after_receive-names)
quiet-non_linking p w (call.TSndUData fd addr opt bytes) g to q = on_open-quiet p w fd.0 to _ (λ e. datagram-non_linking p fd.0 to addr opt 1 bytes e (bound (the_switch p w) e.prov addr) (option_and_then (endpoint p w) (bound (the_switch p w) e.prov addr)))
quiet-non_linking p w (call.TSndVUData fd addr opt parts) g to q = on_open-quiet p w fd.0 to _ (λ e. datagram-non_linking p fd.0 to addr opt (length parts) (concat parts) e (bound (the_switch p w) e.prov addr) (option_and_then (endpoint p w) (bound (the_switch p w) e.prov addr)))
quiet-non_linking p w (call.TRcvUData fd max amax omax) g to q = on_open-quiet p w fd.0 to _ (λ e. ((keeps_view fd.0 _ (datagram-keeps_view max), tt), tt, (keeps_view fd.0 _ (λ e. refl), tt)))
quiet-non_linking p w (call.TRcvVUData fd sizes amax omax) g to q = on_open-quiet p w fd.0 to _ (λ e. ((keeps_view fd.0 _ (datagram-keeps_view (sum sizes)), tt), tt, (keeps_view fd.0 _ (λ e. refl), tt)))
quiet-non_linking p w (call.TRcvUDErr fd amax omax) g to q = on_open-quiet p w fd.0 to _ (λ e. one-kept fd.0 to _ (λ e. refl))
quiet-non_linking p w (call.TLookAt fd) g to q = on_open-quiet p w fd.0 to _ (λ e. one-kept fd.0 to _ (shown-keeps_view (Show.first_pending (around p w fd.0 e) e)))
quiet-non_linking p w (call.TGetState fd) g to q = on_open-quiet p w fd.0 to _ (λ e. (tt, tt, tt))
quiet-non_linking p w (call.TSync fd) g to q = on_open-quiet p w fd.0 to _ (λ e. (tt, tt, tt))
quiet-non_linking p w (call.TGetInfo fd) g to q = on_open-quiet p w fd.0 to _ (λ e. (tt, tt, tt))
quiet-non_linking p w (call.TGetProtAddr fd amax pmax) g to q = on_open-quiet p w fd.0 to _ (λ e. (tt, tt, tt))
quiet-non_linking p w (call.TOptMgmt fd action opt omax) g to q = on_open-quiet p w fd.0 to _ (λ e. one-kept fd.0 to _ (λ e. refl))
quiet-non_linking p w (call.SetMode fd nonblock) g to q = on_open-quiet p w fd.0 to _ (λ e. one-kept fd.0 to _ (λ e. refl))

send-non_linking : (p : Providers) (w : World) (fd parts : ℕ) (bytes : List ℕ) (flags : ℕ) (g : Go) → PlanNonLinking fd (peer_at (endpoint p w fd)) (send p w fd parts bytes flags g)
send-non_linking p w fd parts bytes flags go.Begin = on_open-non_linking p w fd (λ e. Send.plan_to p fd parts bytes flags 0 e (linked p w fd e)) (λ e. send_to-non_linking p fd parts bytes flags 0 e (linked p w fd e))
send-non_linking p w fd parts bytes flags (go.More n) = let h = on_open-non_linking p w fd (λ e. Send.plan_to p fd parts bytes flags n e (linked p w fd e)) (λ e. send_to-non_linking p fd parts bytes flags n e (linked p w fd e)) in (h.0, tt, h.2)

abbrev pub is_accept : Call → Bool
is_accept (call.TAccept fd resfd seq opt udata) = true
is_accept other = false

-- every call but an accept
sndrel-non_linking : (p : Providers) (w : World) (fd : ℕ) (udata : List ℕ) → PlanNonLinking fd (peer_at (endpoint p w fd)) (Release.send_plan p w fd udata)
sndrel-non_linking p w fd udata = on_open-non_linking p w fd _ (λ e. both-lists fd e.peer (at_linked fd e.peer (Release.released udata) ++ at_endpoint fd Release.after_send ∷ []) (append-non_linking fd e.peer (at_linked fd e.peer (Release.released udata)) (at_endpoint fd Release.after_send ∷ []) (linked-non_linking fd e.peer (Release.released udata) (λ x e h. h)) (of_own Release.after_send after_send-names, tt)))

pub plan-non_linking : (p : Providers) (w : World) (c : Call) (g : Go) → is_accept c ≡ false → PlanNonLinking (call_fd c) (peer_at (endpoint p w (call_fd c))) (plan p w c g)
unfolding plan
plan-non_linking p w (call.TClose fd) g a = on_open-non_linking p w fd.0 _ (λ e. both-lists fd.0 e.peer (Close.changes p fd.0 e) (close-non_linking p fd.0 e))
plan-non_linking p w (call.TSnd fd bytes flags) g a = send-non_linking p w fd.0 1 bytes flags g
plan-non_linking p w (call.TSndV fd parts flags) g a = send-non_linking p w fd.0 (length parts) (concat parts) flags g
plan-non_linking p w (call.TSndDis fd seq udata) g a = on_open-non_linking p w fd.0 _ (λ e. both-lists fd.0 e.peer (Disconnect.send_changes fd.0 seq.0 udata e) (snddis-non_linking fd.0 seq.0 udata e))
plan-non_linking p w (call.TSndRel fd) g a = sndrel-non_linking p w fd.0 []
plan-non_linking p w (call.TSndRelData fd udata) g a = sndrel-non_linking p w fd.0 udata
plan-non_linking p w (call.TAccept fd resfd seq opt udata) g a = absurd (false≢true (sym a))
plan-non_linking p w other g a = quiet-non_linking p w other g (peer_at (endpoint p w (call_fd other))) refl
