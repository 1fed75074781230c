-- A call changes no other cells than those that it touches.
use Rattle.std.proofs.Common.{ℕ, Bool, true, false, List, [], ◌∷◌, ◌++◌, Option, Some, None, ◌≡◌, refl, ap, ◌∙◌, subst, cond, map, not, ◌+◌, eqb}
use Rattle.std.specs.Prelude.{option_map, option_and_then, option_to_list, length}
use Rattle.std.specs.List.{concat}
use Rattle.xti_base.specs.declared.kinds.Prov.{Prov}
use Rattle.xti_model.specs.declared.call.Call.{Call}
use Rattle.xti_model.specs.declared.call.Call.TheVariants as call
use Rattle.xti_model.specs.declared.entry.Outcome.TheVariants.{Done}
use Rattle.xti_model.specs.declared.entry.Go.{Go}
use Rattle.xti_model.specs.declared.entry.Go.TheVariants as go
use Rattle.xti_model.specs.declared.profile.Providers.{Providers}
use Rattle.xti_model.specs.World.{World, Switch, Change, change, without, at_endpoint, at_switch, cell_number, new_cell, is_among, endpoint, place_of, the_switch, switch_number, changed}
use Rattle.xti_model.specs.Switch.{bound, listener, give_address, opening_place}
use Rattle.xti_model.specs.Endpoint.{Endpoint, Indication, Target, address_of, find_number}
use Rattle.xti_model.specs.Links.{linked, at_linked, take_back, break, broken}
use Rattle.xti_model.specs.Events.{is_state}
use Rattle.xti_model.specs.Plan.{Plan, Refusal, answers, waits, loses, first, if_open, on_open}
use Rattle.xti_model.specs.Step.{plan, send, connect, step, step_by, made}
use Rattle.xti_model.specs.Touched.{named, target_cell, caller_cell, caller_cells, peer_cell, cell_of, bound_cell, listener_cell, of_some}
use Rattle.xti_model.specs.Calls.Connect as Connect
use Rattle.xti_model.specs.Calls.Listen as Listen
use Rattle.xti_model.specs.Calls.Send as Send
use Rattle.xti_model.specs.Calls.Open as Open
use Rattle.xti_model.specs.Calls.Datagrams as Datagrams
use Rattle.xti_laws.specs.Laws.{Within}
use Rattle.xti_model.specs.Calls.Close as Close
use Rattle.xti_model.specs.Calls.Disconnect as Disconnect
use Rattle.xti_model.specs.Calls.Release as Release
use Rattle.xti_model.specs.History.{left_by}
use Rattle.xti_model.specs.Arguments.{is_expedited}
use Rattle.xti_base.specs.declared.kinds.State.TheVariants.{T_UNBND}
use Rattle.std.proofs.lemmas.Bool.{eqb-true}

abbrev In : Providers → List ℕ → Change → Type 0
In p t c = is_among t (cell_number p c) ≡ true

abbrev AllIn : Providers → List ℕ → List Change → Type 0
AllIn p t [] = Unit
AllIn p t (c ∷ cs) = In p t c × AllIn p t cs

-- each change that the plan may make is at one of these cells
abbrev InPlan : Providers → List ℕ → Plan → Type 0
InPlan p t x = AllIn p t x.changes × AllIn p t x.marks × AllIn p t x.lost

append-in : (p : Providers) (t : List ℕ) (cs ds : List Change) → AllIn p t cs → AllIn p t ds → AllIn p t (cs ++ ds)
append-in p t [] ds h k = k
append-in p t (c ∷ cs) ds h k = (h.0, append-in p t cs ds h.1 k)

on_open-in : (p : Providers) (t : List ℕ) (w : World) (fd : ℕ) (f : Endpoint → Plan) → ((e : Endpoint) → endpoint p w fd ≡ Some e → InPlan p t (f e)) → InPlan p t (on_open p w fd f)
on_open-in p t w fd f h = go (endpoint p w fd) h
  where
    go : (o : Option Endpoint) → ((e : Endpoint) → o ≡ Some e → InPlan p t (f e)) → InPlan p t (if_open fd o f)
    go None k = (tt, tt, tt)
    go (Some e) k = k e refl

linked-in : (p : Providers) (t : List ℕ) (fd : ℕ) (o : Option ℕ) (f : Endpoint → Endpoint) → Within t (cell_of p o) → AllIn p t (at_linked fd o f)
linked-in p t fd None f h = tt
linked-in p t fd (Some peer) f h = (h.0, tt)

take_back-in : (p : Providers) (t : List ℕ) (o : Option Target) (reason : ℕ) (udata : List ℕ) → Within t (cell_of p (option_map (λ x. x.listener) o)) → AllIn p t (take_back o reason udata)
take_back-in p t None reason udata h = tt
take_back-in p t (Some x) reason udata h = (h.0, tt)

break-in : (p : Providers) (t : List ℕ) (fd : ℕ) (e : Endpoint) (reason : ℕ) (udata : List ℕ) → Within t (peer_cell p e) → Within t (target_cell p e) → AllIn p t (break fd e reason udata)
break-in p t fd e reason udata h k = append-in p t (at_linked fd e.peer (broken reason udata)) (take_back e.target reason udata) (linked-in p t fd e.peer (broken reason udata) h) (take_back-in p t e.target reason udata k)

callers-in : (p : Providers) (t : List ℕ) (fd : ℕ) (is : List Indication) → Within t (map (λ i. place_of p i.caller) is) → AllIn p t (map (Close.give_up_caller fd) is)
callers-in p t fd [] h = tt
callers-in p t fd (i ∷ is) h = (h.0, callers-in p t fd is h.1)

one : (t : List ℕ) (n : ℕ) → is_among t n ≡ true → (is_among t n ≡ true × Unit {0}) × Unit {0} × (is_among t n ≡ true × Unit {0})
one t n k = ((k, tt), tt, (k, tt))

both : (p : Providers) (t : List ℕ) (cs : List Change) → AllIn p t cs → AllIn p t cs × AllIn p t [] × AllIn p t cs
both p t cs h = (h, tt, h)

within-left : (t ns ms : List ℕ) → Within t (ns ++ ms) → Within t ns
within-left t [] ms h = tt
within-left t (n ∷ ns) ms h = (h.0, within-left t ns ms h.1)

pub within-right : (t ns ms : List ℕ) → Within t (ns ++ ms) → Within t ms
within-right t [] ms h = h
within-right t (n ∷ ns) ms h = within-right t ns ms h.1

of_open-at : (t : List ℕ) (f : Endpoint → List ℕ) (o : Option Endpoint) (e : Endpoint) → o ≡ Some e → Within t (of_some o f) → Within t (f e)
of_open-at t f o e h = subst (λ x. Within t (of_some x f)) h

close-in : (p : Providers) (t : List ℕ) (w : World) (fd : ℕ) (e : Endpoint) → is_among t (place_of p fd) ≡ true → is_among t (switch_number p) ≡ true → Within t (peer_cell p e ++ target_cell p e ++ caller_cells p e) → AllIn p t (Close.changes p fd e)
close-in p t w fd e k s h =
    let h₁ = within-left t (peer_cell p e ++ target_cell p e) (caller_cells p e) h in
    append-in p t (break fd e 5 [] ++ map (Close.give_up_caller fd) (e.pending ++ e.outstanding)) (Close.closing p fd)
    (append-in p t (break fd e 5 []) (map (Close.give_up_caller fd) (e.pending ++ e.outstanding))
    (break-in p t fd e 5 [] (within-left t (peer_cell p e) (target_cell p e) h₁) (within-right t (peer_cell p e) (target_cell p e) h₁))
    (callers-in p t fd (e.pending ++ e.outstanding) (within-right t (peer_cell p e ++ target_cell p e) (caller_cells p e) h)))
    (k, (s, tt))

open-in : (p : Providers) (t : List ℕ) (s : Switch) (prov : Prov) (nonblock : Bool) (o : Option ℕ) → is_among t (switch_number p) ≡ true → Within t (option_to_list o) → InPlan p t (Open.plan_where p s prov nonblock o)
open-in p t s prov nonblock None k h = (tt, tt, tt)
open-in p t s prov nonblock (Some n) k h = ((h.0, (k, tt)), tt, tt)

reach-in : (p : Providers) (t : List ℕ) (fd l : ℕ) (options udata : List ℕ) (e le : Endpoint) → is_among t (place_of p fd) ≡ true → is_among t (place_of p l) ≡ true → AllIn p t (Connect.reach fd l options udata e le)
reach-in p t fd l options udata e le k h = go (not (Connect.is_listening le)) (Connect.is_full le)
  where
    go : (b d : Bool) → AllIn p t (cond b (at_endpoint fd (Connect.turned_away 1) ∷ []) (cond d (at_endpoint fd (Connect.turned_away 2) ∷ []) (at_endpoint l (Connect.asked fd (address_of e) options udata) ∷ at_endpoint fd (Connect.asking l (le.last_number + 1)) ∷ [])))
    go true d = (k, tt)
    go false true = (k, tt)
    go false false = (h, (k, tt))

request-in : (p : Providers) (t : List ℕ) (w : World) (fd : ℕ) (options udata : List ℕ) (e : Endpoint) (o : Option ℕ) → is_among t (place_of p fd) ≡ true → Within t (cell_of p o) → AllIn p t (Connect.request fd options udata e (Connect.found_at p w o))
request-in p t w fd options udata e None k h = (k, tt)
request-in p t w fd options udata e (Some l) k h = go (endpoint p w l)
  where
    go : (o : Option Endpoint) → AllIn p t (Connect.request fd options udata e (option_map (λ x. record { fd = l; endpoint = x }) o))
    go None = (k, tt)
    go (Some le) = reach-in p t fd l options udata e le k h.0

connect-in : (p : Providers) (t : List ℕ) (w : World) (fd : ℕ) (address options udata : List ℕ) (amax omax umax : ℕ) (g : Go) → is_among t (place_of p fd) ≡ true → Within t (of_some (endpoint p w fd) (listener_cell p w fd address)) → InPlan p t (connect p w fd address options udata amax omax umax g)
connect-in p t w fd address options udata amax omax umax go.Begin k h = on_open-in p t w fd _ (λ e o. both p t (Connect.request fd options udata e (Connect.found p w fd address e)) (request-in p t w fd options udata e (listener (the_switch p w) e.prov address fd) k (of_open-at t (listener_cell p w fd address) (endpoint p w fd) e o h)))
connect-in p t w fd address options udata amax omax umax (go.More n) k h = on_open-in p t w fd _ (λ e o. one t (place_of p fd) k)

bind_like-in : (p : Providers) (t : List ℕ) (e : Endpoint) (resfd : ℕ) (r : Endpoint) → is_among t (place_of p resfd) ≡ true → is_among t (switch_number p) ≡ true → AllIn p t (Listen.bind_like e resfd r)
bind_like-in p t e resfd r k s = go (is_state (T_UNBND ∷ []) r)
  where
    go : (b : Bool) → AllIn p t (cond b (at_endpoint resfd (Listen.bound_like e) ∷ at_switch (give_address r.prov (address_of e) resfd false) ∷ []) [])
    go true = (k, (s, tt))
    go false = tt

found-in : (p : Providers) (t : List ℕ) (fd resfd : ℕ) (o : Option Indication) (options udata : List ℕ) (e r : Endpoint) → is_among t (place_of p fd) ≡ true → is_among t (place_of p resfd) ≡ true → is_among t (switch_number p) ≡ true → Within t (cell_of p (option_map (λ i. i.caller) o)) → AllIn p t (Listen.accept_found fd resfd o options udata e r)
found-in p t fd resfd None options udata e r k j s h = tt
found-in p t fd resfd (Some i) options udata e r k j s h = (k, append-in p t (Listen.bind_like e resfd r) (Listen.linking resfd i (address_of (Listen.bound_like e r)) options udata) (bind_like-in p t e resfd r j s) (j, (h.0, tt)))

accept-in : (p : Providers) (t : List ℕ) (fd resfd number : ℕ) (options udata : List ℕ) (e : Endpoint) (o : Option Endpoint) → is_among t (place_of p fd) ≡ true → is_among t (place_of p resfd) ≡ true → is_among t (switch_number p) ≡ true → Within t (caller_cell p number e) → InPlan p t (Listen.accept_with p fd resfd number options udata e o)
accept-in p t fd resfd number options udata e None k j s h = (tt, tt, tt)
accept-in p t fd resfd number options udata e (Some r) k j s h = both p t (Listen.accept_found fd resfd (find_number number e.outstanding) options udata e r) (found-in p t fd resfd (find_number number e.outstanding) options udata e r k j s h)

send_to-in : (p : Providers) (t : List ℕ) (fd parts : ℕ) (bytes : List ℕ) (flags taken : ℕ) (e : Endpoint) (peer : Option Endpoint) → is_among t (place_of p fd) ≡ true → Within t (peer_cell p e) → InPlan p t (Send.plan_to p fd parts bytes flags taken e peer)
send_to-in p t fd parts bytes flags taken e peer k h =
    let x = append-in p t (at_linked fd e.peer _) (at_endpoint fd _ ∷ []) (linked-in p t fd e.peer (Send.received (is_expedited flags) _) h) (k, tt) in
    (x, (k, tt), x)

send-in : (p : Providers) (t : List ℕ) (w : World) (fd parts : ℕ) (bytes : List ℕ) (flags : ℕ) (g : Go) → is_among t (place_of p fd) ≡ true → Within t (of_some (endpoint p w fd) (peer_cell p)) → InPlan p t (send p w fd parts bytes flags g)
send-in p t w fd parts bytes flags go.Begin k h = on_open-in p t w fd (λ e. Send.plan_to p fd parts bytes flags 0 e (linked p w fd e)) (λ e o. send_to-in p t fd parts bytes flags 0 e (linked p w fd e) k (of_open-at t (peer_cell p) (endpoint p w fd) e o h))
send-in p t w fd parts bytes flags (go.More n) k h =
    let x = on_open-in p t w fd (λ e. Send.plan_to p fd parts bytes flags n e (linked p w fd e)) (λ e o. send_to-in p t fd parts bytes flags n e (linked p w fd e) k (of_open-at t (peer_cell p) (endpoint p w fd) e o h)) in
    (x.0, tt, x.2)

snddis-in : (p : Providers) (t : List ℕ) (fd number : ℕ) (udata : List ℕ) (e : Endpoint) → is_among t (place_of p fd) ≡ true → Within t (peer_cell p e ++ target_cell p e ++ caller_cell p number e) → AllIn p t (Disconnect.send_changes fd number udata e)
snddis-in p t fd number udata e k h = go (Disconnect.is_asked e) (find_number number e.outstanding) (within-right t (peer_cell p e ++ target_cell p e) (caller_cell p number e) h)
  where
    go : (b : Bool) (o : Option Indication) → Within t (cell_of p (option_map (λ i. i.caller) o)) → AllIn p t (cond b (Disconnect.reject fd udata o) (break fd e 4 udata ++ at_endpoint fd Disconnect.idle ∷ []))
    go true None j = tt
    go true (Some i) j = (k, (j.0, tt))
    go false o j =
        let h₁ = within-left t (peer_cell p e ++ target_cell p e) (caller_cell p number e) h in
        append-in p t (break fd e 4 udata) (at_endpoint fd Disconnect.idle ∷ []) (break-in p t fd e 4 udata (within-left t (peer_cell p e) (target_cell p e) h₁) (within-right t (peer_cell p e) (target_cell p e) h₁)) (k, tt)

datagram-in : (p : Providers) (t : List ℕ) (fd : ℕ) (address options : List ℕ) (parts : ℕ) (bytes : List ℕ) (e : Endpoint) (o : Option ℕ) (there : Option Endpoint) → is_among t (place_of p fd) ≡ true → Within t (cell_of p o) → InPlan p t (Datagrams.send_to p fd address options parts bytes e o there)
datagram-in p t fd address options parts bytes e None there k h = ((k, tt), (k, tt), (k, tt))
datagram-in p t fd address options parts bytes e (Some to) there k h = ((h.0, (k, tt)), (k, tt), (h.0, (k, tt)))

sndrel-in : (p : Providers) (t : List ℕ) (w : World) (fd : ℕ) (udata : List ℕ) → is_among t (place_of p fd) ≡ true → Within t (of_some (endpoint p w fd) (peer_cell p)) → InPlan p t (Release.send_plan p w fd udata)
sndrel-in p t w fd udata k h = on_open-in p t w fd _ (λ e o. both p t (at_linked fd e.peer (Release.released udata) ++ at_endpoint fd Release.after_send ∷ []) (append-in p t (at_linked fd e.peer (Release.released udata)) (at_endpoint fd Release.after_send ∷ []) (linked-in p t fd e.peer (Release.released udata) (of_open-at t (peer_cell p) (endpoint p w fd) e o h)) (k, tt)))

pub plan-in : (p : Providers) (t : List ℕ) (w : World) (c : Call) (g : Go) → Within t (named p w c) → InPlan p t (plan p w c g)
unfolding plan
plan-in p t w (call.TOpen prov nonblock) g h = open-in p t (the_switch p w) prov nonblock (opening_place p (the_switch p w) prov) h.0 h.1
plan-in p t w (call.TClose fd) g h = on_open-in p t w fd.0 _ (λ e o. both p t (Close.changes p fd.0 e) (close-in p t w fd.0 e h.0 h.1.0 (of_open-at t (λ e. peer_cell p e ++ target_cell p e ++ caller_cells p e) (endpoint p w fd.0) e o h.1.1)))
plan-in p t w (call.TBind fd addr qlen amax) g h = on_open-in p t w fd.0 _ (λ e o. ((h.0, (h.1.0, tt)), tt, (h.0, (h.1.0, tt))))
plan-in p t w (call.TUnbind fd) g h = on_open-in p t w fd.0 _ (λ e o. ((h.0, (h.1.0, tt)), tt, (h.0, (h.1.0, tt))))
plan-in p t w (call.TConnect fd addr opt udata amax omax umax) g h = connect-in p t w fd.0 addr opt udata amax omax umax g h.0 h.1.1
plan-in p t w (call.TRcvConnect fd amax omax umax) g h = on_open-in p t w fd.0 _ (λ e o. one t (place_of p fd.0) h.0)
plan-in p t w (call.TListen fd amax omax umax) g h = on_open-in p t w fd.0 _ (λ e o. one t (place_of p fd.0) h.0)
plan-in p t w (call.TAccept fd resfd seq opt udata) g h = on_open-in p t w fd.0 _ (λ e o. accept-in p t fd.0 resfd.0 seq.0 opt udata e (endpoint p w resfd.0) h.0 h.1.1.0 h.1.0 (of_open-at t (caller_cell p seq.0) (endpoint p w fd.0) e o h.1.1.1))
plan-in p t w (call.TSnd fd bytes flags) g h = send-in p t w fd.0 1 bytes flags g h.0 h.1
plan-in p t w (call.TSndV fd parts flags) g h = send-in p t w fd.0 (length parts) (concat parts) flags g h.0 h.1
plan-in p t w (call.TRcv fd max) g h = on_open-in p t w fd.0 _ (λ e o. one t (place_of p fd.0) h.0)
plan-in p t w (call.TRcvV fd sizes) g h = on_open-in p t w fd.0 _ (λ e o. one t (place_of p fd.0) h.0)
plan-in p t w (call.TSndDis fd seq udata) g h = on_open-in p t w fd.0 _ (λ e o. both p t (Disconnect.send_changes fd.0 seq.0 udata e) (snddis-in p t fd.0 seq.0 udata e h.0 (of_open-at t (λ e. peer_cell p e ++ target_cell p e ++ caller_cell p seq.0 e) (endpoint p w fd.0) e o h.1)))
plan-in p t w (call.TRcvDis fd umax) g h = on_open-in p t w fd.0 _ (λ e o. one t (place_of p fd.0) h.0)
plan-in p t w (call.TSndRel fd) g h = sndrel-in p t w fd.0 [] h.0 h.1
plan-in p t w (call.TRcvRel fd) g h = on_open-in p t w fd.0 _ (λ e o. one t (place_of p fd.0) h.0)
plan-in p t w (call.TSndRelData fd udata) g h = sndrel-in p t w fd.0 udata h.0 h.1
plan-in p t w (call.TRcvRelData fd umax) g h = on_open-in p t w fd.0 _ (λ e o. one t (place_of p fd.0) h.0)
plan-in p t w (call.TSndUData fd addr opt bytes) g h = on_open-in p t w fd.0 _ (λ e o. datagram-in p t fd.0 addr opt 1 bytes e (bound (the_switch p w) e.prov addr) (option_and_then (endpoint p w) (bound (the_switch p w) e.prov addr)) h.0 (of_open-at t (bound_cell p w addr) (endpoint p w fd.0) e o h.1.1))
plan-in p t w (call.TSndVUData fd addr opt parts) g h = on_open-in p t w fd.0 _ (λ e o. datagram-in p t fd.0 addr opt (length parts) (concat parts) e (bound (the_switch p w) e.prov addr) (option_and_then (endpoint p w) (bound (the_switch p w) e.prov addr)) h.0 (of_open-at t (bound_cell p w addr) (endpoint p w fd.0) e o h.1.1))
plan-in p t w (call.TRcvUData fd max amax omax) g h = on_open-in p t w fd.0 _ (λ e o. one t (place_of p fd.0) h.0)
plan-in p t w (call.TRcvVUData fd sizes amax omax) g h = on_open-in p t w fd.0 _ (λ e o. one t (place_of p fd.0) h.0)
plan-in p t w (call.TRcvUDErr fd amax omax) g h = on_open-in p t w fd.0 _ (λ e o. one t (place_of p fd.0) h.0)
plan-in p t w (call.TLookAt fd) g h = on_open-in p t w fd.0 _ (λ e o. one t (place_of p fd.0) h.0)
plan-in p t w (call.TGetState fd) g h = on_open-in p t w fd.0 _ (λ e o. (tt, tt, tt))
plan-in p t w (call.TSync fd) g h = on_open-in p t w fd.0 _ (λ e o. (tt, tt, tt))
plan-in p t w (call.TGetInfo fd) g h = on_open-in p t w fd.0 _ (λ e o. (tt, tt, tt))
plan-in p t w (call.TGetProtAddr fd amax pmax) g h = on_open-in p t w fd.0 _ (λ e o. (tt, tt, tt))
plan-in p t w (call.TOptMgmt fd action opt omax) g h = on_open-in p t w fd.0 _ (λ e o. one t (place_of p fd.0) h.0)
plan-in p t w (call.SetMode fd nonblock) g h = on_open-in p t w fd.0 _ (λ e o. one t (place_of p fd.0) h.0)

without-change : (p : Providers) (t : List ℕ) (c : Change) → In p t c → (w : World) → without t (change (cell_number p c) (new_cell p c) w) ≡ without t w
without-change p t c k [] = refl
without-change p t c k (x ∷ w) = go (eqb x.number (cell_number p c)) refl (without-change p t c k w)
  where
    go : (b : Bool) → eqb x.number (cell_number p c) ≡ b → without t (change (cell_number p c) (new_cell p c) w) ≡ without t w → without t (change (cell_number p c) (new_cell p c) (x ∷ w)) ≡ without t (x ∷ w)
    go true h ih = simp (h, ap (is_among t) (eqb-true x.number (cell_number p c) h) ∙ k, ih) refl
    go false h ih = simp (h, ih) refl

-- all other cells stay as they are
pub without-changed : (p : Providers) (t : List ℕ) (cs : List Change) → AllIn p t cs → (w : World) → without t (changed p w cs) ≡ without t w
without-changed p t [] h w = refl
without-changed p t (c ∷ cs) h w = without-changed p t cs h.1 (change (cell_number p c) (new_cell p c) w) ∙ without-change p t c h.0 w

-- The step changes no cell that it does not name.
step_by-others : (p : Providers) (t : List ℕ) (w : World) (x : Plan) (r : Option Refusal) → InPlan p t x → without t (left_by w (step_by p w x r)) ≡ without t w
step_by-others p t w x None h = without-changed p t x.changes h.0 w
step_by-others p t w x (Some (answers reply)) h = refl
step_by-others p t w x (Some (waits reply)) h = go x.nonblock
  where
    go : (b : Bool) → without t (left_by w (cond b (Some (made p x.fd (Done reply) (changed p w x.marks))) None)) ≡ without t w
    go true = without-changed p t x.marks h.1 w
    go false = refl
step_by-others p t w x (Some loses) h = without-changed p t x.lost h.2 w

pub step-others : (p : Providers) (t : List ℕ) (w : World) (c : Call) (g : Go) → Within t (named p w c) → without t (left_by w (step p w c g)) ≡ without t w
unfolding step
step-others p t w c g h = step_by-others p t w (plan p w c g) (first (plan p w c g).rows) (plan-in p t w c g h)
