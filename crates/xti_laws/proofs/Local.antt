-- What a call does is settled by the cells that it touches.
use Rattle.std.proofs.Common.{ℕ, Bool, true, false, List, [], ◌∷◌, ◌++◌, Option, Some, None, ◌≡◌, refl, ap, ◌∙◌, subst, cond}
use Rattle.std.specs.Prelude.{option_and_then, option_map, length}
use Rattle.std.specs.List.{concat}
use Rattle.xti_base.specs.declared.kinds.Prov.{Prov}
use Rattle.xti_model.specs.declared.call.Call.{Call}
use Rattle.xti_model.specs.declared.call.Call.TheVariants as call
use Rattle.xti_model.specs.declared.entry.Outcome.{Outcome}
use Rattle.xti_model.specs.declared.entry.Outcome.TheVariants.{Done}
use Rattle.xti_model.specs.declared.entry.Go.{Go}
use Rattle.xti_model.specs.declared.entry.Go.TheVariants as go
use Rattle.xti_model.specs.declared.profile.Providers.{Providers}
use Rattle.xti_model.specs.World.{World, is_among, only, endpoint, place_of, the_switch, switch_number, state_of, changed}
use Rattle.xti_model.specs.Switch.{bound, listener}
use Rattle.xti_model.specs.Endpoint.{Endpoint}
use Rattle.xti_model.specs.Links.{linked, if_back}
use Rattle.xti_model.specs.Events.{around}
use Rattle.xti_model.specs.Plan.{Plan, Refusal, answers, waits, loses, first, if_open, on_open, later_plan}
use Rattle.xti_model.specs.Step.{plan, send, connect, step, step_by, step_of, made}
use Rattle.xti_model.specs.Touched.{named, peer_cell, cell_of, bound_cell, listener_cell, marked_cells, cells_to, of_some}
use Rattle.xti_model.specs.Calls.Connect as Connect
use Rattle.xti_model.specs.Calls.Listen as Listen
use Rattle.xti_model.specs.Calls.Send as Send
use Rattle.xti_model.specs.Calls.Open as Open
use Rattle.xti_model.specs.Calls.Datagrams as Datagrams
use Rattle.xti_model.specs.Calls.Show as Show
use Rattle.xti_model.specs.Calls.Bind as Bind
use Rattle.xti_laws.specs.Laws.{Within, restrict}
use Rattle.xti_laws.proofs.Only.{endpoint-only, the_switch-only, only-changed}

if_open-same : (fd : ℕ) (f g : Endpoint → Plan) (o : Option Endpoint) → ((e : Endpoint) → o ≡ Some e → f e ≡ g e) → if_open fd o f ≡ if_open fd o g
if_open-same fd f g None h = refl
if_open-same fd f g (Some e) h = h e refl

on_open-only : (p : Providers) (t : List ℕ) (w : World) (fd : ℕ) → is_among t (place_of p fd) ≡ true → (f g : Endpoint → Plan) → ((e : Endpoint) → endpoint p w fd ≡ Some e → f e ≡ g e) → on_open p (only t w) fd f ≡ on_open p w fd g
on_open-only p t w fd k f g h = rw (endpoint-only p t fd k w) (if_open-same fd f g (endpoint p w fd) h)

linked-only : (p : Providers) (t : List ℕ) (w : World) (fd : ℕ) (e : Endpoint) → Within t (peer_cell p e) → linked p (only t w) fd e ≡ linked p w fd e
linked-only p t w fd e = go e.peer
  where
    go : (o : Option ℕ) → Within t (cell_of p o) → option_and_then (λ peer. option_and_then (if_back fd) (endpoint p (only t w) peer)) o ≡ option_and_then (λ peer. option_and_then (if_back fd) (endpoint p w peer)) o
    go None h = refl
    go (Some peer) h = ap (option_and_then (if_back fd)) (endpoint-only p t peer h.0 w)

pub of_open-at : (t : List ℕ) (f : Endpoint → List ℕ) (o : Option Endpoint) (e : Endpoint) → o ≡ Some e → Within t (of_some o f) → Within t (f e)
of_open-at t f o e h = subst (λ x. Within t (of_some x f)) h

send-local : (p : Providers) (t : List ℕ) (w : World) (fd parts : ℕ) (bytes : List ℕ) (flags n : ℕ) → is_among t (place_of p fd) ≡ true → Within t (of_some (endpoint p w fd) (peer_cell p)) → Send.plan p (only t w) fd parts bytes flags n ≡ Send.plan p w fd parts bytes flags n
send-local p t w fd parts bytes flags n k h = on_open-only p t w fd k _ _ (λ e o. ap (Send.plan_to p fd parts bytes flags n e) (linked-only p t w fd e (of_open-at t (peer_cell p) (endpoint p w fd) e o h)))

go_send-local : (p : Providers) (t : List ℕ) (w : World) (fd parts : ℕ) (bytes : List ℕ) (flags : ℕ) (g : Go) → is_among t (place_of p fd) ≡ true → Within t (of_some (endpoint p w fd) (peer_cell p)) → send p (only t w) fd parts bytes flags g ≡ send p w fd parts bytes flags g
go_send-local p t w fd parts bytes flags go.Begin k h = send-local p t w fd parts bytes flags 0 k h
go_send-local p t w fd parts bytes flags (go.More n) k h = ap (later_plan n) (send-local p t w fd parts bytes flags n k h)

found_at-only : (p : Providers) (t : List ℕ) (w : World) (o : Option ℕ) → Within t (cell_of p o) → Connect.found_at p (only t w) o ≡ Connect.found_at p w o
found_at-only p t w None h = refl
found_at-only p t w (Some l) h = ap (option_map (λ e. record { fd = l; endpoint = e })) (endpoint-only p t l h.0 w)

found-only : (p : Providers) (t : List ℕ) (w : World) (fd : ℕ) (address : List ℕ) (e : Endpoint) → is_among t (switch_number p) ≡ true → Within t (listener_cell p w fd address e) → Connect.found p (only t w) fd address e ≡ Connect.found p w fd address e
found-only p t w fd address e k h = ap (λ s. Connect.found_at p (only t w) (listener s e.prov address fd)) (the_switch-only p t k w) ∙ found_at-only p t w (listener (the_switch p w) e.prov address fd) h

connect-local : (p : Providers) (t : List ℕ) (w : World) (fd : ℕ) (address options udata : List ℕ) (amax omax umax : ℕ) (g : Go) → is_among t (place_of p fd) ≡ true → is_among t (switch_number p) ≡ true → Within t (of_some (endpoint p w fd) (listener_cell p w fd address)) → connect p (only t w) fd address options udata amax omax umax g ≡ connect p w fd address options udata amax omax umax g
connect-local p t w fd address options udata amax omax umax go.Begin k s h = on_open-only p t w fd k _ _ (λ e o. ap (Connect.plan_to fd address options udata e) (found-only p t w fd address e s (of_open-at t (listener_cell p w fd address) (endpoint p w fd) e o h)))
connect-local p t w fd address options udata amax omax umax (go.More n) k s h = on_open-only p t w fd k _ _ (λ e o. refl)

endpoint_at-only : (p : Providers) (t : List ℕ) (w : World) (o : Option ℕ) → Within t (cell_of p o) → option_and_then (endpoint p (only t w)) o ≡ option_and_then (endpoint p w) o
endpoint_at-only p t w None h = refl
endpoint_at-only p t w (Some fd) h = endpoint-only p t fd h.0 w

send_from-only : (p : Providers) (t : List ℕ) (w : World) (fd : ℕ) (address options : List ℕ) (parts : ℕ) (bytes : List ℕ) (e : Endpoint) (o : Option ℕ) → Within t (cell_of p o) → Datagrams.send_from p (only t w) fd address options parts bytes e o ≡ Datagrams.send_from p w fd address options parts bytes e o
send_from-only p t w fd address options parts bytes e o h = ap (Datagrams.send_to p fd address options parts bytes e o) (endpoint_at-only p t w o h)

datagram-local : (p : Providers) (t : List ℕ) (w : World) (fd : ℕ) (address options : List ℕ) (parts : ℕ) (bytes : List ℕ) → is_among t (place_of p fd) ≡ true → is_among t (switch_number p) ≡ true → Within t (of_some (endpoint p w fd) (bound_cell p w address)) → Datagrams.send_plan p (only t w) fd address options parts bytes ≡ Datagrams.send_plan p w fd address options parts bytes
datagram-local p t w fd address options parts bytes k s h = on_open-only p t w fd k _ _ (λ e o.
    ap (λ x. Datagrams.send_from p (only t w) fd address options parts bytes e (bound x e.prov address)) (the_switch-only p t s w) ∙
    send_from-only p t w fd address options parts bytes e (bound (the_switch p w) e.prov address) (of_open-at t (bound_cell p w address) (endpoint p w fd) e o h))

within-left : (t ns ms : List ℕ) → Within t (ns ++ ms) → Within t ns
within-left t [] ms h = tt
within-left t (n ∷ ns) ms h = (h.0, within-left t ns ms h.1)

within-right : (t ns ms : List ℕ) → Within t (ns ++ ms) → Within t ms
within-right t [] ms h = h
within-right t (n ∷ ns) ms h = within-right t ns ms h.1

marked_at : Providers → World → Prov → Option (List ℕ) → Option Endpoint
marked_at p w prov to = option_and_then (λ address. option_and_then (endpoint p w) (bound (the_switch p w) prov address)) to

marked-only : (p : Providers) (t : List ℕ) (w : World) (e : Endpoint) (to : Option (List ℕ)) → Within t (cells_to p w e to) → marked_at p (only t w) e.prov to ≡ marked_at p w e.prov to
unfolding marked_at
marked-only p t w e None h = refl
marked-only p t w e (Some address) h = ap (λ s. option_and_then (endpoint p (only t w)) (bound s e.prov address)) (the_switch-only p t h.0 w) ∙ endpoint_at-only p t w (bound (the_switch p w) e.prov address) h.1

pub around-only : (p : Providers) (t : List ℕ) (w : World) (fd : ℕ) (e : Endpoint) → Within t (peer_cell p e ++ marked_cells p w e) → around p (only t w) fd e ≡ around p w fd e
unfolding marked_at
around-only p t w fd e h =
    ap (λ x. record { peer = x; marked = marked_at p (only t w) e.prov e.flow_datagram }) (linked-only p t w fd e (within-left t (peer_cell p e) (marked_cells p w e) h)) ∙
    ap (λ x. record { peer = linked p w fd e; marked = x }) (marked-only p t w e e.flow_datagram (within-right t (peer_cell p e) (marked_cells p w e) h))

pub plan-local : (p : Providers) (t : List ℕ) (w : World) (c : Call) (g : Go) → Within t (named p w c) → plan p (only t w) c g ≡ plan p w c g
unfolding plan
plan-local p t w (call.TOpen prov nonblock) g h = ap (λ s. Open.plan_in p s prov nonblock) (the_switch-only p t h.0 w)
plan-local p t w (call.TClose fd) g h = on_open-only p t w fd.0 h.0 _ _ (λ e o. refl)
plan-local p t w (call.TBind fd addr qlen amax) g h = on_open-only p t w fd.0 h.0 _ _ (λ e o. ap (λ s. Bind.plan_in s fd.0 addr qlen amax e) (the_switch-only p t h.1.0 w))
plan-local p t w (call.TUnbind fd) g h = on_open-only p t w fd.0 h.0 _ _ (λ e o. refl)
plan-local p t w (call.TConnect fd addr opt udata amax omax umax) g h = connect-local p t w fd.0 addr opt udata amax omax umax g h.0 h.1.0 h.1.1
plan-local p t w (call.TRcvConnect fd amax omax umax) g h = on_open-only p t w fd.0 h.0 _ _ (λ e o. refl)
plan-local p t w (call.TListen fd amax omax umax) g h = on_open-only p t w fd.0 h.0 _ _ (λ e o. refl)
plan-local p t w (call.TAccept fd resfd seq opt udata) g h = on_open-only p t w fd.0 h.0 _ _ (λ e o. ap (Listen.accept_with p fd.0 resfd.0 seq.0 opt udata e) (endpoint-only p t resfd.0 h.1.1.0 w))
plan-local p t w (call.TSnd fd bytes flags) g h = go_send-local p t w fd.0 1 bytes flags g h.0 h.1
plan-local p t w (call.TSndV fd parts flags) g h = go_send-local p t w fd.0 (length parts) (concat parts) flags g h.0 h.1
plan-local p t w (call.TRcv fd max) g h = on_open-only p t w fd.0 h.0 _ _ (λ e o. refl)
plan-local p t w (call.TRcvV fd sizes) g h = on_open-only p t w fd.0 h.0 _ _ (λ e o. refl)
plan-local p t w (call.TSndDis fd seq udata) g h = on_open-only p t w fd.0 h.0 _ _ (λ e o. refl)
plan-local p t w (call.TRcvDis fd umax) g h = on_open-only p t w fd.0 h.0 _ _ (λ e o. refl)
plan-local p t w (call.TSndRel fd) g h = on_open-only p t w fd.0 h.0 _ _ (λ e o. refl)
plan-local p t w (call.TRcvRel fd) g h = on_open-only p t w fd.0 h.0 _ _ (λ e o. refl)
plan-local p t w (call.TSndRelData fd udata) g h = on_open-only p t w fd.0 h.0 _ _ (λ e o. refl)
plan-local p t w (call.TRcvRelData fd umax) g h = on_open-only p t w fd.0 h.0 _ _ (λ e o. refl)
plan-local p t w (call.TSndUData fd addr opt bytes) g h = datagram-local p t w fd.0 addr opt 1 bytes h.0 h.1.0 h.1.1
plan-local p t w (call.TSndVUData fd addr opt parts) g h = datagram-local p t w fd.0 addr opt (length parts) (concat parts) h.0 h.1.0 h.1.1
plan-local p t w (call.TRcvUData fd max amax omax) g h = on_open-only p t w fd.0 h.0 _ _ (λ e o. refl)
plan-local p t w (call.TRcvVUData fd sizes amax omax) g h = on_open-only p t w fd.0 h.0 _ _ (λ e o. refl)
plan-local p t w (call.TRcvUDErr fd amax omax) g h = on_open-only p t w fd.0 h.0 _ _ (λ e o. refl)
plan-local p t w (call.TLookAt fd) g h = on_open-only p t w fd.0 h.0 _ _ (λ e o. ap (Show.look_in fd.0 e) (around-only p t w fd.0 e (of_open-at t (λ e. peer_cell p e ++ marked_cells p w e) (endpoint p w fd.0) e o h.1)))
plan-local p t w (call.TGetState fd) g h = on_open-only p t w fd.0 h.0 _ _ (λ e o. refl)
plan-local p t w (call.TSync fd) g h = on_open-only p t w fd.0 h.0 _ _ (λ e o. refl)
plan-local p t w (call.TGetInfo fd) g h = on_open-only p t w fd.0 h.0 _ _ (λ e o. refl)
plan-local p t w (call.TGetProtAddr fd amax pmax) g h = on_open-only p t w fd.0 h.0 _ _ (λ e o. refl)
plan-local p t w (call.TOptMgmt fd action opt omax) g h = on_open-only p t w fd.0 h.0 _ _ (λ e o. refl)
plan-local p t w (call.SetMode fd nonblock) g h = on_open-only p t w fd.0 h.0 _ _ (λ e o. refl)

made-only : (p : Providers) (t : List ℕ) (fd : ℕ) (outcome : Outcome) (w : World) → is_among t (place_of p fd) ≡ true → made p fd outcome (only t w) ≡ restrict t (made p fd outcome w)
made-only p t fd outcome w k = ap (λ e. record { outcome = outcome; after = state_of e; world = only t w }) (endpoint-only p t fd k w)

step_by-only : (p : Providers) (t : List ℕ) (w : World) (x : Plan) (r : Option Refusal) → is_among t (place_of p x.fd) ≡ true → step_by p (only t w) x r ≡ option_map (restrict t) (step_by p w x r)
step_by-only p t w x None k = ap Some (ap (made p x.fd x.outcome) (only-changed p t x.changes w) ∙ made-only p t x.fd x.outcome (changed p w x.changes) k)
step_by-only p t w x (Some (answers reply)) k = ap Some (made-only p t x.fd (Done reply) w k)
step_by-only p t w x (Some (waits reply)) k = go x.nonblock
  where
    go : (b : Bool) → cond b (Some (made p x.fd (Done reply) (changed p (only t w) x.marks))) None ≡ option_map (restrict t) (cond b (Some (made p x.fd (Done reply) (changed p w x.marks))) None)
    go true = ap Some (ap (made p x.fd (Done reply)) (only-changed p t x.marks w) ∙ made-only p t x.fd (Done reply) (changed p w x.marks) k)
    go false = refl
step_by-only p t w x (Some loses) k = ap Some (ap (made p x.fd _) (only-changed p t x.lost w) ∙ made-only p t x.fd _ (changed p w x.lost) k)

-- The step on some cells is the step on all of them, if those that it names are there.
pub step-local : (p : Providers) (t : List ℕ) (w : World) (c : Call) (g : Go) → Within t (named p w c) → is_among t (place_of p (plan p w c g).fd) ≡ true → step p (only t w) c g ≡ option_map (restrict t) (step p w c g)
unfolding step
step-local p t w c g h k = ap (step_of p (only t w)) (plan-local p t w c g h) ∙ step_by-only p t w (plan p w c g) (first (plan p w c g).rows) k
