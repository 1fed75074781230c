-- Each step keeps the facts across cells, and the bindings.
use Rattle.std.proofs.Common.{ℕ, Bool, true, false, List, [], ◌∷◌, ◌++◌, ◌+◌, ◌-◌, ◌≡◌, refl, sym, ap, ◌∙◌, subst, cond, eqb, not, map, length, sum, drop, Option, Some, None, is_some}
use Rattle.std.specs.Prelude.{option_and_then, option_map, nat_lt}
use Rattle.std.specs.List.{concat}
use Rattle.xti_base.specs.declared.kinds.Prov.{Prov}
use Rattle.xti_base.specs.declared.kinds.State.TheVariants.{T_UNBND, T_IDLE, T_DATAXFER, T_OUTREL, T_INREL}
use Rattle.xti_model.specs.declared.call.Call.{Call}
use Rattle.xti_model.specs.declared.call.Call.TheVariants as call
use Rattle.xti_model.specs.declared.entry.Go.{Go}
use Rattle.xti_model.specs.declared.entry.Go.TheVariants as go
use Rattle.xti_model.specs.declared.profile.Providers.{Providers}
use Rattle.xti_model.specs.Endpoint.{Endpoint, Indication, Target, find_number, without_number, address_of, disconnected, is_target}
use Rattle.xti_model.specs.World.{World, Change, at_endpoint, at_switch, changed, endpoint, the_switch}
use Rattle.xti_model.specs.Switch.{bound, listener, give_address, give_up_address, mark_open, opening_place, chosen}
use Rattle.xti_model.specs.Links.{linked, at_linked, if_names, names, take_back, taken_back, break, broken}
use Rattle.xti_model.specs.Events.{around, is_state, some_wait}
use Rattle.xti_model.specs.Symbols.{rest}
use Rattle.xti_model.specs.Arguments.{is_expedited}
use Rattle.xti_model.specs.Plan.{Plan, if_open, later_plan}
use Rattle.xti_model.specs.Step.{Step, plan, step, step_of, send, connect}
use Rattle.xti_model.specs.History.{left_by}
use Rattle.xti_model.specs.Calls.Open as Open
use Rattle.xti_model.specs.Calls.Close as Close
use Rattle.xti_model.specs.Calls.Bind as Bind
use Rattle.xti_model.specs.Calls.Connect as Connect
use Rattle.xti_model.specs.Calls.Listen as Listen
use Rattle.xti_model.specs.Calls.Send as Send
use Rattle.xti_model.specs.Calls.Receive as Receive
use Rattle.xti_model.specs.Calls.Disconnect as Disconnect
use Rattle.xti_model.specs.Calls.Release as Release
use Rattle.xti_model.specs.Calls.Datagrams as Datagrams
use Rattle.xti_model.specs.Calls.Show as Show
use Rattle.xti_laws.proofs.ChangedEndpoints.{changed-append}
use Rattle.xti_laws.proofs.Effects.{step-any}
use Rattle.xti_laws.specs.Requests.{SoundLinks, nobody, BoundToOpen}
use Rattle.xti_laws.proofs.KeptEndpoints.{keeps}
use Rattle.xti_laws.proofs.ClearedRows.{un-not}
use Rattle.xti_laws.proofs.AcceptEnds.{no-disconnect}
use Rattle.xti_laws.proofs.EndpointUpdates.{both-turned_away}
use Rattle.xti_laws.proofs.SeveralCells.{request-sound}
use Rattle.xti_laws.proofs.AcceptEnds.{no-disconnects}
use Rattle.xti_laws.proofs.UnseenChanges.{AllRest, rests_at, bound_like-unseen, datagram-unseen, shown-unseen, own-hush}
use Rattle.xti_laws.proofs.CallsKeepLinks.{Kept, plain, resting, on-open, open-call, bind-call, unbind-call, confirm-call, listen-call, rcv-call, rcvrel-call, rcvdis-call, send-call, sndrel-call, close-call, snddis-call}
use Rattle.xti_laws.proofs.AcceptCall.{accept-call}
use Rattle.xti_laws.proofs.Bindings.{HasProv, KeepsProv, tidy_at, tidy_switch, tidy_opens, AllTidy, tidied, switched, gives-up, marks, gives, closed-bound, Found, listener-found}

-- A request to connect.
module _ (p : Providers) (w : World) (z : SoundLinks p w) (b : BoundToOpen p w) (s : Step) where
  turned : (fd reason : ℕ) (e : Endpoint) → endpoint p w fd ≡ Some e → is_state (T_IDLE ∷ []) e ≡ true → SoundLinks p (changed p w (at_endpoint fd (Connect.turned_away reason) ∷ []))
  turned fd reason e o i = own-hush p w nobody fd (Connect.turned_away reason) e z o (both-turned_away reason e (z.good fd e o) i)

  request-took : (fd : ℕ) (addr options udata : List ℕ) (e : Endpoint) → endpoint p w fd ≡ Some e → is_state (T_IDLE ∷ []) e ≡ true → e.disconnects ≡ [] → (l : Option ℕ) → listener (the_switch p w) e.prov addr fd ≡ l → SoundLinks p (changed p w (Connect.request fd options udata e (Connect.found_at p w l)))
  request-took fd addr options udata e o i n None h = turned fd 1 e o i
  request-took fd addr options udata e o i n (Some l) h = there (listener-found p w e.prov addr fd l b h)
    where
      reached : (le : Endpoint) → endpoint p w l ≡ Some le → le.prov ≡ e.prov → eqb l fd ≡ false → (x y : Bool) → SoundLinks p (changed p w (cond x (at_endpoint fd (Connect.turned_away 1) ∷ []) (cond y (at_endpoint fd (Connect.turned_away 2) ∷ []) (at_endpoint l (Connect.asked fd (address_of e) options udata) ∷ at_endpoint fd (Connect.asking l (le.last_number + 1)) ∷ []))))
      reached le a v d true y = turned fd 1 e o i
      reached le a v d false true = turned fd 2 e o i
      reached le a v d false false = request-sound p w z l fd le e a o d i n (sym v) (address_of e) options udata

      there : Found p w e.prov fd l → SoundLinks p (changed p w (Connect.request fd options udata e (Connect.found_at p w (Some l))))
      there f = subst (λ y. SoundLinks p (changed p w (Connect.request fd options udata e (option_map (λ e. record { fd = l; endpoint = e }) y)))) (sym f.is_open)
          (reached f.e f.is_open f.same_provider f.differ (not (Connect.is_listening f.e)) (Connect.is_full f.e))

  connect-call : (fd : ℕ) (addr opt udata : List ℕ) (amax omax umax : ℕ) (g : Go) → step_of p w (connect p w fd addr opt udata amax omax umax g) ≡ Some s → SoundLinks p s.world
  connect-call fd addr opt udata amax omax umax go.Begin = on-open p w fd (λ e. Connect.plan_to fd addr opt udata e (Connect.found p w fd addr e)) s z (λ e o. plain p w (Connect.plan_to fd addr opt udata e (Connect.found p w fd addr e)) refl refl z
      (λ c. request-took fd addr opt udata e o (un-not (is_state (T_IDLE ∷ []) e) c.1.0) (no-disconnects e.disconnects (no-disconnect e c.1.1.1.1.1.0)) (listener (the_switch p w) e.prov addr fd) refl))
  connect-call fd addr opt udata amax omax umax (go.More n) = confirm-call p w z s fd amax omax umax

  sndudata-call : (fd : ℕ) (address options : List ℕ) (parts : ℕ) (bytes : List ℕ) → step_of p w (Datagrams.send_plan p w fd address options parts bytes) ≡ Some s → SoundLinks p s.world
  sndudata-call fd address options parts bytes = on-open p w fd (λ e. Datagrams.send_from p w fd address options parts bytes e (bound (the_switch p w) e.prov address)) s z (λ e o. by e (bound (the_switch p w) e.prov address) (option_and_then (endpoint p w) (bound (the_switch p w) e.prov address)))
    where
      by : (e : Endpoint) (o : Option ℕ) (there : Option Endpoint) → Kept p w (Datagrams.send_to p fd address options parts bytes e o there)
      by e None there = resting p w _ z (rests_at fd _ (λ e. refl), tt) (rests_at fd _ (λ e. refl), tt) (rests_at fd _ (λ e. refl), tt)
      by e (Some y) there = resting p w _ z (rests_at y _ (λ e. refl), (rests_at fd _ (λ e. refl), tt)) (rests_at fd _ (λ e. refl), tt) (rests_at y _ (λ e. refl), (rests_at fd _ (λ e. refl), tt))

  rcvudata-call : (fd sizes max amax omax : ℕ) → step_of p w (Datagrams.receive_plan p w fd sizes max amax omax) ≡ Some s → SoundLinks p s.world
  rcvudata-call fd sizes max amax omax = on-open p w fd (Datagrams.receive_from fd sizes max amax omax) s z (λ e o. resting p w (Datagrams.receive_from fd sizes max amax omax e) z (rests_at fd _ (datagram-unseen max), tt) tt (rests_at fd _ (λ e. refl), tt))

  still-call : (fd : ℕ) (f : Endpoint → Plan) → step_of p w (if_open fd (endpoint p w fd) f) ≡ Some s → ((e : Endpoint) → AllRest (f e).changes × AllRest (f e).marks × AllRest (f e).lost) → SoundLinks p s.world
  still-call fd f h k = on-open p w fd f s z (λ e o. (let q = k e in resting p w (f e) z q.0 q.1 q.2)) h

pub sound-step : (p : Providers) (w : World) (c : Call) (g : Go) (s : Step) → SoundLinks p w → BoundToOpen p w → step p w c g ≡ Some s → SoundLinks p s.world
unfolding step plan
sound-step p w (call.TOpen prov nonblock) g s z b h = open-call p w z s prov nonblock h
sound-step p w (call.TClose fd) g s z b h = close-call p w z s fd.0 h
sound-step p w (call.TBind fd addr qlen amax) g s z b h = bind-call p w z s fd.0 addr qlen amax h
sound-step p w (call.TUnbind fd) g s z b h = unbind-call p w z s fd.0 h
sound-step p w (call.TConnect fd addr opt udata amax omax umax) g s z b h = connect-call p w z b s fd.0 addr opt udata amax omax umax g h
sound-step p w (call.TRcvConnect fd amax omax umax) g s z b h = confirm-call p w z s fd.0 amax omax umax h
sound-step p w (call.TListen fd amax omax umax) g s z b h = listen-call p w z s fd.0 amax omax umax h
sound-step p w (call.TAccept fd resfd seq opt udata) g s z b h = accept-call p w z s fd.0 resfd.0 seq.0 opt udata h
sound-step p w (call.TSnd fd bytes flags) g s z b h = send-call p w z s fd.0 1 bytes flags g h
sound-step p w (call.TSndV fd parts flags) g s z b h = send-call p w z s fd.0 (length parts) (concat parts) flags g h
sound-step p w (call.TRcv fd max) g s z b h = rcv-call p w z s fd.0 1 max h
sound-step p w (call.TRcvV fd sizes) g s z b h = rcv-call p w z s fd.0 (length sizes) (sum sizes) h
sound-step p w (call.TSndDis fd seq udata) g s z b h = snddis-call p w z s fd.0 seq.0 udata h
sound-step p w (call.TRcvDis fd umax) g s z b h = rcvdis-call p w z s fd.0 umax h
sound-step p w (call.TSndRel fd) g s z b h = sndrel-call p w z s fd.0 [] h
sound-step p w (call.TRcvRel fd) g s z b h = rcvrel-call p w z s fd.0 0 _ h
sound-step p w (call.TSndRelData fd udata) g s z b h = sndrel-call p w z s fd.0 udata h
sound-step p w (call.TRcvRelData fd umax) g s z b h = rcvrel-call p w z s fd.0 umax _ h
sound-step p w (call.TSndUData fd addr opt bytes) g s z b h = sndudata-call p w z b s fd.0 addr opt 1 bytes h
sound-step p w (call.TSndVUData fd addr opt parts) g s z b h = sndudata-call p w z b s fd.0 addr opt (length parts) (concat parts) h
sound-step p w (call.TRcvUData fd max amax omax) g s z b h = rcvudata-call p w z b s fd.0 1 max amax omax h
sound-step p w (call.TRcvVUData fd sizes amax omax) g s z b h = rcvudata-call p w z b s fd.0 (length sizes) (sum sizes) amax omax h
sound-step p w (call.TRcvUDErr fd amax omax) g s z b h = still-call p w z b s fd.0 _ h (λ e. ((rests_at fd.0 _ (λ e. refl), tt), tt, (rests_at fd.0 _ (λ e. refl), tt)))
sound-step p w (call.TLookAt fd) g s z b h = still-call p w z b s fd.0 (λ e. Show.look_in fd.0 e (around p w fd.0 e)) h (λ e. ((rests_at fd.0 _ (shown-unseen (Show.first_pending (around p w fd.0 e) e)), tt), tt, (rests_at fd.0 _ (shown-unseen (Show.first_pending (around p w fd.0 e) e)), tt)))
sound-step p w (call.TGetState fd) g s z b h = still-call p w z b s fd.0 _ h (λ e. (tt, tt, tt))
sound-step p w (call.TSync fd) g s z b h = still-call p w z b s fd.0 _ h (λ e. (tt, tt, tt))
sound-step p w (call.TGetInfo fd) g s z b h = still-call p w z b s fd.0 _ h (λ e. (tt, tt, tt))
sound-step p w (call.TGetProtAddr fd amax pmax) g s z b h = still-call p w z b s fd.0 _ h (λ e. (tt, tt, tt))
sound-step p w (call.TOptMgmt fd action opt omax) g s z b h = still-call p w z b s fd.0 (λ e. Show.option_plan_of fd.0 (Show.negotiated p action opt e) action opt omax e) h (λ e. ((rests_at fd.0 _ (λ e. refl), tt), tt, (rests_at fd.0 _ (λ e. refl), tt)))
sound-step p w (call.SetMode fd nonblock) g s z b h = still-call p w z b s fd.0 _ h (λ e. ((rests_at fd.0 _ (λ e. refl), tt), tt, (rests_at fd.0 _ (λ e. refl), tt)))

-- The bindings.
prov-choice : (b : Bool) (x y e : Endpoint) → x.prov ≡ e.prov → y.prov ≡ e.prov → (cond b x y).prov ≡ e.prov
prov-choice true x y e h k = h
prov-choice false x y e h k = k

mark_flow-prov : (expedited on : Bool) → KeepsProv (Send.mark_flow expedited on)
mark_flow-prov true on e = refl
mark_flow-prov false on e = refl

sent-prov : (p : Providers) (expedited ends : Bool) (now : ℕ) → KeepsProv (Send.sent p expedited ends now)
sent-prov p true ends now e = refl
sent-prov p false ends now e = refl

symbols-prov : (expedited : Bool) (symbols : List ℕ) → KeepsProv (Send.received expedited symbols)
symbols-prov true l e = refl
symbols-prov false l e = refl

named-prov : (fd : ℕ) (f : Endpoint → Endpoint) → KeepsProv f → KeepsProv (if_names fd f)
named-prov fd f h e = prov-choice (names fd e.peer) (f e) e e (h e) refl

taken_back-prov : (n reason : ℕ) (udata : List ℕ) → KeepsProv (taken_back n reason udata)
taken_back-prov n reason udata e = prov-choice (is_some (find_number n e.pending)) (record e { pending = without_number n e.pending }) (cond (is_some (find_number n e.outstanding)) (disconnected reason n udata e) e) e refl
    (prov-choice (is_some (find_number n e.outstanding)) (disconnected reason n udata e) e e refl refl)

given_up-prov : (fd n : ℕ) → KeepsProv (Close.given_up fd n)
given_up-prov fd n e = prov-choice (is_target fd n e.target) (record (disconnected 5 0 [] e) { target = None }) e e refl refl

read-prov : (p : Providers) (max : ℕ) → KeepsProv (Receive.received p max)
read-prov p max e = prov-choice (some_wait e.expedited) (record e { expedited = rest max e.expedited; mid_expedited = Receive.goes_on p true max e }) (record e { normal = rest max e.normal }) e refl refl

rcvdis-prov : KeepsProv Disconnect.received
rcvdis-prov e = prov-choice (Disconnect.is_asked e) (record (Listen.taken_out (Disconnect.oldest e).number e) { disconnects = drop 1 e.disconnects }) (Disconnect.idle e) e refl refl

after_send-prov : KeepsProv Release.after_send
after_send-prov e = prov-choice (is_state (T_DATAXFER ∷ []) e) (record e { state = T_OUTREL }) (Disconnect.idle e) e refl refl

after_receive-prov : KeepsProv Release.after_receive
after_receive-prov e = prov-choice (is_state (T_DATAXFER ∷ []) e) (record e { release = None; state = T_INREL }) (Disconnect.idle e) e refl refl

append-tidy : (p : Providers) (cs ds : List Change) → AllTidy p cs → AllTidy p ds → AllTidy p (cs ++ ds)
append-tidy p [] ds h k = k
append-tidy p (c ∷ cs) ds h k = (h.0, append-tidy p cs ds h.1 k)

linked-tidy : (p : Providers) (fd : ℕ) (o : Option ℕ) (f : Endpoint → Endpoint) → KeepsProv f → AllTidy p (at_linked fd o f)
linked-tidy p fd None f h = tt
linked-tidy p fd (Some y) f h = (tidy_at y (if_names fd f) (named-prov fd f h), tt)

take_back-tidy : (p : Providers) (o : Option Target) (reason : ℕ) (udata : List ℕ) → AllTidy p (take_back o reason udata)
take_back-tidy p None reason udata = tt
take_back-tidy p (Some t) reason udata = (tidy_at t.listener _ (taken_back-prov t.number reason udata), tt)

break-tidy : (p : Providers) (fd : ℕ) (e : Endpoint) (reason : ℕ) (udata : List ℕ) → AllTidy p (break fd e reason udata)
break-tidy p fd e reason udata = append-tidy p (at_linked fd e.peer (broken reason udata)) (take_back e.target reason udata) (linked-tidy p fd e.peer (broken reason udata) (λ e. refl)) (take_back-tidy p e.target reason udata)

callers-tidy : (p : Providers) (fd : ℕ) (is : List Indication) → AllTidy p (map (Close.give_up_caller fd) is)
callers-tidy p fd [] = tt
callers-tidy p fd (i ∷ is) = (tidy_at i.caller _ (given_up-prov fd i.number), callers-tidy p fd is)

abbrev PlanTidy : Providers → Plan → Type 0
PlanTidy p x = AllTidy p x.changes × AllTidy p x.marks × AllTidy p x.lost

one-own : (p : Providers) (fd : ℕ) (f : Endpoint → Endpoint) → KeepsProv f → AllTidy p (at_endpoint fd f ∷ []) × AllTidy p [] × AllTidy p (at_endpoint fd f ∷ [])
one-own p fd f h = ((tidy_at fd f h, tt), tt, (tidy_at fd f h, tt))

twice : (p : Providers) (cs : List Change) → AllTidy p cs → AllTidy p cs × AllTidy p [] × AllTidy p cs
twice p cs h = (h, tt, h)

tidy-step : (p : Providers) (w : World) (x : Plan) (s : Step) → PlanTidy p x → BoundToOpen p w → step_of p w x ≡ Some s → BoundToOpen p s.world
tidy-step p w x s t b h = subst (λ o. BoundToOpen p (left_by w o)) h (step-any (BoundToOpen p) p w x b (tidied p x.changes t.0 w b) (tidied p x.marks t.1 w b) (tidied p x.lost t.2 w b))

open-tidy : (p : Providers) (w : World) (fd : ℕ) (f : Endpoint → Plan) (s : Step) → ((e : Endpoint) → PlanTidy p (f e)) → BoundToOpen p w → step_of p w (if_open fd (endpoint p w fd) f) ≡ Some s → BoundToOpen p s.world
open-tidy p w fd f s k b = go (endpoint p w fd)
  where
    go : (o : Option Endpoint) → step_of p w (if_open fd o f) ≡ Some s → BoundToOpen p s.world
    go None h = tidy-step p w (if_open fd None f) s (tt, tt, tt) b h
    go (Some e) h = tidy-step p w (f e) s (k e) b h

-- where all three lists of changes are known to keep the bindings
open-bound : (p : Providers) (w : World) (fd : ℕ) (f : Endpoint → Plan) (s : Step) → ((e : Endpoint) → endpoint p w fd ≡ Some e → BoundToOpen p (changed p w (f e).changes) × BoundToOpen p (changed p w (f e).marks) × BoundToOpen p (changed p w (f e).lost)) → BoundToOpen p w → step_of p w (if_open fd (endpoint p w fd) f) ≡ Some s → BoundToOpen p s.world
open-bound p w fd f s k b = go (endpoint p w fd) refl
  where
    go : (o : Option Endpoint) → endpoint p w fd ≡ o → step_of p w (if_open fd o f) ≡ Some s → BoundToOpen p s.world
    go None i h = tidy-step p w (if_open fd None f) s (tt, tt, tt) b h
    go (Some e) i h = (let q = k e i in subst (λ o. BoundToOpen p (left_by w o)) h (step-any (BoundToOpen p) p w (f e) b q.0 q.1 q.2))

module _ (p : Providers) (w : World) (b : BoundToOpen p w) (s : Step) where
  send-tidy : (fd parts : ℕ) (bytes : List ℕ) (flags taken : ℕ) (e : Endpoint) (peer : Option Endpoint) → PlanTidy p (Send.plan_to p fd parts bytes flags taken e peer)
  send-tidy fd parts bytes flags taken e peer =
      let h = append-tidy p (at_linked fd e.peer _) _ (linked-tidy p fd e.peer _ (symbols-prov (is_expedited flags) _)) (tidy_at fd _ (sent-prov p (is_expedited flags) (Send.closes p e flags (length bytes - taken) (Send.taken_now peer e (is_expedited flags) (length bytes - taken))) (Send.taken_now peer e (is_expedited flags) (length bytes - taken))), tt) in
      (h, (tidy_at fd _ (mark_flow-prov (is_expedited flags) true), tt), h)

  send-bound : (fd parts : ℕ) (bytes : List ℕ) (flags : ℕ) (g : Go) → step_of p w (send p w fd parts bytes flags g) ≡ Some s → BoundToOpen p s.world
  send-bound fd parts bytes flags go.Begin h = open-tidy p w fd (λ e. Send.plan_to p fd parts bytes flags 0 e (linked p w fd e)) s (λ e. send-tidy fd parts bytes flags 0 e (linked p w fd e)) b h
  send-bound fd parts bytes flags (go.More n) h = later (endpoint p w fd) h
    where
      later : (o : Option Endpoint) → step_of p w (later_plan n (if_open fd o (λ e. Send.plan_to p fd parts bytes flags n e (linked p w fd e)))) ≡ Some s → BoundToOpen p s.world
      later None h = tidy-step p w (later_plan n (if_open fd None (λ e. Send.plan_to p fd parts bytes flags n e (linked p w fd e)))) s (tt, tt, tt) b h
      later (Some e) h = (let t = send-tidy fd parts bytes flags n e (linked p w fd e) in tidy-step p w (later_plan n (Send.plan_to p fd parts bytes flags n e (linked p w fd e))) s (t.0, tt, t.2) b h)

  reach-tidy : (fd l : ℕ) (options udata : List ℕ) (e le : Endpoint) → AllTidy p (Connect.reach fd l options udata e le)
  reach-tidy fd l options udata e le = go (not (Connect.is_listening le)) (Connect.is_full le)
    where
      go : (x y : Bool) → AllTidy p (cond x (at_endpoint fd (Connect.turned_away 1) ∷ []) (cond y (at_endpoint fd (Connect.turned_away 2) ∷ []) (at_endpoint l (Connect.asked fd (address_of e) options udata) ∷ at_endpoint fd (Connect.asking l (le.last_number + 1)) ∷ [])))
      go true y = (tidy_at fd _ (λ e. refl), tt)
      go false true = (tidy_at fd _ (λ e. refl), tt)
      go false false = (tidy_at l _ (λ e. refl), (tidy_at fd _ (λ e. refl), tt))

  request-tidy : (fd : ℕ) (options udata : List ℕ) (e : Endpoint) (o : Option Connect.Found) → AllTidy p (Connect.request fd options udata e o)
  request-tidy fd options udata e None = (tidy_at fd _ (λ e. refl), tt)
  request-tidy fd options udata e (Some l) = reach-tidy fd l.fd options udata e l.endpoint

  connect-bound : (fd : ℕ) (addr opt udata : List ℕ) (amax omax umax : ℕ) (g : Go) → step_of p w (connect p w fd addr opt udata amax omax umax g) ≡ Some s → BoundToOpen p s.world
  connect-bound fd addr opt udata amax omax umax go.Begin = open-tidy p w fd (λ e. Connect.plan_to fd addr opt udata e (Connect.found p w fd addr e)) s (λ e. twice p (Connect.request fd opt udata e (Connect.found p w fd addr e)) (request-tidy fd opt udata e (Connect.found p w fd addr e))) b
  connect-bound fd addr opt udata amax omax umax (go.More n) = open-tidy p w fd _ s (λ e. one-own p fd Connect.confirmed (λ e. refl)) b

  open-bindings : (prov : Prov) (nonblock : Bool) → step_of p w (Open.plan p w prov nonblock) ≡ Some s → BoundToOpen p s.world
  open-bindings prov nonblock h = go (opening_place p (the_switch p w) prov) h
    where
      go : (o : Option ℕ) → step_of p w (Open.plan_where p (the_switch p w) prov nonblock o) ≡ Some s → BoundToOpen p s.world
      go None h = tidy-step p w (Open.plan_where p (the_switch p w) prov nonblock None) s (tt, tt, tt) b h
      go (Some n) h = tidy-step p w (Open.plan_where p (the_switch p w) prov nonblock (Some n)) s ((tidy_opens n _, (tidy_switch (mark_open n) (λ w. marks p n w), tt)), tt, tt) b h

  bind-bound : (fd : ℕ) (addr : List ℕ) (qlen amax : ℕ) → step_of p w (Bind.plan p w fd addr qlen amax) ≡ Some s → BoundToOpen p s.world
  bind-bound fd addr qlen amax = open-bound p w fd (Bind.plan_in (the_switch p w) fd addr qlen amax) s (λ e o. (took e o, b, took e o)) b
    where
      took : (e : Endpoint) → endpoint p w fd ≡ Some e → BoundToOpen p (changed p w (Bind.changes fd e.prov (chosen (the_switch p w) e.prov addr) (Bind.queue e.prov qlen)))
      took e o = switched p (changed p w (at_endpoint fd (Bind.bound_to (chosen (the_switch p w) e.prov addr) (Bind.queue e.prov qlen)) ∷ [])) _
          (gives p (changed p w (at_endpoint fd (Bind.bound_to (chosen (the_switch p w) e.prov addr) (Bind.queue e.prov qlen)) ∷ [])) e.prov (chosen (the_switch p w) e.prov addr) fd (nat_lt 0 (Bind.queue e.prov qlen))
          (keeps p (HasProv e.prov) fd (at_endpoint fd (Bind.bound_to (chosen (the_switch p w) e.prov addr) (Bind.queue e.prov qlen)) ∷ []) ((λ j y q. q), tt) w (subst (HasProv e.prov) (sym o) refl)))
          (tidied p (at_endpoint fd (Bind.bound_to (chosen (the_switch p w) e.prov addr) (Bind.queue e.prov qlen)) ∷ []) (tidy_at fd _ (λ e. refl), tt) w b)

  accept-bound : (fd resfd number : ℕ) (options udata : List ℕ) → step_of p w (Listen.accept_plan p w fd resfd number options udata) ≡ Some s → BoundToOpen p s.world
  accept-bound fd resfd number options udata = open-bound p w fd (λ e. Listen.accept_with p fd resfd number options udata e (endpoint p w resfd)) s (λ e o. at_resfd e (endpoint p w resfd) refl) b
    where
      took : (e r : Endpoint) (i : Indication) → endpoint p w resfd ≡ Some r → BoundToOpen p (changed p w (Listen.accept_changes fd resfd i options udata e r))
      took e r i o = subst (BoundToOpen p) (sym (changed-append p first (Listen.bind_like e resfd r) (Listen.linking resfd i (address_of (Listen.bound_like e r)) options udata)))
          (tidied p (Listen.linking resfd i (address_of (Listen.bound_like e r)) options udata) (tidy_at resfd _ (λ e. refl), (tidy_at i.caller _ (λ e. refl), tt)) (changed p first (Listen.bind_like e resfd r)) (by (is_state (T_UNBND ∷ []) r)))
        where
          first : World
          first = changed p w (at_endpoint fd (Listen.taken_out i.number) ∷ [])

          first-bound : BoundToOpen p first
          first-bound = tidied p (at_endpoint fd (Listen.taken_out i.number) ∷ []) (tidy_at fd _ (λ e. refl), tt) w b

          there : HasProv r.prov (endpoint p first resfd)
          there = keeps p (HasProv r.prov) resfd (at_endpoint fd (Listen.taken_out i.number) ∷ []) ((λ j y q. q), tt) w (subst (HasProv r.prov) (sym o) refl)

          by : (d : Bool) → BoundToOpen p (changed p first (cond d (at_endpoint resfd (Listen.bound_like e) ∷ at_switch (give_address r.prov (address_of e) resfd false) ∷ []) []))
          by false = first-bound
          by true = switched p (changed p first (at_endpoint resfd (Listen.bound_like e) ∷ [])) (give_address r.prov (address_of e) resfd false)
              (gives p (changed p first (at_endpoint resfd (Listen.bound_like e) ∷ [])) r.prov (address_of e) resfd false (keeps p (HasProv r.prov) resfd (at_endpoint resfd (Listen.bound_like e) ∷ []) ((λ j y q. ap (λ v. v.prov) (bound_like-unseen e y) ∙ q), tt) first there))
              (tidied p (at_endpoint resfd (Listen.bound_like e) ∷ []) (tidy_at resfd _ (λ y. ap (λ v. v.prov) (bound_like-unseen e y)), tt) first first-bound)

      found : (e r : Endpoint) → endpoint p w resfd ≡ Some r → (o : Option Indication) → BoundToOpen p (changed p w (Listen.accept_found fd resfd o options udata e r))
      found e r a None = b
      found e r a (Some i) = took e r i a

      at_resfd : (e : Endpoint) → (o : Option Endpoint) → endpoint p w resfd ≡ o → BoundToOpen p (changed p w (Listen.accept_with p fd resfd number options udata e o).changes) × BoundToOpen p (changed p w (Listen.accept_with p fd resfd number options udata e o).marks) × BoundToOpen p (changed p w (Listen.accept_with p fd resfd number options udata e o).lost)
      at_resfd e None a = (b, b, b)
      at_resfd e (Some r) a = (let q = found e r a (find_number number e.outstanding) in (q, b, q))

  close-bound : (fd : ℕ) → step_of p w (Close.plan p w fd) ≡ Some s → BoundToOpen p s.world
  close-bound fd = open-bound p w fd _ s (λ e o. (let q = took e in (q, b, q))) b
    where
      took : (e : Endpoint) → BoundToOpen p (changed p w (Close.changes p fd e))
      took e = subst (BoundToOpen p) (sym (changed-append p w (break fd e 5 [] ++ map (Close.give_up_caller fd) (e.pending ++ e.outstanding)) (Close.closing p fd)))
          (closed-bound p (changed p w (break fd e 5 [] ++ map (Close.give_up_caller fd) (e.pending ++ e.outstanding))) fd (Close.forget p fd) (λ s. refl)
          (tidied p (break fd e 5 [] ++ map (Close.give_up_caller fd) (e.pending ++ e.outstanding)) (append-tidy p (break fd e 5 []) (map (Close.give_up_caller fd) (e.pending ++ e.outstanding)) (break-tidy p fd e 5 []) (callers-tidy p fd (e.pending ++ e.outstanding))) w b))

  snddis-tidy : (fd number : ℕ) (udata : List ℕ) (e : Endpoint) → AllTidy p (Disconnect.send_changes fd number udata e)
  snddis-tidy fd number udata e = go (Disconnect.is_asked e) (find_number number e.outstanding)
    where
      go : (x : Bool) (o : Option Indication) → AllTidy p (cond x (Disconnect.reject fd udata o) (break fd e 4 udata ++ at_endpoint fd Disconnect.idle ∷ []))
      go true None = tt
      go true (Some i) = (tidy_at fd _ (λ e. refl), (tidy_at i.caller _ (λ e. refl), tt))
      go false o = append-tidy p (break fd e 4 udata) (at_endpoint fd Disconnect.idle ∷ []) (break-tidy p fd e 4 udata) (tidy_at fd Disconnect.idle (λ e. refl), tt)

  sndrel-bound : (fd : ℕ) (udata : List ℕ) → step_of p w (Release.send_plan p w fd udata) ≡ Some s → BoundToOpen p s.world
  sndrel-bound fd udata = open-tidy p w fd _ s (λ e. twice p (at_linked fd e.peer (Release.released udata) ++ at_endpoint fd Release.after_send ∷ []) (append-tidy p (at_linked fd e.peer (Release.released udata)) (at_endpoint fd Release.after_send ∷ []) (linked-tidy p fd e.peer (Release.released udata) (λ e. refl)) (tidy_at fd _ after_send-prov, tt))) b

  sndudata-tidy : (fd : ℕ) (address options : List ℕ) (parts : ℕ) (bytes : List ℕ) (e : Endpoint) (o : Option ℕ) (there : Option Endpoint) → PlanTidy p (Datagrams.send_to p fd address options parts bytes e o there)
  sndudata-tidy fd address options parts bytes e None there = ((tidy_at fd _ (λ e. refl), tt), (tidy_at fd _ (λ e. refl), tt), (tidy_at fd _ (λ e. refl), tt))
  sndudata-tidy fd address options parts bytes e (Some y) there = ((tidy_at y _ (λ e. refl), (tidy_at fd _ (λ e. refl), tt)), (tidy_at fd _ (λ e. refl), tt), (tidy_at y _ (λ e. refl), (tidy_at fd _ (λ e. refl), tt)))

  sndudata-bound : (fd : ℕ) (address options : List ℕ) (parts : ℕ) (bytes : List ℕ) → step_of p w (Datagrams.send_plan p w fd address options parts bytes) ≡ Some s → BoundToOpen p s.world
  sndudata-bound fd address options parts bytes = open-tidy p w fd (λ e. Datagrams.send_from p w fd address options parts bytes e (bound (the_switch p w) e.prov address)) s (λ e. sndudata-tidy fd address options parts bytes e (bound (the_switch p w) e.prov address) (option_and_then (endpoint p w) (bound (the_switch p w) e.prov address))) b

  rcvudata-bound : (fd sizes max amax omax : ℕ) → step_of p w (Datagrams.receive_plan p w fd sizes max amax omax) ≡ Some s → BoundToOpen p s.world
  rcvudata-bound fd sizes max amax omax = open-tidy p w fd (Datagrams.receive_from fd sizes max amax omax) s (λ e. ((tidy_at fd _ (λ y. ap (λ v. v.prov) (datagram-unseen max y)), tt), tt, (tidy_at fd _ (λ e. refl), tt))) b

pub bound-step : (p : Providers) (w : World) (c : Call) (g : Go) (s : Step) → BoundToOpen p w → step p w c g ≡ Some s → BoundToOpen p s.world
unfolding step plan
bound-step p w (call.TOpen prov nonblock) g s b h = open-bindings p w b s prov nonblock h
bound-step p w (call.TClose fd) g s b h = close-bound p w b s fd.0 h
bound-step p w (call.TBind fd addr qlen amax) g s b h = bind-bound p w b s fd.0 addr qlen amax h
bound-step p w (call.TUnbind fd) g s b h = open-tidy p w fd.0 _ s (λ e. twice p (at_endpoint fd.0 Bind.unbound ∷ at_switch (give_up_address fd.0) ∷ []) (tidy_at fd.0 _ (λ e. refl), (tidy_switch (give_up_address fd.0) (λ w. gives-up p fd.0 w), tt))) b h
bound-step p w (call.TConnect fd addr opt udata amax omax umax) g s b h = connect-bound p w b s fd.0 addr opt udata amax omax umax g h
bound-step p w (call.TRcvConnect fd amax omax umax) g s b h = open-tidy p w fd.0 _ s (λ e. one-own p fd.0 Connect.confirmed (λ e. refl)) b h
bound-step p w (call.TListen fd amax omax umax) g s b h = open-tidy p w fd.0 _ s (λ e. one-own p fd.0 Listen.listened (λ e. refl)) b h
bound-step p w (call.TAccept fd resfd seq opt udata) g s b h = accept-bound p w b s fd.0 resfd.0 seq.0 opt udata h
bound-step p w (call.TSnd fd bytes flags) g s b h = send-bound p w b s fd.0 1 bytes flags g h
bound-step p w (call.TSndV fd parts flags) g s b h = send-bound p w b s fd.0 (length parts) (concat parts) flags g h
bound-step p w (call.TRcv fd max) g s b h = open-tidy p w fd.0 _ s (λ e. one-own p fd.0 (Receive.received p max) (read-prov p max)) b h
bound-step p w (call.TRcvV fd sizes) g s b h = open-tidy p w fd.0 _ s (λ e. one-own p fd.0 (Receive.received p (sum sizes)) (read-prov p (sum sizes))) b h
bound-step p w (call.TSndDis fd seq udata) g s b h = open-tidy p w fd.0 _ s (λ e. twice p (Disconnect.send_changes fd.0 seq.0 udata e) (snddis-tidy p w b s fd.0 seq.0 udata e)) b h
bound-step p w (call.TRcvDis fd umax) g s b h = open-tidy p w fd.0 _ s (λ e. one-own p fd.0 Disconnect.received rcvdis-prov) b h
bound-step p w (call.TSndRel fd) g s b h = sndrel-bound p w b s fd.0 [] h
bound-step p w (call.TRcvRel fd) g s b h = open-tidy p w fd.0 _ s (λ e. one-own p fd.0 Release.after_receive after_receive-prov) b h
bound-step p w (call.TSndRelData fd udata) g s b h = sndrel-bound p w b s fd.0 udata h
bound-step p w (call.TRcvRelData fd umax) g s b h = open-tidy p w fd.0 _ s (λ e. one-own p fd.0 Release.after_receive after_receive-prov) b h
bound-step p w (call.TSndUData fd addr opt bytes) g s b h = sndudata-bound p w b s fd.0 addr opt 1 bytes h
bound-step p w (call.TSndVUData fd addr opt parts) g s b h = sndudata-bound p w b s fd.0 addr opt (length parts) (concat parts) h
bound-step p w (call.TRcvUData fd max amax omax) g s b h = rcvudata-bound p w b s fd.0 1 max amax omax h
bound-step p w (call.TRcvVUData fd sizes amax omax) g s b h = rcvudata-bound p w b s fd.0 (length sizes) (sum sizes) amax omax h
bound-step p w (call.TRcvUDErr fd amax omax) g s b h = open-tidy p w fd.0 _ s (λ e. one-own p fd.0 _ (λ e. refl)) b h
bound-step p w (call.TLookAt fd) g s b h = open-tidy p w fd.0 (λ e. Show.look_in fd.0 e (around p w fd.0 e)) s (λ e. one-own p fd.0 _ (λ y. ap (λ v. v.prov) (shown-unseen (Show.first_pending (around p w fd.0 e) e) y))) b h
bound-step p w (call.TGetState fd) g s b h = open-tidy p w fd.0 _ s (λ e. (tt, tt, tt)) b h
bound-step p w (call.TSync fd) g s b h = open-tidy p w fd.0 _ s (λ e. (tt, tt, tt)) b h
bound-step p w (call.TGetInfo fd) g s b h = open-tidy p w fd.0 _ s (λ e. (tt, tt, tt)) b h
bound-step p w (call.TGetProtAddr fd amax pmax) g s b h = open-tidy p w fd.0 _ s (λ e. (tt, tt, tt)) b h
bound-step p w (call.TOptMgmt fd action opt omax) g s b h = open-tidy p w fd.0 (λ e. Show.option_plan_of fd.0 (Show.negotiated p action opt e) action opt omax e) s (λ e. one-own p fd.0 _ (λ e. refl)) b h
bound-step p w (call.SetMode fd nonblock) g s b h = open-tidy p w fd.0 _ s (λ e. one-own p fd.0 _ (λ e. refl)) b h
