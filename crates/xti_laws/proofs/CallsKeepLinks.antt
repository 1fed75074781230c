-- Each call keeps the facts across cells.
use Rattle.std.proofs.Common.{ℕ, Bool, true, false, List, [], ◌∷◌, ◌++◌, ◌-◌, ◌≡◌, inr, refl, sym, ap, ◌∙◌, subst, cond, eqb, map, drop, length, slice_get, append_assoc, Option, Some, None, is_some}
use Rattle.std.proofs.lemmas.Bool.{false≢true, eqb-true}
use Rattle.std.specs.List.{list_any}
use Rattle.xti_base.specs.Kinds.{same_state}
use Rattle.xti_base.specs.declared.kinds.Prov.{Prov}
use Rattle.xti_base.specs.declared.kinds.State.{State}
use Rattle.xti_base.specs.declared.kinds.State.TheVariants.{T_UNBND, T_IDLE, T_INCON, T_OUTCON, T_DATAXFER, T_OUTREL, T_INREL}
use Rattle.xti_base.specs.declared.kinds.Event.TheVariants.{T_DISCONNECT}
use Rattle.xti_model.specs.declared.entry.Go.{Go}
use Rattle.xti_model.specs.declared.entry.Go.TheVariants as go
use Rattle.xti_model.specs.declared.entry.Reply.{Reply}
use Rattle.xti_model.specs.declared.profile.Providers.{Providers}
use Rattle.xti_model.specs.Provider.{profile}
use Rattle.xti_model.specs.Endpoint.{Endpoint, Indication, Disconnect, Target, find_number}
use Rattle.xti_model.specs.World.{World, at_endpoint, changed, endpoint, the_switch}
use Rattle.xti_model.specs.Switch.{mark_open, opening_place}
use Rattle.xti_model.specs.Links.{linked, at_linked, break, names, if_names}
use Rattle.xti_model.specs.Events.{is_state, some_wait, looked, looks_disconnect, sending, receiving}
use Rattle.xti_model.specs.Arguments.{is_expedited}
use Rattle.xti_model.specs.Plan.{Plan, if_open, later_plan, has_effect}
use Rattle.xti_model.specs.Step.{Step, step_of, send}
use Rattle.xti_model.specs.Calls.Open as Open
use Rattle.xti_model.specs.Calls.Close as Close
use Rattle.xti_model.specs.Calls.Bind as Bind
use Rattle.xti_model.specs.Calls.Connect as Connect
use Rattle.xti_model.specs.Calls.Listen as Listen
use Rattle.xti_model.specs.Calls.Send as Send
use Rattle.xti_model.specs.Calls.Receive as Receive
use Rattle.xti_model.specs.Calls.Disconnect as Disconnect
use Rattle.xti_model.specs.Calls.Release as Release
use Rattle.xti_laws.proofs.ChangedEndpoints.{changed-append}
use Rattle.xti_laws.specs.Requests.{is_connected, disconnects_with, SoundRequests, Stands, request_to, SoundLinksExcept, SoundLinks, nobody}
use Rattle.xti_model.specs.Calls.Disconnect.{is_asked}
use Rattle.xti_laws.proofs.KeptEndpoints.{keeps}
use Rattle.xti_laws.proofs.StepWays.{Way, takes, loses_all, is_refused, is_marked, way, some-is, not-both}
use Rattle.xti_laws.proofs.ClearedRows.{Cleared, cleared, un-not}
use Rattle.xti_laws.proofs.IndicationNumbers.{find-some}
use Rattle.xti_laws.proofs.OneChange.{Alike, one_world, one-other, hush, removes, rests-again, just, switch-sound}
use Rattle.xti_laws.proofs.EndpointUpdates.{Both, good-plain, asks-not, target-none, both-bound, both-unbound, both-confirmed, both-symbols, both-read, both-idle, both-released, both-after_send, both-after_receive}
use Rattle.xti_laws.proofs.ListenerUpdates.{both-listened, both-cut, taken_out-good, out-fewer, out-rest}
use Rattle.xti_laws.proofs.RequestUpdates.{move-stands, rejected-good, none-outstanding}
use Rattle.xti_laws.proofs.SeveralCells.{begins-leaving, Leaving}
use Rattle.xti_laws.proofs.OpeningAndClosing.{all-leave, closes-sound, opens-sound}
use Rattle.xti_laws.proofs.AcceptEnds.{no-disconnects}
use Rattle.xti_laws.proofs.UnseenChanges.{AllRest, rests_at, rest-sound, mark_flow-unseen, sent-unseen, own-hush, linked-sound, Broken, break-sound}

-- What a plan keeps.
pub record Kept (p : Providers) (w : World) (x : Plan) : Type 0 where
  pub changes : Cleared x.rows → SoundLinks p (changed p w x.changes)
  pub marks : SoundLinks p (changed p w x.marks)
  pub lost : Cleared x.rows → SoundLinks p (changed p w x.lost)

pub by-plan : (p : Providers) (w : World) (x : Plan) (s : Step) → SoundLinks p w → Kept p w x → step_of p w x ≡ Some s → SoundLinks p s.world
by-plan p w x s z k h = go (way p w x s h)
  where
    go : Way p w x s → SoundLinks p s.world
    go (takes i j) = subst (λ t. SoundLinks p t.world) j (k.changes (cleared x.rows (ap has_effect i)))
    go (loses_all n i j) = subst (λ t. SoundLinks p t.world) j (k.lost (cleared x.rows (ap has_effect i)))
    go (is_refused r i j) = subst (λ t. SoundLinks p t.world) j z
    go (is_marked r i j) = subst (λ t. SoundLinks p t.world) j k.marks

pub on-open : (p : Providers) (w : World) (fd : ℕ) (f : Endpoint → Plan) (s : Step) → SoundLinks p w → ((e : Endpoint) → endpoint p w fd ≡ Some e → Kept p w (f e)) → step_of p w (if_open fd (endpoint p w fd) f) ≡ Some s → SoundLinks p s.world
on-open p w fd f s z k h = go (endpoint p w fd) refl h
  where
    go : (o : Option Endpoint) → endpoint p w fd ≡ o → step_of p w (if_open fd o f) ≡ Some s → SoundLinks p s.world
    go None i h = by-plan p w (if_open fd None f) s z (record { changes = λ c. z; marks = z; lost = λ c. z }) h
    go (Some e) i h = by-plan p w (f e) s z (k e i) h

-- the same changes whether fields are lost or not, and no marks
pub plain : (p : Providers) (w : World) (x : Plan) → x.marks ≡ [] → x.lost ≡ x.changes → SoundLinks p w → (Cleared x.rows → SoundLinks p (changed p w x.changes)) → Kept p w x
plain p w x m l z k = record { changes = k; marks = subst (λ cs. SoundLinks p (changed p w cs)) (sym m) z; lost = λ c. subst (λ cs. SoundLinks p (changed p w cs)) (sym l) (k c) }

pub resting : (p : Providers) (w : World) (x : Plan) → SoundLinks p w → AllRest x.changes → AllRest x.marks → AllRest x.lost → Kept p w x
resting p w x z a b c = record { changes = λ q. rest-sound p nobody x.changes a w z; marks = rest-sound p nobody x.marks b w z; lost = λ q. rest-sound p nobody x.lost c w z }

own : (p : Providers) (w : World) (fd : ℕ) (f : Endpoint → Endpoint) (e : Endpoint) → SoundLinks p w → endpoint p w fd ≡ Some e → Both f e → SoundLinks p (one_world p w fd f)
own p w fd f e z o b = own-hush p w nobody fd f e z o b

-- where no disconnect is looked at none waits
no-disconnect-here : (e : Endpoint) → is_some (looked looks_disconnect e) ≡ false → e.disconnects ≡ []
no-disconnect-here e h = no-disconnects e.disconnects (go (some_wait e.disconnects) h)
  where
    go : (b : Bool) → is_some (cond b (Some T_DISCONNECT) None) ≡ false → b ≡ false
    go true h = absurd (false≢true (sym h))
    go false h = refl

receiving-connected : (s : State) → list_any (same_state s) receiving ≡ true → (is_connected s ≡ true) × ((s ≡ T_OUTCON) → ⊥)
receiving-connected T_DATAXFER h = (refl, λ j. absurd (false≢true (ap (λ z. list_any (same_state z) (T_OUTCON ∷ [])) j)))
receiving-connected T_OUTREL h = (refl, λ j. absurd (false≢true (ap (λ z. list_any (same_state z) (T_OUTCON ∷ [])) j)))
receiving-connected other h = absurd (false≢true h)

sending-connected : (s : State) → list_any (same_state s) sending ≡ true → (is_connected s ≡ true) × ((s ≡ T_OUTCON) → ⊥)
sending-connected T_DATAXFER h = (refl, λ j. absurd (false≢true (ap (λ z. list_any (same_state z) (T_OUTCON ∷ [])) j)))
sending-connected T_INREL h = (refl, λ j. absurd (false≢true (ap (λ z. list_any (same_state z) (T_OUTCON ∷ [])) j)))
sending-connected other h = absurd (false≢true h)

out-connected : (s : State) → list_any (same_state s) (T_OUTCON ∷ []) ≡ true → is_connected s ≡ true
out-connected T_OUTCON h = refl
out-connected other h = absurd (false≢true h)

module _ (p : Providers) (w : World) (z : SoundLinks p w) (s : Step) where
  pub open-call : (prov : Prov) (nonblock : Bool) → step_of p w (Open.plan p w prov nonblock) ≡ Some s → SoundLinks p s.world
  open-call prov nonblock h = go (opening_place p (the_switch p w) prov) h
    where
      go : (o : Option ℕ) → step_of p w (Open.plan_where p (the_switch p w) prov nonblock o) ≡ Some s → SoundLinks p s.world
      go None h = by-plan p w (Open.plan_where p (the_switch p w) prov nonblock None) s z (record { changes = λ c. z; marks = z; lost = λ c. z }) h
      go (Some n) h = by-plan p w (Open.plan_where p (the_switch p w) prov nonblock (Some n)) s z (record { changes = λ c. switch-sound p _ nobody (mark_open n) (opens-sound p w n (profile p prov) prov nonblock z); marks = z; lost = λ c. z }) h

  pub bind-call : (fd : ℕ) (addr : List ℕ) (qlen amax : ℕ) → step_of p w (Bind.plan p w fd addr qlen amax) ≡ Some s → SoundLinks p s.world
  bind-call fd addr qlen amax = on-open p w fd (Bind.plan_in (the_switch p w) fd addr qlen amax) s z (λ e o. plain p w (Bind.plan_in (the_switch p w) fd addr qlen amax e) refl refl z
      (λ c. switch-sound p _ nobody _ (own p w fd _ e z o (both-bound _ _ e (z.good fd e o) (un-not (is_state (T_UNBND ∷ []) e) c.0)))))

  pub unbind-call : (fd : ℕ) → step_of p w (Bind.unbind_plan p w fd) ≡ Some s → SoundLinks p s.world
  unbind-call fd = on-open p w fd _ s z (λ e o. plain p w _ refl refl z (λ c. switch-sound p _ nobody _ (own p w fd Bind.unbound e z o (both-unbound e (z.good fd e o) (un-not (is_state (T_IDLE ∷ []) e) c.0)))))

  pub confirm-call : (fd amax omax umax : ℕ) → step_of p w (Connect.confirm_plan p w fd amax omax umax) ≡ Some s → SoundLinks p s.world
  confirm-call fd amax omax umax = on-open p w fd _ s z (λ e o. plain p w _ refl refl z (λ c. own p w fd Connect.confirmed e z o (both-confirmed e (z.good fd e o) (out-connected e.state (un-not (is_state (T_OUTCON ∷ []) e) c.1.0)) c.1.1.1.0)))

  pub listen-call : (fd amax omax umax : ℕ) → step_of p w (Listen.listen_plan p w fd amax omax umax) ≡ Some s → SoundLinks p s.world
  listen-call fd amax omax umax = on-open p w fd _ s z (λ e o. plain p w _ refl refl z (λ c. own p w fd Listen.listened e z o (both-listened e (z.good fd e o) (un-not (some_wait e.pending) c.1.1.1.1.1.0) (no-disconnect-here e c.1.1.1.1.0) (un-not (is_state (T_IDLE ∷ T_INCON ∷ []) e) c.1.0))))

  pub rcv-call : (fd sizes max : ℕ) → step_of p w (Receive.plan p w fd sizes max) ≡ Some s → SoundLinks p s.world
  rcv-call fd sizes max = on-open p w fd _ s z (λ e o. plain p w _ refl refl z (λ c. own p w fd (Receive.received p max) e z o (both-read p max e (z.good fd e o) (receiving-connected e.state (un-not (is_state receiving e) c.1.0)).0)))

  pub rcvrel-call : (fd umax : ℕ) (reply : Endpoint → Reply) → step_of p w (Release.taking_plan p w fd umax reply) ≡ Some s → SoundLinks p s.world
  rcvrel-call fd umax reply = on-open p w fd _ s z (λ e o. plain p w _ refl refl z (λ c. (let q = receiving-connected e.state (un-not (is_state receiving e) c.1.0) in own p w fd Release.after_receive e z o (both-after_receive e (z.good fd e o) q.0 (target-none e (z.good fd e o) q.1)))))

  -- the oldest disconnect is received
  rcvdis-both : (e : Endpoint) → SoundRequests e → some_wait e.disconnects ≡ true → Both Disconnect.received e
  rcvdis-both e g h = go e.disconnects refl h
    where
      go : (ds : List Disconnect) → e.disconnects ≡ ds → some_wait ds ≡ true → Both Disconnect.received e
      go [] i h = absurd (false≢true h)
      go (d ∷ ds) i h = by (Disconnect.is_asked e) refl
        where
          same : record (Listen.taken_out (Disconnect.oldest e).number e) { disconnects = drop 1 e.disconnects } ≡ record (Listen.taken_out d.number e) { disconnects = ds }
          same = ap (λ x. record (Listen.taken_out (Disconnect.disconnect_or (slice_get x 0)).number e) { disconnects = drop 1 x }) i

          no_target : e.target ≡ None
          no_target = none e.target refl
            where
              cons-nil : (d ∷ ds) ≡ [] → ⊥
              cons-nil j = cc

              none : (t : Option Target) → e.target ≡ t → t ≡ None
              none None j = refl
              none (Some t) j = absurd (cons-nil (sym i ∙ (g.asking (ap is_some j)).2))

          by : (b : Bool) → Disconnect.is_asked e ≡ b → SoundRequests (cond b (record (Listen.taken_out (Disconnect.oldest e).number e) { disconnects = drop 1 e.disconnects }) (Disconnect.idle e)) × Alike e (cond b (record (Listen.taken_out (Disconnect.oldest e).number e) { disconnects = drop 1 e.disconnects }) (Disconnect.idle e))
          by true j = subst (λ y. SoundRequests y × Alike e y) (sym same) (both-cut e d ds g j i)
          by false j = both-idle e g (g.outstanding j) no_target

  pub rcvdis-call : (fd umax : ℕ) → step_of p w (Disconnect.receive_plan p w fd umax) ≡ Some s → SoundLinks p s.world
  rcvdis-call fd umax = on-open p w fd _ s z (λ e o. plain p w _ refl refl z (λ c. own p w fd Disconnect.received e z o (rcvdis-both e (z.good fd e o) (un-not (some_wait e.disconnects) c.1.1.0))))

  send-changes : (fd : ℕ) (bytes : List ℕ) (flags taken now : ℕ) (e : Endpoint) → SoundLinks p (changed p w (Send.changes p fd bytes flags taken now e))
  send-changes fd bytes flags taken now e = subst (λ y. SoundLinks p y) (sym (changed-append p w (at_linked fd e.peer _) (at_endpoint fd (Send.sent p (is_expedited flags) (Send.closes p e flags (length bytes - taken) now) now) ∷ [])))
      (rest-sound p nobody (at_endpoint fd (Send.sent p (is_expedited flags) (Send.closes p e flags (length bytes - taken) now) now) ∷ []) (rests_at fd _ (sent-unseen p (is_expedited flags) (Send.closes p e flags (length bytes - taken) now) now), tt) _
      (linked-sound p w nobody fd e.peer _ z (λ y g h. both-symbols (is_expedited flags) _ fd y g h)))

  send-kept : (fd parts : ℕ) (bytes : List ℕ) (flags taken : ℕ) (e : Endpoint) (peer : Option Endpoint) → Kept p w (Send.plan_to p fd parts bytes flags taken e peer)
  send-kept fd parts bytes flags taken e peer = record {
    changes = λ c. send-changes fd bytes flags taken (Send.taken_now peer e (is_expedited flags) (length bytes - taken)) e;
    marks = rest-sound p nobody (at_endpoint fd (Send.mark_flow (is_expedited flags) true) ∷ []) (rests_at fd _ (mark_flow-unseen (is_expedited flags) true), tt) w z;
    lost = λ c. send-changes fd bytes flags taken (Send.taken_now peer e (is_expedited flags) (length bytes - taken)) e;
  }

  pub send-call : (fd parts : ℕ) (bytes : List ℕ) (flags : ℕ) (g : Go) → step_of p w (send p w fd parts bytes flags g) ≡ Some s → SoundLinks p s.world
  send-call fd parts bytes flags go.Begin h = on-open p w fd (λ e. Send.plan_to p fd parts bytes flags 0 e (linked p w fd e)) s z (λ e o. send-kept fd parts bytes flags 0 e (linked p w fd e)) h
  send-call fd parts bytes flags (go.More n) h = later (endpoint p w fd) h
    where
      later : (o : Option Endpoint) → step_of p w (later_plan n (if_open fd o (λ e. Send.plan_to p fd parts bytes flags n e (linked p w fd e)))) ≡ Some s → SoundLinks p s.world
      later None h = by-plan p w (later_plan n (if_open fd None (λ e. Send.plan_to p fd parts bytes flags n e (linked p w fd e)))) s z (record { changes = λ c. z; marks = z; lost = λ c. z }) h
      later (Some e) h = (let k : Kept p w (Send.plan_to p fd parts bytes flags n e (linked p w fd e)) = send-kept fd parts bytes flags n e (linked p w fd e) in
          by-plan p w (later_plan n (Send.plan_to p fd parts bytes flags n e (linked p w fd e))) s z (record { changes = λ c. send-changes fd bytes flags n (Send.taken_now (linked p w fd e) e (is_expedited flags) (length bytes - n)) e; marks = z; lost = λ c. send-changes fd bytes flags n (Send.taken_now (linked p w fd e) e (is_expedited flags) (length bytes - n)) e }) h)

  -- the state of an endpoint, though it may be its own peer
  abbrev SendsStill : Option Endpoint → Type 0
  SendsStill None = Unit {0}
  SendsStill (Some y) = is_state sending y ≡ true

  released-still : (udata : List ℕ) (fd y : ℕ) → (e' : Endpoint) → is_state sending e' ≡ true → is_state sending (if_names fd (Release.released udata) e') ≡ true
  released-still udata fd y e' h = go (names fd e'.peer)
    where
      go : (b : Bool) → is_state sending (cond b (Release.released udata e') e') ≡ true
      go true = h
      go false = h

  linked-still : (udata : List ℕ) (fd : ℕ) (o : Option ℕ) → SendsStill (endpoint p w fd) → SendsStill (endpoint p (changed p w (at_linked fd o (Release.released udata))) fd)
  linked-still udata fd None q = q
  linked-still udata fd (Some y) q = keeps p SendsStill fd (at_endpoint y (if_names fd (Release.released udata)) ∷ []) ((λ j e' r. released-still udata fd y e' r), tt) w q

  pub sndrel-call : (fd : ℕ) (udata : List ℕ) → step_of p w (Release.send_plan p w fd udata) ≡ Some s → SoundLinks p s.world
  sndrel-call fd udata = on-open p w fd _ s z (λ e o. plain p w _ refl refl z (λ c. took e o (un-not (is_state sending e) c.1.0)))
    where
      took : (e : Endpoint) → endpoint p w fd ≡ Some e → is_state sending e ≡ true → SoundLinks p (changed p w (at_linked fd e.peer (Release.released udata) ++ at_endpoint fd Release.after_send ∷ []))
      took e o q = subst (λ y. SoundLinks p y) (sym (changed-append p w (at_linked fd e.peer (Release.released udata)) (at_endpoint fd Release.after_send ∷ [])))
          (hush p (changed p w (at_linked fd e.peer (Release.released udata))) fd Release.after_send nobody mid after)
        where
          mid : SoundLinks p (changed p w (at_linked fd e.peer (Release.released udata)))
          mid = linked-sound p w nobody fd e.peer (Release.released udata) z (λ y g h. both-released udata fd y g h)

          still : SendsStill (endpoint p (changed p w (at_linked fd e.peer (Release.released udata))) fd)
          still = linked-still udata fd e.peer (subst SendsStill (sym o) q)

          after : (y : Endpoint) → endpoint p (changed p w (at_linked fd e.peer (Release.released udata))) fd ≡ Some y → Both Release.after_send y
          after y i = (let k = sending-connected y.state (subst SendsStill i still) in both-after_send y (mid.good fd y i) k.0 (target-none y (mid.good fd y i) k.1))

  -- the endpoint broke, and idles
  idles-broken : (fd reason : ℕ) (udata : List ℕ) (e : Endpoint) → endpoint p w fd ≡ Some e → is_asked e ≡ false → SoundLinks p (changed p w (break fd e reason udata ++ at_endpoint fd Disconnect.idle ∷ []))
  idles-broken fd reason udata e o a = subst (λ y. SoundLinks p y) (sym (changed-append p w (break fd e reason udata) (at_endpoint fd Disconnect.idle ∷ [])))
      (let b : Broken p (changed p w (break fd e reason udata)) fd e = break-sound p w fd e reason udata z o in
      let g : SoundRequests b.e = b.sound.good fd b.e b.is_open in
      let n : b.e.outstanding ≡ [] = g.outstanding (ap (λ y. list_any (same_state y) (T_INCON ∷ [])) b.state ∙ a) in
      rests-again p (changed p w (break fd e reason udata)) fd Disconnect.idle b.e b.sound b.is_open
      (good-plain b.e (Disconnect.idle b.e) g refl refl refl n refl (asks-not None refl) (λ q. refl) (λ q. (refl, refl, refl, refl))) refl refl
      (move-stands b.e (Disconnect.idle b.e) refl n) (move-stands (Disconnect.idle b.e) b.e refl n))

  pub close-call : (fd : ℕ) → step_of p w (Close.plan p w fd) ≡ Some s → SoundLinks p s.world
  close-call fd = on-open p w fd _ s z (λ e o. plain p w _ refl refl z (λ c. took e o))
    where
      took : (e : Endpoint) → endpoint p w fd ≡ Some e → SoundLinks p (changed p w (Close.changes p fd e))
      took e o =
          let b : Broken p (changed p w (break fd e 5 [])) fd e = break-sound p w fd e 5 [] z o in
          let l : Leaving p (changed p w (break fd e 5 [])) fd (b.e.pending ++ b.e.outstanding) = begins-leaving p (changed p w (break fd e 5 [])) fd b.e b.sound b.is_open in
          let l' : Leaving p (changed p w (break fd e 5 [])) fd (e.pending ++ e.outstanding) = record { good = l.good; asked = l.asked; asks = l.asks; mine = λ c n y i h q. (let t = b.sound.asks c y (request_to fd n) i h q in b.listed n c (subst (λ v. Stands v n c) (some-is t.e b.e (sym t.is_open ∙ b.is_open)) t.stands)) } in
          let k : SoundLinks p (changed p (changed p w (break fd e 5 [])) (map (Close.give_up_caller fd) (e.pending ++ e.outstanding) ++ Close.closing p fd)) =
          subst (λ y. SoundLinks p y) (sym (changed-append p (changed p w (break fd e 5 [])) (map (Close.give_up_caller fd) (e.pending ++ e.outstanding)) (Close.closing p fd)))
          (switch-sound p _ nobody (Close.forget p fd) (closes-sound p fd _ (all-leave p fd (e.pending ++ e.outstanding) (changed p w (break fd e 5 [])) l'))) in
          subst (λ y. SoundLinks p y) (sym (ap (changed p w) (append_assoc (break fd e 5 []) (map (Close.give_up_caller fd) (e.pending ++ e.outstanding)) (Close.closing p fd)) ∙ changed-append p w (break fd e 5 []) (map (Close.give_up_caller fd) (e.pending ++ e.outstanding) ++ Close.closing p fd))) k

  -- a request of the listener is taken out
  pub out-removes : (fd : ℕ) (e : Endpoint) (i : Indication) → endpoint p w fd ≡ Some e → is_asked e ≡ true → e.disconnects ≡ [] → find_number i.number e.outstanding ≡ Some i → SoundLinksExcept p (one_world p w fd (Listen.taken_out i.number)) (just i.caller)
  out-removes fd e i o a n f = removes p w fd i.number i.caller (Listen.taken_out i.number) e z o (record { i = i; is_caller = refl; is_found = inr (f, ap (disconnects_with i.number) n) })
      (taken_out-good e (z.good fd e o) i.number i f a n) refl refl
      (λ m d t. out-fewer e (z.good fd e o) i.number i f a n m d t) (λ m d q t. out-rest e (z.good fd e o) i.number i f a m d q t)

  pub found-number : (n : ℕ) (is : List Indication) (i : Indication) → find_number n is ≡ Some i → find_number i.number is ≡ Some i
  found-number n is i f = subst (λ m. find_number m is ≡ Some i) (sym (find-some n is i f).1) f

  -- a request is rejected
  reject-took : (fd number : ℕ) (udata : List ℕ) (e : Endpoint) → endpoint p w fd ≡ Some e → is_asked e ≡ true → e.disconnects ≡ [] → (q : Option Indication) → find_number number e.outstanding ≡ q → SoundLinks p (changed p w (Disconnect.reject fd udata q))
  reject-took fd number udata e o a n None f = z
  reject-took fd number udata e o a n (Some i) f =
      let k : SoundLinksExcept p (one_world p w fd (Listen.taken_out i.number)) (just i.caller) = out-removes fd e i o a n (found-number number e.outstanding i f) in
      let b = (z.asked fd number i.caller e o (record { i = i; is_caller = refl; is_found = inr (f, ap (disconnects_with number) n) })).1 in
      let gb : SoundRequests b.e = z.good i.caller b.e b.is_open in
      let t : is_some b.e.target ≡ true = ap is_some b.has_target in
      let there : endpoint p (one_world p w fd (Listen.taken_out i.number)) i.caller ≡ Some b.e = one-other p w fd (Listen.taken_out i.number) i.caller (apart b.e b.is_open gb t) ∙ b.is_open in
      rests-again p (one_world p w fd (Listen.taken_out i.number)) i.caller (Disconnect.rejected udata) b.e k there (rejected-good b.e gb t udata) refl refl
      (move-stands b.e (Disconnect.rejected udata b.e) refl (none-outstanding b.e gb t)) (move-stands (Disconnect.rejected udata b.e) b.e refl (none-outstanding b.e gb t))
    where
      apart : (y : Endpoint) → endpoint p w i.caller ≡ Some y → SoundRequests y → is_some y.target ≡ true → eqb i.caller fd ≡ false
      apart y h g t = go (eqb i.caller fd) refl
        where
          go : (d : Bool) → eqb i.caller fd ≡ d → d ≡ false
          go false j = refl
          go true j = absurd (not-both (is_asked e) (ap (λ v. list_any (same_state v) (T_INCON ∷ [])) (ap (λ v. v.state) (some-is e y (sym o ∙ (ap (endpoint p w) (sym (eqb-true i.caller fd j)) ∙ h))) ∙ (g.asking t).0)) a)

  pub snddis-call : (fd number : ℕ) (udata : List ℕ) → step_of p w (Disconnect.send_plan p w fd number udata) ≡ Some s → SoundLinks p s.world
  snddis-call fd number udata = on-open p w fd _ s z (λ e o. plain p w _ refl refl z (λ c. took e o (no-disconnect-here e c.1.1.1.1.0) (Disconnect.is_asked e) refl))
    where
      took : (e : Endpoint) → endpoint p w fd ≡ Some e → e.disconnects ≡ [] → (b : Bool) → Disconnect.is_asked e ≡ b → SoundLinks p (changed p w (cond b (Disconnect.reject fd udata (find_number number e.outstanding)) (break fd e 4 udata ++ at_endpoint fd Disconnect.idle ∷ [])))
      took e o n true a = reject-took fd number udata e o a n (find_number number e.outstanding) refl
      took e o n false a = idles-broken fd 4 udata e o a
