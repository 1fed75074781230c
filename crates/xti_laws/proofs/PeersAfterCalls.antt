-- Each call leaves every peer there.
use Rattle.std.proofs.Common.{ℕ, Bool, true, false, List, [], ◌∷◌, ◌++◌, ◌+◌, ◌≡◌, inl, inr, refl, sym, ap, ◌∙◌, subst, eqb, cond, not, ◌&&◌, length, sum, map, drop, Option, Some, None, is_some, append_assoc}
use Rattle.std.specs.Prelude.{nat_lt, option_map}
use Rattle.std.specs.List.{concat}
use Rattle.std.proofs.lemmas.Bool.{false≢true, not-false, eq-eqb}
use Rattle.xti_base.specs.declared.kinds.Prov.{Prov}
use Rattle.xti_base.specs.declared.kinds.Event.{Event}
use Rattle.xti_base.specs.declared.kinds.Event.TheVariants as event
use Rattle.xti_base.specs.declared.kinds.State.{State}
use Rattle.xti_base.specs.declared.kinds.State.TheVariants.{T_UNBND, T_OUTCON, T_INCON, T_DATAXFER, T_OUTREL, T_INREL}
use Rattle.xti_model.specs.declared.call.Call.{Call}
use Rattle.xti_model.specs.declared.call.Call.TheVariants as call
use Rattle.xti_model.specs.declared.entry.Go.{Go}
use Rattle.xti_model.specs.declared.entry.Go.TheVariants as go
use Rattle.xti_model.specs.declared.entry.Reply.{Reply}
use Rattle.xti_model.specs.declared.profile.Providers.{Providers}
use Rattle.xti_model.specs.Provider.{profile}
use Rattle.xti_model.specs.Endpoint.{Endpoint, Indication, Target, find_number, without_number, disconnected, is_target, address_of, opened}
use Rattle.xti_model.specs.World.{World, Switch, Change, at_endpoint, at_switch, opens_place, closes_endpoint, changed, endpoint, the_switch}
use Rattle.xti_model.specs.Switch.{bound, chosen, give_address, give_up_address, opening_place, mark_open}
use Rattle.xti_model.specs.Links.{names, if_names, linked, at_linked, take_back, taken_back, break, broken}
use Rattle.xti_model.specs.Symbols.{rest}
use Rattle.xti_model.specs.Events.{is_state, is_here, some_wait, around, sending, receiving}
use Rattle.xti_model.specs.Arguments.{is_expedited}
use Rattle.xti_model.specs.Plan.{Plan, Row, first, if_open, later_plan, has_effect}
use Rattle.xti_model.specs.Step.{plan, step, step_of, send}
use Rattle.xti_model.specs.History.{left_by}
use Rattle.xti_model.specs.Calls.Open as Open
use Rattle.xti_model.specs.Calls.Close as Close
use Rattle.xti_model.specs.Calls.Bind as Bind
use Rattle.xti_model.specs.Calls.Connect as Connect
use Rattle.xti_model.specs.Calls.Listen as Listen
use Rattle.xti_model.specs.Calls.Send as Send
use Rattle.xti_model.specs.Calls.Receive as Receive
use Rattle.xti_model.specs.Calls.Disconnect as Disconnect
use Rattle.xti_model.specs.Calls.Release as Release
use Rattle.xti_model.specs.Calls.Datagrams as Datagrams
use Rattle.xti_model.specs.Calls.Show as Show
use Rattle.xti_laws.proofs.ChangedEndpoints.{endpoint-same, changed-append, closed-same, closed-other, switch-other}
use Rattle.xti_laws.specs.Requests.{nobody, is_connected}
use Rattle.xti_laws.proofs.KeptEndpoints.{append-keep}
use Rattle.xti_laws.proofs.StepWays.{some-is, none-is, not-both, flip}
use Rattle.xti_laws.proofs.OneChange.{one_world, one-other}
use Rattle.xti_laws.specs.Requests.{is_one_of}
use Rattle.xti_laws.specs.Invariant.{SoundWorld}
use Rattle.xti_laws.specs.Connections.{other_states, NamesBack, IsReleased, PeersThere}
use Rattle.xti_laws.proofs.PassedRows.{Keeps, call-keeps, step-keeps}
use Rattle.xti_laws.proofs.ClearedRows.{Cleared, cleared}
use Rattle.xti_laws.proofs.States.{only}
use Rattle.xti_laws.proofs.SendCalls.{later-effect}
use Rattle.xti_laws.proofs.MatchedNext.{Easy, AllMild, alike}
use Rattle.xti_laws.proofs.MatchedAfterCalls as M
use Rattle.xti_laws.proofs.PeersStayThere.{AllBack, PeersBut, Stays, but-nobody, all-there, calm-peers, own-peers, soft-peers, two-peers, broken-peers, left-peers}

-- Updates that leave the peer.
either : (b : Bool) (e x y : Endpoint) → x.peer ≡ e.peer → y.peer ≡ e.peer → (cond b x y).peer ≡ e.peer
either true e x y h k = h
either false e x y h k = k

read-steady : (p : Providers) (max : ℕ) (e : Endpoint) → (Receive.received p max e).peer ≡ e.peer
read-steady p max e = either (some_wait e.expedited) e (record e { expedited = rest max e.expedited; mid_expedited = Receive.goes_on p true max e }) (record e { normal = rest max e.normal }) refl refl

taken-steady : (n reason : ℕ) (udata : List ℕ) (e : Endpoint) → (taken_back n reason udata e).peer ≡ e.peer
taken-steady n reason udata e = either (is_some (find_number n e.pending)) e (record e { pending = without_number n e.pending }) (cond (is_some (find_number n e.outstanding)) (disconnected reason n udata e) e) refl (either (is_some (find_number n e.outstanding)) e (disconnected reason n udata e) e refl refl)

given-steady : (fd n : ℕ) (e : Endpoint) → (Close.given_up fd n e).peer ≡ e.peer
given-steady fd n e = either (is_target fd n e.target) e (record (disconnected 5 0 [] e) { target = None }) e refl refl

symbols-steady : (b : Bool) (symbols : List ℕ) (e : Endpoint) → (Send.received b symbols e).peer ≡ e.peer
symbols-steady true symbols e = refl
symbols-steady false symbols e = refl

sent-steady : (p : Providers) (b ends : Bool) (now : ℕ) (e : Endpoint) → (Send.sent p b ends now e).peer ≡ e.peer
sent-steady p true ends now e = refl
sent-steady p false ends now e = refl

flow-steady : (b on : Bool) (e : Endpoint) → (Send.mark_flow b on e).peer ≡ e.peer
flow-steady true on e = refl
flow-steady false on e = refl

got-steady : (max : ℕ) (e : Endpoint) → (Datagrams.received max e).peer ≡ e.peer
got-steady max e = either (Datagrams.has_rest max (Datagrams.first_of e)) e (record e { datagrams = Datagrams.shortened max (Datagrams.first_of e) ∷ drop 1 e.datagrams; begun = true }) (Datagrams.dropped e) refl refl

shown-steady : (o : Option Event) (e : Endpoint) → (Show.shown o e).peer ≡ e.peer
shown-steady None e = refl
shown-steady (Some event.T_GODATA) e = refl
shown-steady (Some event.T_GOEXDATA) e = refl
shown-steady (Some other) e = refl

like-steady : (address : List ℕ) (y : Endpoint) → (cond (is_state (T_UNBND ∷ []) y) (record y { address = Some address; qlen = 0 }) y).peer ≡ y.peer
like-steady address y = either (is_state (T_UNBND ∷ []) y) y (record y { address = Some address; qlen = 0 }) y refl refl

-- Lists of changes.
module _ (p : Providers) (w : World) where
  one-back : (z : ℕ) (f : Endpoint → Endpoint) → ((e : Endpoint) → (f e).peer ≡ e.peer) → AllBack p w (at_endpoint z f ∷ [])
  one-back z f k x y = ((λ j e q. k e ∙ q), tt)

  switch-back : (z : ℕ) (f : Endpoint → Endpoint) (k : Switch → Switch) → ((e : Endpoint) → (f e).peer ≡ e.peer) → AllBack p w (at_endpoint z f ∷ at_switch k ∷ [])
  switch-back z f k s x y = ((λ j e q. s e ∙ q), (tt, tt))

  both-back : (cs ds : List Change) → AllBack p w cs → AllBack p w ds → AllBack p w (cs ++ ds)
  both-back cs ds a b x y = append-keep (NamesBack x) y cs ds (a x y) (b x y)

  none-back : AllBack p w []
  none-back x y = tt

  take-back : (t : Option Target) (reason : ℕ) (udata : List ℕ) → AllBack p w (take_back t reason udata)
  take-back None reason udata = none-back
  take-back (Some t) reason udata = one-back t.listener (taken_back t.number reason udata) (taken-steady t.number reason udata)

  callers-back : (fd : ℕ) (is : List Indication) → AllBack p w (map (Close.give_up_caller fd) is)
  callers-back fd [] = none-back
  callers-back fd (i ∷ is) = both-back (Close.give_up_caller fd i ∷ []) (map (Close.give_up_caller fd) is) (one-back i.caller (Close.given_up fd i.number) (given-steady fd i.number)) (callers-back fd is)

  linked-back : (fd : ℕ) (o : Option ℕ) (f : Endpoint → Endpoint) → ((e : Endpoint) → (f e).peer ≡ e.peer) → AllBack p w (at_linked fd o f)
  linked-back fd None f k = none-back
  linked-back fd (Some y) f k = one-back y (if_names fd f) (λ e. either (names fd e.peer) e (f e) e (k e) refl)

  request-back : (fd : ℕ) (options udata : List ℕ) (e : Endpoint) (o : Option Connect.Found) → AllBack p w (Connect.request fd options udata e o)
  request-back fd options udata e None = one-back fd (Connect.turned_away 1) (λ y. refl)
  request-back fd options udata e (Some l) = go (not (Connect.is_listening l.endpoint)) (Connect.is_full l.endpoint)
    where
      go : (x y : Bool) → AllBack p w (cond x (at_endpoint fd (Connect.turned_away 1) ∷ []) (cond y (at_endpoint fd (Connect.turned_away 2) ∷ []) (at_endpoint l.fd (Connect.asked fd (address_of e) options udata) ∷ at_endpoint fd (Connect.asking l.fd (l.endpoint.last_number + 1)) ∷ [])))
      go true y = one-back fd (Connect.turned_away 1) (λ y. refl)
      go false true = one-back fd (Connect.turned_away 2) (λ y. refl)
      go false false = both-back (at_endpoint l.fd (Connect.asked fd (address_of e) options udata) ∷ []) (at_endpoint fd (Connect.asking l.fd (l.endpoint.last_number + 1)) ∷ []) (one-back l.fd (Connect.asked fd (address_of e) options udata) (λ y. refl)) (one-back fd (Connect.asking l.fd (l.endpoint.last_number + 1)) (λ y. refl))

  deliver-back : (fd : ℕ) (address options bytes : List ℕ) (o : Option ℕ) (e : Endpoint) → AllBack p w (Datagrams.send_changes fd address options bytes o e)
  deliver-back fd address options bytes None e = one-back fd (Datagrams.with_error_unmarked (Datagrams.error_to address options)) (λ y. refl)
  deliver-back fd address options bytes (Some to) e = both-back (at_endpoint to (Datagrams.with_datagram (Datagrams.datagram_from e options bytes)) ∷ []) (at_endpoint fd (Datagrams.mark_flow None) ∷ []) (one-back to (Datagrams.with_datagram (Datagrams.datagram_from e options bytes)) (λ y. refl)) (one-back fd (Datagrams.mark_flow None) (λ y. refl))

-- Calls.
module _ (p : Providers) (w : World) (s : SoundWorld p w) where
  calm : (cs : List Change) → AllMild p w cs → AllBack p w cs → PeersThere p (changed p w cs)
  calm cs m b = all-there p (changed p w cs) (calm-peers p w nobody cs m b (but-nobody p w s.there))

  when : (cs : List Change) (rows : List Row) (x : Plan) → (has_effect (first rows) ≡ true → PeersThere p (changed p w cs)) → x.rows ≡ rows → x.changes ≡ cs → x.lost ≡ cs → x.marks ≡ [] → Keeps (PeersThere p) p w x
  when cs rows x k r a b m = record { changes = λ g. subst (λ v. PeersThere p (changed p w v)) (sym a) (k (ap (λ v. has_effect (first v)) (sym r) ∙ g)); lost = λ g. subst (λ v. PeersThere p (changed p w v)) (sym b) (k (ap (λ v. has_effect (first v)) (sym r) ∙ g)); marks = λ g. subst (λ v. PeersThere p (changed p w v)) (sym m) s.there }

  own : (fd : ℕ) (f : Endpoint → Endpoint) (x : Plan) → Easy f → ((e : Endpoint) → (f e).peer ≡ e.peer) → x.changes ≡ at_endpoint fd f ∷ [] → x.lost ≡ at_endpoint fd f ∷ [] → x.marks ≡ [] → Keeps (PeersThere p) p w x
  own fd f x k t a b m = when (at_endpoint fd f ∷ []) x.rows x (λ g. calm (at_endpoint fd f ∷ []) (M.easy-mild p w fd f k) (one-back p w fd f t)) refl a b m

  still : (x : Plan) → x.changes ≡ [] → x.lost ≡ [] → x.marks ≡ [] → Keeps (PeersThere p) p w x
  still x a b m = when [] x.rows x (λ g. s.there) refl a b m

  on-open : (fd : ℕ) (f : Endpoint → Plan) → ((e : Endpoint) → endpoint p w fd ≡ Some e → Keeps (PeersThere p) p w (f e)) → PeersThere p (left_by w (step_of p w (if_open fd (endpoint p w fd) f)))
  on-open fd f k = call-keeps (PeersThere p) p w fd f s.there k

  not-out : (e : Endpoint) (t : State) → e.state ≡ t → is_one_of (T_OUTREL ∷ []) t ≡ false → IsReleased e → ⊥
  not-out e t a n r = not-both (is_one_of (T_OUTREL ∷ []) t) n (ap (is_one_of (T_OUTREL ∷ [])) (sym a ∙ r.0))

  confirm-there : (fd amax omax umax : ℕ) → PeersThere p (left_by w (step_of p w (Connect.confirm_plan p w fd amax omax umax)))
  confirm-there fd amax omax umax = on-open fd _ (λ e i. when (at_endpoint fd Connect.confirmed ∷ []) (Connect.confirm_rows amax omax umax e) _
      (λ g. own-peers p w fd Connect.confirmed e i (inl (refl, λ r. absurd (not-out e T_OUTCON (only e.state T_OUTCON (not-false (is_state (T_OUTCON ∷ []) e) (cleared (Connect.confirm_rows amax omax umax e) g).1.0)) refl r))) s.there) refl refl refl refl)

  -- the release is received: the other end has sent it, and this one has too where it leaves
  released-end : (fd : ℕ) (e : Endpoint) → endpoint p w fd ≡ Some e → is_state (T_OUTREL ∷ []) e ≡ true → is_some e.release ≡ true → (x : ℕ) (d : Endpoint) → endpoint p w x ≡ Some d → d.peer ≡ Some fd → e.peer ≡ Some x → IsReleased d
  released-end fd e i o r x d j b a =
      let l = s.matched fd x e d i j a b in
      let k = s.matched x fd d e j i b a in
      let t : is_one_of (T_OUTREL ∷ []) d.state ≡ true = M.release-waits (is_one_of (T_OUTREL ∷ []) d.state) (not (is_one_of (T_INREL ∷ []) e.state)) (sym r ∙ l.release) in
      let u : d.state ≡ T_OUTREL = only d.state T_OUTREL t in
      let v : e.state ≡ T_OUTREL = only e.state T_OUTREL o in
      (u, k.release ∙ (ap (λ q. is_one_of (T_OUTREL ∷ []) q && not (is_one_of (T_INREL ∷ []) d.state)) v ∙ ap (λ q. not (is_one_of (T_INREL ∷ []) q)) u))

  rcvrel-there : (fd umax : ℕ) (reply : Endpoint → Reply) → PeersThere p (left_by w (step_of p w (Release.taking_plan p w fd umax reply)))
  rcvrel-there fd umax reply = on-open fd _ (λ e i. when (at_endpoint fd Release.after_receive ∷ []) (Release.receive_rows umax e) _
      (λ g. (let c = cleared (Release.receive_rows umax e) g in own-peers p w fd Release.after_receive e i (stays e i (not-false (is_here e event.T_ORDREL) c.1.1.1.0) (not-false (is_state receiving e) c.1.0) (is_state (T_DATAXFER ∷ []) e) refl) s.there)) refl refl refl refl)
    where
      other : (t : State) → is_one_of receiving t ≡ true → is_one_of (T_DATAXFER ∷ []) t ≡ false → is_one_of (T_OUTREL ∷ []) t ≡ true
      other T_OUTREL h k = refl
      other T_DATAXFER h k = absurd (false≢true (sym k))
      other t h k = absurd (false≢true h)

      waits : (a b c d : Bool) → (a && b && c && d) ≡ true → a ≡ true
      waits true b c d h = refl
      waits false b c d h = absurd (false≢true h)

      stays : (e : Endpoint) → endpoint p w fd ≡ Some e → is_here e event.T_ORDREL ≡ true → is_state receiving e ≡ true → (b : Bool) → is_state (T_DATAXFER ∷ []) e ≡ b → Stays p w fd e (cond b (record e { release = None; state = T_INREL }) (Disconnect.idle e))
      stays e i h k true j = inl (refl, λ r. absurd (not-out e T_DATAXFER (only e.state T_DATAXFER j) refl r))
      stays e i h k false j = inr (refl, λ x d a b c. released-end fd e i (other e.state k j) (waits (is_some e.release) _ _ _ h) x d a b c)

  -- a disconnect waits at no endpoint with a peer
  cut-alone : (e : Endpoint) (fd : ℕ) → endpoint p w fd ≡ Some e → some_wait e.disconnects ≡ true → e.peer ≡ None
  cut-alone e fd i h = go e.peer refl
    where
      go : (o : Option ℕ) → e.peer ≡ o → o ≡ None
      go None n = refl
      go (Some y) n = absurd (false≢true (sym (ap some_wait ((s.endpoints fd e i).disconnecting.with_peer (ap is_some n)).1) ∙ h))

  rcvdis-there : (fd umax : ℕ) → PeersThere p (left_by w (step_of p w (Disconnect.receive_plan p w fd umax)))
  rcvdis-there fd umax = on-open fd _ (λ e i. when (at_endpoint fd Disconnect.received ∷ []) (Disconnect.receive_rows umax e) _
      (λ g. own-peers p w fd Disconnect.received e i (stays e (cut-alone e fd i (not-false (some_wait e.disconnects) (cleared (Disconnect.receive_rows umax e) g).1.1.0)) (Disconnect.is_asked e)) s.there) refl refl refl refl)
    where
      stays : (e : Endpoint) → e.peer ≡ None → (b : Bool) → Stays p w fd e (cond b (record (Listen.taken_out (Disconnect.oldest e).number e) { disconnects = drop 1 e.disconnects }) (Disconnect.idle e))
      stays e n true = inr (n, λ x d a b c. absurd (none-is x (sym n ∙ c)))
      stays e n false = inr (refl, λ x d a b c. absurd (none-is x (sym n ∙ c)))

  -- the release is sent: the other end has it, and leaves nobody but that end where this one has received it
  sndrel-there : (fd : ℕ) (udata : List ℕ) → PeersThere p (left_by w (step_of p w (Release.send_plan p w fd udata)))
  sndrel-there fd udata = on-open fd _ (λ e i. when (at_linked fd e.peer (Release.released udata) ++ at_endpoint fd Release.after_send ∷ []) (Release.send_rows p udata e) _
      (λ g. go e i (not-false (is_state sending e) (cleared (Release.send_rows p udata e) g).1.0) e.peer refl) refl refl refl refl)
    where
      received : (t : State) → is_one_of sending t ≡ true → is_one_of (T_DATAXFER ∷ []) t ≡ false → t ≡ T_INREL
      received T_INREL h k = refl
      received T_DATAXFER h k = absurd (false≢true (sym k))
      received t h k = absurd (false≢true h)

      alone : (e : Endpoint) → e.peer ≡ None → (b : Bool) → Stays p w fd e (cond b (record e { state = T_OUTREL }) (Disconnect.idle e))
      alone e n true = inr (n, λ x d a b c. absurd (none-is x (sym n ∙ c)))
      alone e n false = inr (refl, λ x d a b c. absurd (none-is x (sym n ∙ c)))

      soft : (y : ℕ) → PeersThere p (one_world p w y (if_names fd (Release.released udata)))
      soft y = soft-peers p w y (if_names fd (Release.released udata)) (M.told-peer udata fd) (λ e r. kept e r (names fd e.peer)) s.there
        where
          kept : (e : Endpoint) → IsReleased e → (b : Bool) → IsReleased (cond b (Release.released udata e) e)
          kept e r true = (r.0, refl)
          kept e r false = r

      -- the end that is told
      told-end : (y : ℕ) (e : Endpoint) → endpoint p w fd ≡ Some e → e.peer ≡ Some y → e.state ≡ T_INREL → (x : ℕ) (d : Endpoint) → endpoint p (one_world p w y (if_names fd (Release.released udata))) x ≡ Some d → d.peer ≡ Some fd → e.peer ≡ Some x → IsReleased d
      told-end y e i n t x d j b a =
          let k : x ≡ y = some-is x y (sym a ∙ n) in
          let m = M.mapped (if_names fd (Release.released udata)) (endpoint p w y) d (sym (endpoint-same p y (if_names fd (Release.released udata)) w) ∙ (ap (endpoint p (one_world p w y (if_names fd (Release.released udata)))) (sym k) ∙ j)) in
          let u : m.0.peer ≡ Some fd = sym (M.told-peer udata fd m.0) ∙ (ap (λ v. v.peer) m.2 ∙ b) in
          let l : Release.released udata m.0 ≡ d = M.told-is udata fd m.0 d true (ap (names fd) u ∙ eq-eqb fd fd refl) m.2 in
          let q : is_one_of (T_OUTREL ∷ []) m.0.state ≡ true = sym (ap (λ v. is_one_of (other_states v) m.0.state) t) ∙ (s.matched fd y e m.0 i m.1 n u).states in
          subst IsReleased l (only m.0.state T_OUTREL q, refl)

      go : (e : Endpoint) → endpoint p w fd ≡ Some e → is_state sending e ≡ true → (o : Option ℕ) → e.peer ≡ o → PeersThere p (changed p w (at_linked fd o (Release.released udata) ++ at_endpoint fd Release.after_send ∷ []))
      go e i t None n = own-peers p w fd Release.after_send e i (alone e n (is_state (T_DATAXFER ∷ []) e)) s.there
      go e i t (Some y) n = own-peers p (one_world p w y (if_names fd (Release.released udata))) fd Release.after_send e (one-other p w y (if_names fd (Release.released udata)) fd (flip y fd (M.not-own p w s.links s.pairs s.matched fd y e i n)) ∙ i) (stays (is_state (T_DATAXFER ∷ []) e) refl) (soft y)
        where
          stays : (b : Bool) → is_state (T_DATAXFER ∷ []) e ≡ b → Stays p (one_world p w y (if_names fd (Release.released udata))) fd e (cond b (record e { state = T_OUTREL }) (Disconnect.idle e))
          stays true j = inl (refl, λ r. absurd (not-out e T_DATAXFER (only e.state T_DATAXFER j) refl r))
          stays false j = inr (refl, told-end y e i n (received e.state t j))

  accept-there : (fd resfd number : ℕ) (options udata : List ℕ) → PeersThere p (left_by w (step_of p w (Listen.accept_plan p w fd resfd number options udata)))
  accept-there fd resfd number options udata = on-open fd (λ e. Listen.accept_with p fd resfd number options udata e (endpoint p w resfd)) (λ e a. at_resfd e a (endpoint p w resfd) refl)
    where
      before-back : (e r : Endpoint) (i : Indication) → AllBack p w (at_endpoint fd (Listen.taken_out i.number) ∷ Listen.bind_like e resfd r)
      before-back e r i = both-back p w (at_endpoint fd (Listen.taken_out i.number) ∷ []) (Listen.bind_like e resfd r) (one-back p w fd (Listen.taken_out i.number) (λ y. refl)) (by (is_state (T_UNBND ∷ []) r))
        where
          by : (d : Bool) → AllBack p w (cond d (at_endpoint resfd (Listen.bound_like e) ∷ at_switch (give_address r.prov (address_of e) resfd false) ∷ []) [])
          by true = switch-back p w resfd (Listen.bound_like e) (give_address r.prov (address_of e) resfd false) (like-steady (address_of e))
          by false = none-back p w

      found : (e r : Endpoint) → endpoint p w fd ≡ Some e → endpoint p w resfd ≡ Some r → Cleared (Listen.accept_rows p fd resfd number options udata e r) → (o : Option Indication) → find_number number e.outstanding ≡ o → PeersThere p (changed p w (Listen.accept_found fd resfd o options udata e r))
      found e r a b c None f = s.there
      found e r a b c (Some i) f = subst (PeersThere p) (sym (changed-append p (one_world p w fd (Listen.taken_out i.number)) (Listen.bind_like e resfd r) (Listen.linking resfd i (address_of (Listen.bound_like e r)) options udata)))
          (two (endpoint p (changed p w (at_endpoint fd (Listen.taken_out i.number) ∷ Listen.bind_like e resfd r)) resfd) refl (M.r_mid p w s.links s.matched fd resfd number options udata e r i a b c f) (endpoint p (changed p w (at_endpoint fd (Listen.taken_out i.number) ∷ Listen.bind_like e resfd r)) i.caller) refl (M.c_mid p w s.links s.matched fd resfd number options udata e r i a b c f))
        where
          two : (o : Option Endpoint) → endpoint p (changed p w (at_endpoint fd (Listen.taken_out i.number) ∷ Listen.bind_like e resfd r)) resfd ≡ o → M.Fresh p w s.links s.matched fd resfd number options udata e r i a b c f o
              → (q : Option Endpoint) → endpoint p (changed p w (at_endpoint fd (Listen.taken_out i.number) ∷ Listen.bind_like e resfd r)) i.caller ≡ q → M.Calls p w s.links s.matched fd resfd number options udata e r i a b c f q
              → PeersThere p (changed p (changed p w (at_endpoint fd (Listen.taken_out i.number) ∷ Listen.bind_like e resfd r)) (Listen.linking resfd i (address_of (Listen.bound_like e r)) options udata))
          two None j k q l m = absurd k
          two (Some y) j k None l m = absurd m
          two (Some y) j k (Some v) l m = two-peers p (changed p w (at_endpoint fd (Listen.taken_out i.number) ∷ Listen.bind_like e resfd r)) resfd i.caller (Listen.responding i) (Listen.accepted resfd (address_of (Listen.bound_like e r)) options udata) y v j l
              (M.apart p w s.links s.matched fd resfd number options udata e r i a b c f) k.0 m.0 refl refl
              (calm (at_endpoint fd (Listen.taken_out i.number) ∷ Listen.bind_like e resfd r) (M.before-mild p w s.links s.matched fd resfd number options udata e r i a b c f) (before-back e r i))

      at_resfd : (e : Endpoint) → endpoint p w fd ≡ Some e → (o : Option Endpoint) → endpoint p w resfd ≡ o → Keeps (PeersThere p) p w (Listen.accept_with p fd resfd number options udata e o)
      at_resfd e a None b = record { changes = λ g. s.there; lost = λ g. s.there; marks = λ g. s.there }
      at_resfd e a (Some r) b = record {
        changes = λ g. found e r a b (cleared (Listen.accept_rows p fd resfd number options udata e r) g) (find_number number e.outstanding) refl;
        lost = λ g. found e r a b (cleared (Listen.accept_rows p fd resfd number options udata e r) g) (find_number number e.outstanding) refl;
        marks = λ g. s.there;
      }

  open-there : (prov : Prov) (nonblock : Bool) → PeersThere p (left_by w (step_of p w (Open.plan p w prov nonblock)))
  open-there prov nonblock = go (opening_place p (the_switch p w) prov)
    where
      go : (o : Option ℕ) → PeersThere p (left_by w (step_of p w (Open.plan_where p (the_switch p w) prov nonblock o)))
      go None = step-keeps (PeersThere p) p w (Open.plan_where p (the_switch p w) prov nonblock None) s.there (record { changes = λ g. s.there; lost = λ g. s.there; marks = λ g. s.there })
      go (Some n) = step-keeps (PeersThere p) p w (Open.plan_where p (the_switch p w) prov nonblock (Some n)) s.there (record {
        changes = λ g. calm (opens_place n (opened (profile p prov) prov nonblock) ∷ at_switch (mark_open n) ∷ []) (λ x. ((λ k. inl refl), (tt, tt))) (λ x y. ((λ k. absurd k), (tt, tt)));
        lost = λ g. s.there;
        marks = λ g. s.there;
      })

  -- after a break nobody but those with its release names the descriptor
  broken-there : (fd reason : ℕ) (udata : List ℕ) (e : Endpoint) → endpoint p w fd ≡ Some e → PeersBut p (changed p w (break fd e reason udata)) (λ x. eqb x fd)
  broken-there fd reason udata e i = subst (λ v. PeersBut p v (λ x. eqb x fd)) (sym (changed-append p w (at_linked fd e.peer (broken reason udata)) (take_back e.target reason udata)))
      (calm-peers p (changed p w (at_linked fd e.peer (broken reason udata))) (λ x. eqb x fd) (take_back e.target reason udata) (M.take-mild p (changed p w (at_linked fd e.peer (broken reason udata))) e.target reason udata) (take-back p (changed p w (at_linked fd e.peer (broken reason udata))) e.target reason udata) (broken-peers p w fd reason udata e i s.there))

  idle-there : (fd : ℕ) (udata : List ℕ) (e : Endpoint) → endpoint p w fd ≡ Some e → PeersThere p (changed p w (break fd e 4 udata ++ at_endpoint fd Disconnect.idle ∷ []))
  idle-there fd udata e i = subst (PeersThere p) (sym (changed-append p w (break fd e 4 udata) (at_endpoint fd Disconnect.idle ∷ [])))
      (left-peers p (changed p w (break fd e 4 udata)) fd (one_world p (changed p w (break fd e 4 udata)) fd Disconnect.idle) (λ x j. one-other p (changed p w (break fd e 4 udata)) fd Disconnect.idle x j)
      (λ d j. idled (endpoint p (changed p w (break fd e 4 udata)) fd) d (sym (endpoint-same p fd Disconnect.idle (changed p w (break fd e 4 udata))) ∙ j)) (broken-there fd 4 udata e i))
    where
      idled : (o : Option Endpoint) (d : Endpoint) → option_map Disconnect.idle o ≡ Some d → d.peer ≡ None
      idled None d j = absurd (none-is d j)
      idled (Some v) d j = ap (λ u. u.peer) (sym (some-is (Disconnect.idle v) d j))

  close-there : (fd : ℕ) (e : Endpoint) → endpoint p w fd ≡ Some e → PeersThere p (changed p w (Close.changes p fd e))
  close-there fd e i = subst (λ y. PeersThere p y) (sym (ap (changed p w) (append_assoc (break fd e 5 []) (map (Close.give_up_caller fd) (e.pending ++ e.outstanding)) (Close.closing p fd)) ∙ changed-append p w (break fd e 5 []) (map (Close.give_up_caller fd) (e.pending ++ e.outstanding) ++ Close.closing p fd)))
      (subst (PeersThere p) (sym (changed-append p (changed p w (break fd e 5 [])) (map (Close.give_up_caller fd) (e.pending ++ e.outstanding)) (Close.closing p fd)))
      (closes (changed p (changed p w (break fd e 5 [])) (map (Close.give_up_caller fd) (e.pending ++ e.outstanding)))
      (calm-peers p (changed p w (break fd e 5 [])) (λ x. eqb x fd) (map (Close.give_up_caller fd) (e.pending ++ e.outstanding)) (M.callers-mild p (changed p w (break fd e 5 [])) fd (e.pending ++ e.outstanding)) (callers-back p (changed p w (break fd e 5 [])) fd (e.pending ++ e.outstanding)) (broken-there fd 5 [] e i))))
    where
      closes : (v : World) → PeersBut p v (λ x. eqb x fd) → PeersThere p (changed p v (Close.closing p fd))
      closes v h = left-peers p v fd (changed p v (Close.closing p fd))
          (λ x j. switch-other p (Close.forget p fd) x (changed p v (closes_endpoint fd ∷ [])) ∙ closed-other p fd x j v)
          (λ d j. absurd (none-is d (sym (switch-other p (Close.forget p fd) fd (changed p v (closes_endpoint fd ∷ [])) ∙ closed-same p fd v) ∙ j))) h

  snddis-there : (fd number : ℕ) (udata : List ℕ) → PeersThere p (left_by w (step_of p w (Disconnect.send_plan p w fd number udata)))
  snddis-there fd number udata = on-open fd _ (λ e i. when (Disconnect.send_changes fd number udata e) (Disconnect.send_rows number udata e) _ (λ g. go e i (Disconnect.is_asked e) refl (find_number number e.outstanding)) refl refl refl refl)
    where
      go : (e : Endpoint) → endpoint p w fd ≡ Some e → (x : Bool) → Disconnect.is_asked e ≡ x → (o : Option Indication) → PeersThere p (changed p w (cond x (Disconnect.reject fd udata o) (break fd e 4 udata ++ at_endpoint fd Disconnect.idle ∷ [])))
      go e i true j None = s.there
      go e i true j (Some r) = calm (at_endpoint fd (Listen.taken_out r.number) ∷ at_endpoint r.caller (Disconnect.rejected udata) ∷ [])
          (M.both-mild p w (at_endpoint fd (Listen.taken_out r.number) ∷ []) (at_endpoint r.caller (Disconnect.rejected udata) ∷ []) (M.free-mild p w s.links fd (Listen.taken_out r.number) e i (ap is_connected (only e.state T_INCON j)) (λ y. refl)) (M.easy-mild p w r.caller (Disconnect.rejected udata) (λ y. inr (refl, alike y _ refl refl refl refl refl))))
          (both-back p w (at_endpoint fd (Listen.taken_out r.number) ∷ []) (at_endpoint r.caller (Disconnect.rejected udata) ∷ []) (one-back p w fd (Listen.taken_out r.number) (λ y. refl)) (one-back p w r.caller (Disconnect.rejected udata) (λ y. refl)))
      go e i false j o = idle-there fd udata e i

  bind-there : (fd : ℕ) (address : List ℕ) (qlen amax : ℕ) → PeersThere p (left_by w (step_of p w (Bind.plan p w fd address qlen amax)))
  bind-there fd address qlen amax = on-open fd (Bind.plan_in (the_switch p w) fd address qlen amax) (λ e i. when (Bind.changes fd e.prov (chosen (the_switch p w) e.prov address) (Bind.queue e.prov qlen)) (Bind.rows (the_switch p w) address qlen amax e) _
      (λ g. calm (Bind.changes fd e.prov (chosen (the_switch p w) e.prov address) (Bind.queue e.prov qlen)) (M.bind-mild p w s.links fd address qlen amax e i g) (switch-back p w fd (Bind.bound_to (chosen (the_switch p w) e.prov address) (Bind.queue e.prov qlen)) (give_address e.prov (chosen (the_switch p w) e.prov address) fd (nat_lt 0 (Bind.queue e.prov qlen))) (λ y. refl))) refl refl refl refl)

  unbind-there : (fd : ℕ) → PeersThere p (left_by w (step_of p w (Bind.unbind_plan p w fd)))
  unbind-there fd = on-open fd _ (λ e i. when (at_endpoint fd Bind.unbound ∷ at_switch (give_up_address fd) ∷ []) (M.unbind_rows e) _
      (λ g. calm (at_endpoint fd Bind.unbound ∷ at_switch (give_up_address fd) ∷ []) (M.unbind-mild p w s.links fd e i g) (switch-back p w fd Bind.unbound (give_up_address fd) (λ y. refl))) refl refl refl refl)

  connect-there : (fd : ℕ) (address options udata : List ℕ) → PeersThere p (left_by w (step_of p w (Connect.plan p w fd address options udata)))
  connect-there fd address options udata = on-open fd (λ e. Connect.plan_to fd address options udata e (Connect.found p w fd address e)) (λ e i. when (Connect.request fd options udata e (Connect.found p w fd address e)) (Connect.rows address options udata e) _
      (λ g. calm (Connect.request fd options udata e (Connect.found p w fd address e)) (M.connect-mild p w s.links fd address options udata e i g) (request-back p w fd options udata e (Connect.found p w fd address e))) refl refl refl refl)

  listen-there : (fd amax omax umax : ℕ) → PeersThere p (left_by w (step_of p w (Listen.listen_plan p w fd amax omax umax)))
  listen-there fd amax omax umax = on-open fd _ (λ e i. when (at_endpoint fd Listen.listened ∷ []) (Listen.listen_rows amax omax umax e) _
      (λ g. calm (at_endpoint fd Listen.listened ∷ []) (M.listen-mild p w s.links fd amax omax umax e i g) (one-back p w fd Listen.listened (λ y. refl))) refl refl refl refl)

  took : (fd : ℕ) (bytes : List ℕ) (flags taken now : ℕ) (e : Endpoint) → endpoint p w fd ≡ Some e → is_state sending e ≡ true → PeersThere p (changed p w (Send.changes p fd bytes flags taken now e))
  took fd bytes flags taken now e i u = calm (Send.changes p fd bytes flags taken now e) (M.took-mild p w s.links s.pairs s.matched fd bytes flags taken now e i u)
      (both-back p w (at_linked fd e.peer (Send.received (is_expedited flags) _)) (at_endpoint fd (Send.sent p (is_expedited flags) _ now) ∷ []) (linked-back p w fd e.peer (Send.received (is_expedited flags) _) (symbols-steady (is_expedited flags) _)) (one-back p w fd (Send.sent p (is_expedited flags) _ now) (sent-steady p (is_expedited flags) _ now)))

  send-there : (fd number : ℕ) (bytes : List ℕ) (flags : ℕ) (g : Go) → PeersThere p (left_by w (step_of p w (send p w fd number bytes flags g)))
  send-there fd number bytes flags go.Begin = on-open fd (λ e. Send.plan_to p fd number bytes flags 0 e (linked p w fd e)) (λ e i. record {
    changes = λ g. took fd bytes flags 0 _ e i (not-false (is_state sending e) (cleared (Send.rows p number bytes flags 0 (linked p w fd e) e) g).1.1.0);
    lost = λ g. took fd bytes flags 0 _ e i (not-false (is_state sending e) (cleared (Send.rows p number bytes flags 0 (linked p w fd e) e) g).1.1.0);
    marks = λ g. calm (at_endpoint fd (Send.mark_flow (is_expedited flags) true) ∷ []) (M.easy-mild p w fd _ (M.flow-easy (is_expedited flags) true)) (one-back p w fd (Send.mark_flow (is_expedited flags) true) (flow-steady (is_expedited flags) true));
  })
  send-there fd number bytes flags (go.More n) = by (endpoint p w fd) refl
    where
      by : (o : Option Endpoint) → endpoint p w fd ≡ o → PeersThere p (left_by w (step_of p w (later_plan n (if_open fd o (λ e. Send.plan_to p fd number bytes flags n e (linked p w fd e))))))
      by None i = step-keeps (PeersThere p) p w (later_plan n (if_open fd None (λ e. Send.plan_to p fd number bytes flags n e (linked p w fd e)))) s.there (record { changes = λ g. s.there; lost = λ g. s.there; marks = λ g. s.there })
      by (Some e) i = step-keeps (PeersThere p) p w (later_plan n (Send.plan_to p fd number bytes flags n e (linked p w fd e))) s.there (record {
        changes = λ g. took fd bytes flags n _ e i (not-false (is_state sending e) (cleared (Send.rows p number bytes flags n (linked p w fd e) e) (sym (later-effect n (Send.rows p number bytes flags n (linked p w fd e) e)) ∙ g)).1.1.0);
        lost = λ g. took fd bytes flags n _ e i (not-false (is_state sending e) (cleared (Send.rows p number bytes flags n (linked p w fd e) e) (sym (later-effect n (Send.rows p number bytes flags n (linked p w fd e) e)) ∙ g)).1.1.0);
        marks = λ g. s.there;
      })

  sndudata-there : (fd : ℕ) (address options : List ℕ) (number : ℕ) (bytes : List ℕ) → PeersThere p (left_by w (step_of p w (Datagrams.send_plan p w fd address options number bytes)))
  sndudata-there fd address options number bytes = on-open fd (λ e. Datagrams.send_from p w fd address options number bytes e (bound (the_switch p w) e.prov address)) (λ e i. to e (bound (the_switch p w) e.prov address))
    where
      to : (e : Endpoint) (o : Option ℕ) → Keeps (PeersThere p) p w (Datagrams.send_from p w fd address options number bytes e o)
      to e o = record {
        changes = λ g. calm (Datagrams.send_changes fd address options bytes o e) (M.deliver-mild p w fd address options bytes o e) (deliver-back p w fd address options bytes o e);
        lost = λ g. calm (Datagrams.send_changes fd address options bytes o e) (M.deliver-mild p w fd address options bytes o e) (deliver-back p w fd address options bytes o e);
        marks = λ g. calm (at_endpoint fd (Datagrams.mark_flow (Some address)) ∷ []) (M.easy-mild p w fd _ (λ y. inr (refl, alike y _ refl refl refl refl refl))) (one-back p w fd (Datagrams.mark_flow (Some address)) (λ y. refl));
      }

  rcvudata-there : (fd sizes max amax omax : ℕ) → PeersThere p (left_by w (step_of p w (Datagrams.receive_plan p w fd sizes max amax omax)))
  rcvudata-there fd sizes max amax omax = on-open fd (Datagrams.receive_from fd sizes max amax omax) (λ e i. record {
    changes = λ g. calm (at_endpoint fd (Datagrams.received max) ∷ []) (M.easy-mild p w fd _ (M.got-easy max)) (one-back p w fd (Datagrams.received max) (got-steady max));
    lost = λ g. calm (at_endpoint fd Datagrams.dropped ∷ []) (M.easy-mild p w fd _ (λ y. inr (refl, alike y _ refl refl refl refl refl))) (one-back p w fd Datagrams.dropped (λ y. refl));
    marks = λ g. s.there;
  })

  pub next-there : (c : Call) (g : Go) → PeersThere p (left_by w (step p w c g))
  unfolding step plan
  next-there (call.TOpen prov nonblock) g = open-there prov nonblock
  next-there (call.TClose fd) g = on-open fd.0 _ (λ e i. when (Close.changes p fd.0 e) [] _ (λ g. close-there fd.0 e i) refl refl refl refl)
  next-there (call.TBind fd addr qlen amax) g = bind-there fd.0 addr qlen amax
  next-there (call.TUnbind fd) g = unbind-there fd.0
  next-there (call.TConnect fd addr opt udata amax omax umax) go.Begin = connect-there fd.0 addr opt udata
  next-there (call.TConnect fd addr opt udata amax omax umax) (go.More n) = confirm-there fd.0 amax omax umax
  next-there (call.TRcvConnect fd amax omax umax) g = confirm-there fd.0 amax omax umax
  next-there (call.TListen fd amax omax umax) g = listen-there fd.0 amax omax umax
  next-there (call.TAccept fd resfd seq opt udata) g = accept-there fd.0 resfd.0 seq.0 opt udata
  next-there (call.TSnd fd bytes flags) g = send-there fd.0 1 bytes flags g
  next-there (call.TSndV fd parts flags) g = send-there fd.0 (length parts) (concat parts) flags g
  next-there (call.TRcv fd max) g = on-open fd.0 _ (λ e i. own fd.0 (Receive.received p max) _ (M.read-easy p max) (read-steady p max) refl refl refl)
  next-there (call.TRcvV fd sizes) g = on-open fd.0 _ (λ e i. own fd.0 (Receive.received p (sum sizes)) _ (M.read-easy p (sum sizes)) (read-steady p (sum sizes)) refl refl refl)
  next-there (call.TSndDis fd seq udata) g = snddis-there fd.0 seq.0 udata
  next-there (call.TRcvDis fd umax) g = rcvdis-there fd.0 umax
  next-there (call.TSndRel fd) g = sndrel-there fd.0 []
  next-there (call.TRcvRel fd) g = rcvrel-there fd.0 0 _
  next-there (call.TSndRelData fd udata) g = sndrel-there fd.0 udata
  next-there (call.TRcvRelData fd umax) g = rcvrel-there fd.0 umax _
  next-there (call.TSndUData fd addr opt bytes) g = sndudata-there fd.0 addr opt 1 bytes
  next-there (call.TSndVUData fd addr opt parts) g = sndudata-there fd.0 addr opt (length parts) (concat parts)
  next-there (call.TRcvUData fd max amax omax) g = rcvudata-there fd.0 1 max amax omax
  next-there (call.TRcvVUData fd sizes amax omax) g = rcvudata-there fd.0 (length sizes) (sum sizes) amax omax
  next-there (call.TRcvUDErr fd amax omax) g = on-open fd.0 _ (λ e i. own fd.0 Datagrams.without_error _ (λ y. inr (refl, alike y _ refl refl refl refl refl)) (λ y. refl) refl refl refl)
  next-there (call.TLookAt fd) g = on-open fd.0 (λ e. Show.look_in fd.0 e (around p w fd.0 e)) (λ e i. own fd.0 (Show.shown (Show.first_pending (around p w fd.0 e) e)) _ (M.shown-easy (Show.first_pending (around p w fd.0 e) e)) (shown-steady (Show.first_pending (around p w fd.0 e) e)) refl refl refl)
  next-there (call.TGetState fd) g = on-open fd.0 _ (λ e i. still _ refl refl refl)
  next-there (call.TSync fd) g = on-open fd.0 _ (λ e i. still _ refl refl refl)
  next-there (call.TGetInfo fd) g = on-open fd.0 _ (λ e i. still _ refl refl refl)
  next-there (call.TGetProtAddr fd amax pmax) g = on-open fd.0 _ (λ e i. still _ refl refl refl)
  next-there (call.TOptMgmt fd action opt omax) g = on-open fd.0 (λ e. Show.option_plan_of fd.0 (Show.negotiated p action opt e) action opt omax e) (λ e i. own fd.0 (Show.with_settings (Show.negotiated p action opt e).settings) _ (λ y. inr (refl, alike y _ refl refl refl refl refl)) (λ y. refl) refl refl refl)
  next-there (call.SetMode fd nonblock) g = on-open fd.0 _ (λ e i. own fd.0 (Show.in_mode nonblock) _ (λ y. inr (refl, alike y _ refl refl refl refl refl)) (λ y. refl) refl refl refl)
