-- Two that are linked match after every call.
use Rattle.std.proofs.Common.{ℕ, Bool, true, false, List, [], ◌∷◌, ◌++◌, ◌+◌, ◌≡◌, ◌⊎◌, inl, inr, refl, sym, ap, ◌∙◌, subst, eqb, cond, not, ◌&&◌, length, sum, map, drop, Option, Some, None, is_some}
use Rattle.std.specs.Prelude.{nat_lt, option_map}
use Rattle.std.specs.List.{concat}
use Rattle.std.proofs.lemmas.Bool.{and_parts, false≢true, not-false, eqb-true, eq-eqb}
use Rattle.std.proofs.Math.Seq.{drop-nil}
use Rattle.xti_base.specs.declared.kinds.Prov.{Prov}
use Rattle.xti_base.specs.declared.kinds.Event.{Event}
use Rattle.xti_base.specs.declared.kinds.Event.TheVariants as event
use Rattle.xti_base.specs.declared.kinds.State.{State}
use Rattle.xti_base.specs.declared.kinds.State.TheVariants.{T_UNBND, T_IDLE, T_OUTCON, T_INCON, T_DATAXFER, T_OUTREL, T_INREL}
use Rattle.xti_model.specs.declared.call.Call.{Call}
use Rattle.xti_model.specs.declared.call.Call.TheVariants as call
use Rattle.xti_model.specs.declared.entry.Go.{Go}
use Rattle.xti_model.specs.declared.entry.Go.TheVariants as go
use Rattle.xti_model.specs.declared.entry.Reply.{Reply}
use Rattle.xti_model.specs.declared.profile.Providers.{Providers}
use Rattle.xti_model.specs.Provider.{profile}
use Rattle.xti_model.specs.Endpoint.{Endpoint, Indication, Target, find_number, without_number, disconnected, is_target, address_of, opened}
use Rattle.xti_model.specs.World.{World, Switch, Change, at_endpoint, at_switch, opens_place, changed, endpoint, the_switch}
use Rattle.xti_model.specs.Switch.{bound, chosen, give_address, give_up_address, opening_place, mark_open}
use Rattle.xti_model.specs.Links.{names, if_names, linked, at_linked, take_back, taken_back, break, broken}
use Rattle.xti_model.specs.Symbols.{rest, front, ended}
use Rattle.xti_model.specs.Events.{looks_unbind, is_state, is_here, some_wait, around, sending, receiving}
use Rattle.xti_model.specs.Arguments.{is_expedited}
use Rattle.xti_model.specs.Plan.{Plan, Row, first, if_open, later_plan, outside, looks, has_effect}
use Rattle.xti_model.specs.Step.{plan, step, step_of, send}
use Rattle.xti_model.specs.History.{left_by}
use Rattle.xti_model.specs.Calls.Open as Open
use Rattle.xti_model.specs.Calls.Close as Close
use Rattle.xti_model.specs.Calls.Bind as Bind
use Rattle.xti_model.specs.Calls.Connect as Connect
use Rattle.xti_model.specs.Calls.Listen as Listen
use Rattle.xti_model.specs.Calls.Send as Send
use Rattle.xti_model.specs.Calls.Receive as Receive
use Rattle.xti_model.specs.Calls.Disconnect as Disconnect
use Rattle.xti_model.specs.Calls.Release as Release
use Rattle.xti_model.specs.Calls.Datagrams as Datagrams
use Rattle.xti_model.specs.Calls.Show as Show
use Rattle.xti_laws.proofs.ChangedEndpoints.{changed-append, endpoint-same}
use Rattle.xti_laws.specs.Requests.{SoundLinks, is_connected}
use Rattle.xti_laws.proofs.KeptEndpoints.{AllKeep, append-keep, keeps}
use Rattle.xti_laws.proofs.StepWays.{some-is, none-is, not-both, flip}
use Rattle.xti_laws.specs.Requests.{AskingCaller}
use Rattle.xti_laws.proofs.OneChange.{one_world, one-other, one-cases}
use Rattle.xti_laws.proofs.AcceptEnds.{asks, not_resfd, not_fd, responder, responder-state}
use Rattle.xti_laws.specs.Requests.{is_one_of}
use Rattle.xti_laws.specs.Invariant.{Paired}
use Rattle.xti_laws.specs.Connections.{other_states, LinkedWith, Matched}
use Rattle.xti_laws.proofs.PairedAfterCalls.{accept-keeps}
use Rattle.xti_laws.proofs.PassedRows.{Keeps, call-keeps, step-keeps}
use Rattle.xti_laws.proofs.ClearedRows.{Cleared, cleared}
use Rattle.xti_laws.proofs.States.{only}
use Rattle.xti_laws.proofs.AcrossCalls.{choice}
use Rattle.xti_laws.proofs.SendCalls.{later-effect}
use Rattle.xti_laws.proofs.MatchedNext.{Like, alike, Easy, Able, Kept, Was, AllMild, kept-easy, kept-free, mild-matched, own-matched, two-matched}

-- Updates that leave an endpoint as it was, or without a peer.
abbrev Eased : Endpoint → Endpoint → Type 0
Eased e e' = (e'.peer ≡ None) ⊎ ((e'.peer ≡ e.peer) × Like e e')

either : (b : Bool) (e x y : Endpoint) → Eased e x → Eased e y → Eased e (cond b x y)
either true e x y h k = h
either false e x y h k = k

same : (e : Endpoint) → Eased e e
same e = inr (refl, alike e e refl refl refl refl refl)

pub rest-none : (max : ℕ) (q : List ℕ) → q ≡ [] → rest max q ≡ []
rest-none max q h = ap (rest max) h ∙ drop-nil (length (front max []) + cond (ended max []) 1 0)

pub read-easy : (p : Providers) (max : ℕ) → Easy (Receive.received p max)
read-easy p max e = either (some_wait e.expedited) e (record e { expedited = rest max e.expedited; mid_expedited = Receive.goes_on p true max e }) (record e { normal = rest max e.normal })
    (inr (refl, record { state = refl; release = refl; confirmation = refl; normal = λ t n. n; expedited = λ t n. rest-none max e.expedited n }))
    (inr (refl, record { state = refl; release = refl; confirmation = refl; normal = λ t n. rest-none max e.normal n; expedited = λ t n. n }))

pub taken-easy : (n reason : ℕ) (udata : List ℕ) → Easy (taken_back n reason udata)
taken-easy n reason udata e = either (is_some (find_number n e.pending)) e (record e { pending = without_number n e.pending }) (cond (is_some (find_number n e.outstanding)) (disconnected reason n udata e) e)
    (inr (refl, alike e _ refl refl refl refl refl)) (either (is_some (find_number n e.outstanding)) e (disconnected reason n udata e) e (inr (refl, alike e _ refl refl refl refl refl)) (same e))

pub given-easy : (fd n : ℕ) → Easy (Close.given_up fd n)
given-easy fd n e = either (is_target fd n e.target) e (record (disconnected 5 0 [] e) { target = None }) e (inr (refl, alike e _ refl refl refl refl refl)) (same e)

pub sent-easy : (p : Providers) (b ends : Bool) (now : ℕ) → Easy (Send.sent p b ends now)
sent-easy p true ends now e = inr (refl, alike e _ refl refl refl refl refl)
sent-easy p false ends now e = inr (refl, alike e _ refl refl refl refl refl)

pub flow-easy : (b on : Bool) → Easy (Send.mark_flow b on)
flow-easy true on e = inr (refl, alike e _ refl refl refl refl refl)
flow-easy false on e = inr (refl, alike e _ refl refl refl refl refl)

pub got-easy : (max : ℕ) → Easy (Datagrams.received max)
got-easy max e = either (Datagrams.has_rest max (Datagrams.first_of e)) e (record e { datagrams = Datagrams.shortened max (Datagrams.first_of e) ∷ drop 1 e.datagrams; begun = true }) (Datagrams.dropped e) (inr (refl, alike e _ refl refl refl refl refl)) (inr (refl, alike e _ refl refl refl refl refl))

pub shown-easy : (o : Option Event) → Easy (Show.shown o)
shown-easy None e = same e
shown-easy (Some event.T_GODATA) e = inr (refl, alike e _ refl refl refl refl refl)
shown-easy (Some event.T_GOEXDATA) e = inr (refl, alike e _ refl refl refl refl refl)
shown-easy (Some other) e = same e

pub like-easy : (address : List ℕ) → Easy (λ y. cond (is_state (T_UNBND ∷ []) y) (record y { address = Some address; qlen = 0 }) y)
like-easy address y = either (is_state (T_UNBND ∷ []) y) y (record y { address = Some address; qlen = 0 }) y (inr (refl, alike y _ refl refl refl refl refl)) (same y)

-- The states of two ends, before a change and after it.
out-states : (t : State) → is_one_of (other_states T_OUTCON) t ≡ true → (is_one_of (other_states T_DATAXFER) t ≡ true) × (is_one_of (other_states t) T_DATAXFER ≡ true)
out-states T_DATAXFER h = (refl, refl)
out-states T_OUTREL h = (refl, refl)
out-states t h = absurd (false≢true h)

data-states : (t : State) → is_one_of (other_states T_DATAXFER) t ≡ true → (is_one_of (other_states T_OUTREL) t ≡ true) × (is_one_of (other_states t) T_OUTREL ≡ true) × (is_one_of (T_INREL ∷ []) t ≡ false)
data-states T_OUTCON h = (refl, refl, refl)
data-states T_DATAXFER h = (refl, refl, refl)
data-states T_OUTREL h = (refl, refl, refl)
data-states t h = absurd (false≢true h)

-- who can send is linked with none that has received a release
sending-states : (s t : State) → is_one_of (other_states s) t ≡ true → is_one_of sending t ≡ true → is_one_of (T_INREL ∷ []) s ≡ true → ⊥
sending-states s t h k n = (let m : is_one_of (T_OUTREL ∷ []) t ≡ true = sym (ap (λ v. is_one_of (other_states v) t) (only s T_INREL n)) ∙ h in false≢true (sym (ap (is_one_of sending) (only t T_OUTREL m)) ∙ k))

-- where a release waits the other end has sent it
pub release-waits : (x y : Bool) → true ≡ (x && y) → x ≡ true
release-waits true y h = refl
release-waits false y h = absurd (false≢true (sym h))

confirmed-able : (e d : Endpoint) → is_state (T_OUTCON ∷ []) e ≡ true → LinkedWith e d → LinkedWith d e → LinkedWith (Connect.confirmed e) d × LinkedWith d (Connect.confirmed e)
confirmed-able e d i a b =
    let s : e.state ≡ T_OUTCON = only e.state T_OUTCON i in
    let t = out-states d.state (sym (ap (λ v. is_one_of (other_states v) d.state) s) ∙ a.states) in (
      record { states = t.0; release = a.release ∙ ap (λ v. is_one_of (T_OUTREL ∷ []) d.state && not (is_one_of (T_INREL ∷ []) v)) s; confirmation = refl; finished = λ x. absurd (false≢true x) },
      record { states = t.1; release = b.release ∙ ap (λ v. is_one_of (T_OUTREL ∷ []) v && not (is_one_of (T_INREL ∷ []) d.state)) s; confirmation = b.confirmation; finished = b.finished },
    )

-- one end sends its release
released-able : (udata : List ℕ) (e d : Endpoint) → is_state (T_DATAXFER ∷ []) e ≡ true → LinkedWith e d → LinkedWith d e → LinkedWith (record e { state = T_OUTREL }) (Release.released udata d) × LinkedWith (Release.released udata d) (record e { state = T_OUTREL })
released-able udata e d i a b =
    let s : e.state ≡ T_DATAXFER = only e.state T_DATAXFER i in
    let t = data-states d.state (sym (ap (λ v. is_one_of (other_states v) d.state) s) ∙ a.states) in (
      record { states = t.0; release = a.release ∙ ap (λ v. is_one_of (T_OUTREL ∷ []) d.state && not (is_one_of (T_INREL ∷ []) v)) s; confirmation = a.confirmation ∙ ap (is_one_of (T_OUTCON ∷ [])) s; finished = λ x. absurd (false≢true x) },
      record { states = t.1; release = sym (ap not t.2); confirmation = b.confirmation; finished = b.finished },
    )

-- an end receives the other's release
received-able : (e : Endpoint) → is_here e event.T_ORDREL ≡ true → Able e (Release.after_receive e)
received-able e i = go (is_state (T_DATAXFER ∷ []) e) refl
  where
    parts : ((is_some e.release ≡ true) × (not (some_wait e.normal) ≡ true)) × (not (some_wait e.expedited) ≡ true)
    parts =
        let x = (and_parts (is_some e.release && not (some_wait e.normal) && not (some_wait e.expedited)) (is_state receiving e) i).0 in
        let y = and_parts (is_some e.release && not (some_wait e.normal)) (not (some_wait e.expedited)) x in
        (and_parts (is_some e.release) (not (some_wait e.normal)) y.0, y.1)

    nothing-waits : (xs : List ℕ) → not (some_wait xs) ≡ true → xs ≡ []
    nothing-waits [] k = refl
    nothing-waits (x ∷ xs) k = absurd (false≢true k)

    go : (b : Bool) → is_state (T_DATAXFER ∷ []) e ≡ b → Able e (cond b (record e { release = None; state = T_INREL }) (Disconnect.idle e))
    go false j = inl refl
    go true j = inr (
      refl,
      λ d a b. (let s : e.state ≡ T_DATAXFER = only e.state T_DATAXFER j in
          let m : d.state ≡ T_OUTREL = only d.state T_OUTREL (release-waits (is_one_of (T_OUTREL ∷ []) d.state) (not (is_one_of (T_INREL ∷ []) e.state)) (sym parts.0.0 ∙ a.release)) in (
            record { states = ap (is_one_of (T_OUTREL ∷ [])) m; release = sym (ap (λ v. is_one_of (T_OUTREL ∷ []) v && false) m); confirmation = a.confirmation ∙ ap (is_one_of (T_OUTCON ∷ [])) s; finished = λ x. (nothing-waits e.normal parts.0.1, nothing-waits e.expedited parts.1) },
            record { states = ap (λ v. is_one_of (other_states v) T_INREL) m; release = b.release ∙ ap (λ v. is_one_of (T_OUTREL ∷ []) v && not (is_one_of (T_INREL ∷ []) d.state)) s; confirmation = b.confirmation; finished = b.finished },
          )),
    )

listening-unconnected : (s : State) → is_one_of (T_IDLE ∷ T_INCON ∷ []) s ≡ true → is_connected s ≡ false
listening-unconnected T_IDLE k = refl
listening-unconnected T_INCON k = refl
listening-unconnected s k = absurd (false≢true k)

abbrev pub unbind_rows : Endpoint → List Row
unbind_rows e = outside (T_IDLE ∷ []) e ∷ looks looks_unbind e ∷ []

-- Lists of changes.
module _ (p : Providers) (w : World) where
  pub easy-mild : (fd : ℕ) (f : Endpoint → Endpoint) → Easy f → AllMild p w (at_endpoint fd f ∷ [])
  easy-mild fd f k x = ((λ j e q. kept-easy p w x e (f e) (k e) q), tt)

  -- and then of the switch
  pub then-switch : (fd : ℕ) (f : Endpoint → Endpoint) (k : Switch → Switch) → AllMild p w (at_endpoint fd f ∷ []) → AllMild p w (at_endpoint fd f ∷ at_switch k ∷ [])
  then-switch fd f k a x = ((a x).0, (tt, tt))

  pub both-mild : (cs ds : List Change) → AllMild p w cs → AllMild p w ds → AllMild p w (cs ++ ds)
  both-mild cs ds a b x = append-keep (Kept p w x) x cs ds (a x) (b x)

  pub none-mild : AllMild p w []
  none-mild x = tt

  linked-mild : (fd : ℕ) (o : Option ℕ) (f : Endpoint → Endpoint) → Easy f → AllMild p w (at_linked fd o f)
  linked-mild fd None f k = none-mild
  linked-mild fd (Some y) f k = easy-mild y (if_names fd f) (λ e. either (names fd e.peer) e (f e) e (k e) (same e))

  pub take-mild : (t : Option Target) (reason : ℕ) (udata : List ℕ) → AllMild p w (take_back t reason udata)
  take-mild None reason udata = none-mild
  take-mild (Some t) reason udata = easy-mild t.listener (taken_back t.number reason udata) (taken-easy t.number reason udata)

  break-mild : (fd : ℕ) (e : Endpoint) (reason : ℕ) (udata : List ℕ) → AllMild p w (break fd e reason udata)
  break-mild fd e reason udata = both-mild (at_linked fd e.peer (broken reason udata)) (take_back e.target reason udata) (linked-mild fd e.peer (broken reason udata) (λ y. inl refl)) (take-mild e.target reason udata)

  pub callers-mild : (fd : ℕ) (is : List Indication) → AllMild p w (map (Close.give_up_caller fd) is)
  callers-mild fd [] = none-mild
  callers-mild fd (i ∷ is) = both-mild (Close.give_up_caller fd i ∷ []) (map (Close.give_up_caller fd) is) (easy-mild i.caller (Close.given_up fd i.number) (given-easy fd i.number)) (callers-mild fd is)

  close-mild : (fd : ℕ) (e : Endpoint) → AllMild p w (Close.changes p fd e)
  close-mild fd e = both-mild (break fd e 5 [] ++ map (Close.give_up_caller fd) (e.pending ++ e.outstanding)) (Close.closing p fd) (both-mild (break fd e 5 []) (map (Close.give_up_caller fd) (e.pending ++ e.outstanding)) (break-mild fd e 5 []) (callers-mild fd (e.pending ++ e.outstanding))) (λ x. ((λ j. tt), (tt, tt)))

  pub deliver-mild : (fd : ℕ) (address options bytes : List ℕ) (o : Option ℕ) (e : Endpoint) → AllMild p w (Datagrams.send_changes fd address options bytes o e)
  deliver-mild fd address options bytes None e = easy-mild fd _ (λ y. inr (refl, alike y _ refl refl refl refl refl))
  deliver-mild fd address options bytes (Some to) e = both-mild (at_endpoint to (Datagrams.with_datagram (Datagrams.datagram_from e options bytes)) ∷ []) (at_endpoint fd (Datagrams.mark_flow None) ∷ [])
      (easy-mild to (Datagrams.with_datagram (Datagrams.datagram_from e options bytes)) (λ y. inr (refl, alike y _ refl refl refl refl refl))) (easy-mild fd (Datagrams.mark_flow None) (λ y. inr (refl, alike y _ refl refl refl refl refl)))

module _ (p : Providers) (w : World) (z : SoundLinks p w) where
  -- of an endpoint that is in no connection
  pub free-mild : (fd : ℕ) (f : Endpoint → Endpoint) (e : Endpoint) → endpoint p w fd ≡ Some e → is_connected e.state ≡ false → ((y : Endpoint) → (f y).peer ≡ y.peer) → AllMild p w (at_endpoint fd f ∷ [])
  free-mild fd f e i n k x = ((λ j y q. kept-free p w x y (f y) (k y) (λ v o. subst (λ u. u.peer ≡ None) (some-is e v (sym i ∙ (ap (endpoint p w) (sym (eqb-true x fd j)) ∙ o))) ((z.good fd e i).unlinked n)) q), tt)

  pub request-mild : (fd : ℕ) (options udata : List ℕ) (e : Endpoint) (o : Option Connect.Found) → endpoint p w fd ≡ Some e → is_connected e.state ≡ false → AllMild p w (Connect.request fd options udata e o)
  request-mild fd options udata e None i n = free-mild fd (Connect.turned_away 1) e i n (λ y. refl)
  request-mild fd options udata e (Some l) i n = go (not (Connect.is_listening l.endpoint)) (Connect.is_full l.endpoint)
    where
      go : (x y : Bool) → AllMild p w (cond x (at_endpoint fd (Connect.turned_away 1) ∷ []) (cond y (at_endpoint fd (Connect.turned_away 2) ∷ []) (at_endpoint l.fd (Connect.asked fd (address_of e) options udata) ∷ at_endpoint fd (Connect.asking l.fd (l.endpoint.last_number + 1)) ∷ [])))
      go true y = free-mild fd (Connect.turned_away 1) e i n (λ y. refl)
      go false true = free-mild fd (Connect.turned_away 2) e i n (λ y. refl)
      go false false = both-mild p w (at_endpoint l.fd (Connect.asked fd (address_of e) options udata) ∷ []) (at_endpoint fd (Connect.asking l.fd (l.endpoint.last_number + 1)) ∷ []) (easy-mild p w l.fd (Connect.asked fd (address_of e) options udata) (λ y. inr (refl, alike y _ refl refl refl refl refl))) (free-mild fd (Connect.asking l.fd (l.endpoint.last_number + 1)) e i n (λ y. refl))

  snddis-mild : (fd number : ℕ) (udata : List ℕ) (e : Endpoint) → endpoint p w fd ≡ Some e → AllMild p w (Disconnect.send_changes fd number udata e)
  snddis-mild fd number udata e i = go (Disconnect.is_asked e) refl (find_number number e.outstanding)
    where
      go : (x : Bool) → Disconnect.is_asked e ≡ x → (o : Option Indication) → AllMild p w (cond x (Disconnect.reject fd udata o) (break fd e 4 udata ++ at_endpoint fd Disconnect.idle ∷ []))
      go true j None = none-mild p w
      go true j (Some r) = both-mild p w (at_endpoint fd (Listen.taken_out r.number) ∷ []) (at_endpoint r.caller (Disconnect.rejected udata) ∷ []) (free-mild fd (Listen.taken_out r.number) e i (ap is_connected (only e.state T_INCON j)) (λ y. refl)) (easy-mild p w r.caller (Disconnect.rejected udata) (λ y. inr (refl, alike y _ refl refl refl refl refl)))
      go false j o = both-mild p w (break fd e 4 udata) (at_endpoint fd Disconnect.idle ∷ []) (break-mild p w fd e 4 udata) (easy-mild p w fd Disconnect.idle (λ y. inl refl))

  cut-mild : (fd : ℕ) (e : Endpoint) → endpoint p w fd ≡ Some e → AllMild p w (at_endpoint fd Disconnect.received ∷ [])
  cut-mild fd e i x = ((λ j y q. go j y q (Disconnect.is_asked y) refl), tt)
    where
      asked : (j : eqb x fd ≡ true) (y : Endpoint) → Kept p w x (Some y) → Disconnect.is_asked y ≡ true → y.peer ≡ None
      asked j y (inl n) a = n
      asked j y (inr s) a = s.peer ∙ (z.good x s.e s.is_open).unlinked (ap is_connected (only s.e.state T_INCON (ap (is_one_of (T_INCON ∷ [])) (sym s.like.state) ∙ a)))

      go : (j : eqb x fd ≡ true) (y : Endpoint) → Kept p w x (Some y) → (b : Bool) → Disconnect.is_asked y ≡ b → Kept p w x (Some (cond b (record (Listen.taken_out (Disconnect.oldest y).number y) { disconnects = drop 1 y.disconnects }) (Disconnect.idle y)))
      go j y q true a = inl (asked j y q a)
      go j y q false a = inl refl

  pub bind-mild : (fd : ℕ) (address : List ℕ) (qlen amax : ℕ) (e : Endpoint) → endpoint p w fd ≡ Some e → has_effect (first (Bind.rows (the_switch p w) address qlen amax e)) ≡ true → AllMild p w (Bind.changes fd e.prov (chosen (the_switch p w) e.prov address) (Bind.queue e.prov qlen))
  bind-mild fd address qlen amax e i g =
      let s : e.state ≡ T_UNBND = only e.state T_UNBND (not-false (is_state (T_UNBND ∷ []) e) (cleared (Bind.rows (the_switch p w) address qlen amax e) g).0) in
      then-switch p w fd (Bind.bound_to (chosen (the_switch p w) e.prov address) (Bind.queue e.prov qlen)) (give_address e.prov (chosen (the_switch p w) e.prov address) fd (nat_lt 0 (Bind.queue e.prov qlen))) (free-mild fd _ e i (ap is_connected s) (λ y. refl))

  pub unbind-mild : (fd : ℕ) (e : Endpoint) → endpoint p w fd ≡ Some e → has_effect (first (unbind_rows e)) ≡ true → AllMild p w (at_endpoint fd Bind.unbound ∷ at_switch (give_up_address fd) ∷ [])
  unbind-mild fd e i g =
      let s : e.state ≡ T_IDLE = only e.state T_IDLE (not-false (is_state (T_IDLE ∷ []) e) (cleared (unbind_rows e) g).0) in
      then-switch p w fd Bind.unbound (give_up_address fd) (free-mild fd Bind.unbound e i (ap is_connected s) (λ y. refl))

  pub connect-mild : (fd : ℕ) (address options udata : List ℕ) (e : Endpoint) → endpoint p w fd ≡ Some e → has_effect (first (Connect.rows address options udata e)) ≡ true → AllMild p w (Connect.request fd options udata e (Connect.found p w fd address e))
  connect-mild fd address options udata e i g =
      let s : e.state ≡ T_IDLE = only e.state T_IDLE (not-false (is_state (T_IDLE ∷ []) e) (cleared (Connect.rows address options udata e) g).1.0) in
      request-mild fd options udata e (Connect.found p w fd address e) i (ap is_connected s)

  pub listen-mild : (fd amax omax umax : ℕ) (e : Endpoint) → endpoint p w fd ≡ Some e → has_effect (first (Listen.listen_rows amax omax umax e)) ≡ true → AllMild p w (at_endpoint fd Listen.listened ∷ [])
  listen-mild fd amax omax umax e i g = free-mild fd Listen.listened e i (listening-unconnected e.state (not-false (is_state (T_IDLE ∷ T_INCON ∷ []) e) (cleared (Listen.listen_rows amax omax umax e) g).1.0)) (λ y. refl)

-- Calls.
module _ (p : Providers) (w : World) (z : SoundLinks p w) (q : Paired p w) (h : Matched p w) where
  -- a call whose changes the rows let through
  when : (cs : List Change) (rows : List Row) (x : Plan) → (has_effect (first rows) ≡ true → Matched p (changed p w cs)) → x.rows ≡ rows → x.changes ≡ cs → x.lost ≡ cs → x.marks ≡ [] → Keeps (Matched p) p w x
  when cs rows x k r a b m = record { changes = λ g. subst (λ v. Matched p (changed p w v)) (sym a) (k (ap (λ v. has_effect (first v)) (sym r) ∙ g)); lost = λ g. subst (λ v. Matched p (changed p w v)) (sym b) (k (ap (λ v. has_effect (first v)) (sym r) ∙ g)); marks = λ g. subst (λ v. Matched p (changed p w v)) (sym m) h }

  mild : (cs : List Change) (x : Plan) → AllMild p w cs → x.changes ≡ cs → x.lost ≡ cs → x.marks ≡ [] → Keeps (Matched p) p w x
  mild cs x k a b m = when cs x.rows x (λ g. mild-matched p w cs k h) refl a b m

  own : (fd : ℕ) (f : Endpoint → Endpoint) (x : Plan) → Easy f → x.changes ≡ at_endpoint fd f ∷ [] → x.lost ≡ at_endpoint fd f ∷ [] → x.marks ≡ [] → Keeps (Matched p) p w x
  own fd f x k a b m = mild (at_endpoint fd f ∷ []) x (easy-mild p w fd f k) a b m

  still : (x : Plan) → x.changes ≡ [] → x.lost ≡ [] → x.marks ≡ [] → Keeps (Matched p) p w x
  still x a b m = mild [] x (none-mild p w) a b m

  on-open : (fd : ℕ) (f : Endpoint → Plan) → ((e : Endpoint) → endpoint p w fd ≡ Some e → Keeps (Matched p) p w (f e)) → Matched p (left_by w (step_of p w (if_open fd (endpoint p w fd) f)))
  on-open fd f k = call-keeps (Matched p) p w fd f h k

  -- an endpoint isn't its own peer
  pub not-own : (fd y : ℕ) (e : Endpoint) → endpoint p w fd ≡ Some e → e.peer ≡ Some y → eqb y fd ≡ false
  not-own fd y e i n = go (eqb y fd) refl
    where
      go : (b : Bool) → eqb y fd ≡ b → b ≡ false
      go false j = refl
      go true j = (let m : e.peer ≡ Some fd = n ∙ ap Some (eqb-true y fd j) in absurd (not-both (eqb fd fd) (q fd fd e e i i m m).1 (eq-eqb fd fd refl)))

  confirm-matched : (fd amax omax umax : ℕ) → Matched p (left_by w (step_of p w (Connect.confirm_plan p w fd amax omax umax)))
  confirm-matched fd amax omax umax = on-open fd _ (λ e i. when (at_endpoint fd Connect.confirmed ∷ []) (Connect.confirm_rows amax omax umax e) _
      (λ g. own-matched p w fd Connect.confirmed e i q h (inr (refl, λ d a b. confirmed-able e d (not-false (is_state (T_OUTCON ∷ []) e) (cleared (Connect.confirm_rows amax omax umax e) g).1.0) a b))) refl refl refl refl)

  rcvrel-matched : (fd umax : ℕ) (reply : Endpoint → Reply) → Matched p (left_by w (step_of p w (Release.taking_plan p w fd umax reply)))
  rcvrel-matched fd umax reply = on-open fd _ (λ e i. when (at_endpoint fd Release.after_receive ∷ []) (Release.receive_rows umax e) _
      (λ g. own-matched p w fd Release.after_receive e i q h (received-able e (not-false (is_here e event.T_ORDREL) (cleared (Release.receive_rows umax e) g).1.1.1.0))) refl refl refl refl)

  -- A send: the symbols go to an end that has not received a release.
  names-is : (fd : ℕ) (o : Option ℕ) → names fd o ≡ true → o ≡ Some fd
  names-is fd None k = absurd (false≢true k)
  names-is fd (Some y) k = ap Some (eqb-true y fd k)

  pub symbols-peer : (b : Bool) (symbols : List ℕ) (v : Endpoint) → (Send.received b symbols v).peer ≡ v.peer
  symbols-peer true symbols v = refl
  symbols-peer false symbols v = refl

  symbols-like : (b : Bool) (symbols : List ℕ) (v : Endpoint) → (is_one_of (T_INREL ∷ []) v.state ≡ true → ⊥) → Like v (Send.received b symbols v)
  symbols-like true symbols v k = record { state = refl; release = refl; confirmation = refl; normal = λ t n. n; expedited = λ t n. absurd (k t) }
  symbols-like false symbols v k = record { state = refl; release = refl; confirmation = refl; normal = λ t n. absurd (k t); expedited = λ t n. n }

  pub symbols-mild : (fd : ℕ) (e : Endpoint) → endpoint p w fd ≡ Some e → is_state sending e ≡ true → (b : Bool) (symbols : List ℕ) (o : Option ℕ) → e.peer ≡ o → AllMild p w (at_linked fd o (Send.received b symbols))
  symbols-mild fd e i u b symbols None n x = tt
  symbols-mild fd e i u b symbols (Some y) n x = ((λ j v k. named j v k (names fd v.peer) refl), tt)
    where
      open-end : eqb x y ≡ true → (v : Endpoint) → names fd v.peer ≡ true → (s : Was p w x v) → is_one_of (T_INREL ∷ []) v.state ≡ true → ⊥
      open-end j v k s t = sending-states s.e.state e.state (h x fd s.e e s.is_open i (sym s.peer ∙ names-is fd v.peer k) (n ∙ ap Some (sym (eqb-true x y j)))).states u (ap (is_one_of (T_INREL ∷ [])) (sym s.like.state) ∙ t)

      named : eqb x y ≡ true → (v : Endpoint) → Kept p w x (Some v) → (d : Bool) → names fd v.peer ≡ d → Kept p w x (Some (cond d (Send.received b symbols v) v))
      named j v k false m = k
      named j v (inl k) true m = inl (symbols-peer b symbols v ∙ k)
      named j v (inr s) true m = kept-easy p w x v (Send.received b symbols v) (inr (symbols-peer b symbols v, symbols-like b symbols v (open-end j v m s))) (inr s)

  pub took-mild : (fd : ℕ) (bytes : List ℕ) (flags taken now : ℕ) (e : Endpoint) → endpoint p w fd ≡ Some e → is_state sending e ≡ true → AllMild p w (Send.changes p fd bytes flags taken now e)
  took-mild fd bytes flags taken now e i u = both-mild p w (at_linked fd e.peer (Send.received (is_expedited flags) _)) (at_endpoint fd (Send.sent p (is_expedited flags) _ now) ∷ []) (symbols-mild fd e i u (is_expedited flags) _ e.peer refl) (easy-mild p w fd (Send.sent p (is_expedited flags) _ now) (sent-easy p (is_expedited flags) _ now))

  took : (fd : ℕ) (bytes : List ℕ) (flags taken now : ℕ) (e : Endpoint) → endpoint p w fd ≡ Some e → is_state sending e ≡ true → Matched p (changed p w (Send.changes p fd bytes flags taken now e))
  took fd bytes flags taken now e i u = mild-matched p w (Send.changes p fd bytes flags taken now e) (took-mild fd bytes flags taken now e i u) h

  send-matched : (fd number : ℕ) (bytes : List ℕ) (flags : ℕ) (g : Go) → Matched p (left_by w (step_of p w (send p w fd number bytes flags g)))
  send-matched fd number bytes flags go.Begin = on-open fd (λ e. Send.plan_to p fd number bytes flags 0 e (linked p w fd e)) (λ e i. record {
    changes = λ g. took fd bytes flags 0 _ e i (not-false (is_state sending e) (cleared (Send.rows p number bytes flags 0 (linked p w fd e) e) g).1.1.0);
    lost = λ g. took fd bytes flags 0 _ e i (not-false (is_state sending e) (cleared (Send.rows p number bytes flags 0 (linked p w fd e) e) g).1.1.0);
    marks = λ g. mild-matched p w (at_endpoint fd (Send.mark_flow (is_expedited flags) true) ∷ []) (easy-mild p w fd _ (flow-easy (is_expedited flags) true)) h;
  })
  send-matched fd number bytes flags (go.More n) = by (endpoint p w fd) refl
    where
      by : (o : Option Endpoint) → endpoint p w fd ≡ o → Matched p (left_by w (step_of p w (later_plan n (if_open fd o (λ e. Send.plan_to p fd number bytes flags n e (linked p w fd e))))))
      by None i = step-keeps (Matched p) p w (later_plan n (if_open fd None (λ e. Send.plan_to p fd number bytes flags n e (linked p w fd e)))) h (record { changes = λ g. h; lost = λ g. h; marks = λ g. h })
      by (Some e) i = step-keeps (Matched p) p w (later_plan n (Send.plan_to p fd number bytes flags n e (linked p w fd e))) h (record {
        changes = λ g. took fd bytes flags n _ e i (not-false (is_state sending e) (cleared (Send.rows p number bytes flags n (linked p w fd e) e) (sym (later-effect n (Send.rows p number bytes flags n (linked p w fd e) e)) ∙ g)).1.1.0);
        lost = λ g. took fd bytes flags n _ e i (not-false (is_state sending e) (cleared (Send.rows p number bytes flags n (linked p w fd e) e) (sym (later-effect n (Send.rows p number bytes flags n (linked p w fd e) e)) ∙ g)).1.1.0);
        marks = λ g. h;
      })

-- what an update made of an endpoint
pub mapped : (f : Endpoint → Endpoint) (o : Option Endpoint) (b : Endpoint) → option_map f o ≡ Some b → (d : Endpoint) × (o ≡ Some d) × (f d ≡ b)
mapped f None b j = absurd (none-is b j)
mapped f (Some d) b j = (d, refl, some-is (f d) b j)

pub told-peer : (udata : List ℕ) (fd : ℕ) (d : Endpoint) → (if_names fd (Release.released udata) d).peer ≡ d.peer
told-peer udata fd d = go (names fd d.peer)
  where
    go : (c : Bool) → (cond c (Release.released udata d) d).peer ≡ d.peer
    go true = refl
    go false = refl

pub told-is : (udata : List ℕ) (fd : ℕ) (d b : Endpoint) (c : Bool) → names fd d.peer ≡ c → if_names fd (Release.released udata) d ≡ b → cond c (Release.released udata d) d ≡ b
told-is udata fd d b c k j = ap (λ v. cond v (Release.released udata d) d) (sym k) ∙ j

-- A release is sent: it waits at the other end, where there is one.
module _ (p : Providers) (w : World) (h : Matched p w) (fd : ℕ) (udata : List ℕ) (y : ℕ) (e : Endpoint) (i : endpoint p w fd ≡ Some e) (n : e.peer ≡ Some y) (apart : eqb y fd ≡ false) where
  abbrev pub told : World
  told = one_world p w y (if_names fd (Release.released udata))

  abbrev after : World
  after = one_world p told fd Release.after_send

  still_there : endpoint p told fd ≡ Some e
  still_there = one-other p w y (if_names fd (Release.released udata)) fd (flip y fd apart) ∙ i

  -- who names another is as it was
  elsewhere : (x t : ℕ) (a : Endpoint) → endpoint p told x ≡ Some a → a.peer ≡ Some t → eqb t fd ≡ false → endpoint p w x ≡ Some a
  elsewhere x t a o k m = go (eqb x y) refl
    where
      go : (b : Bool) → eqb x y ≡ b → endpoint p w x ≡ Some a
      go false j = sym (one-other p w y (if_names fd (Release.released udata)) x j) ∙ o
      go true j =
          let l : x ≡ y = eqb-true x y j in
          let d = mapped (if_names fd (Release.released udata)) (endpoint p w y) a (sym (endpoint-same p y (if_names fd (Release.released udata)) w) ∙ (ap (endpoint p told) (sym l) ∙ o)) in
          let u : d.0.peer ≡ Some t = sym (told-peer udata fd d.0) ∙ (ap (λ v. v.peer) d.2 ∙ k) in
          ap (endpoint p w) l ∙ (d.1 ∙ ap Some (told-is udata fd d.0 a false (ap (names fd) u ∙ m) d.2))

  -- the other end has the release
  both-able : (b : Endpoint) → is_state (T_DATAXFER ∷ []) e ≡ true → endpoint p told y ≡ Some b → b.peer ≡ Some fd → LinkedWith (record e { state = T_OUTREL }) b × LinkedWith b (record e { state = T_OUTREL })
  both-able b s o k =
      let d = mapped (if_names fd (Release.released udata)) (endpoint p w y) b (sym (endpoint-same p y (if_names fd (Release.released udata)) w) ∙ o) in
      let u : d.0.peer ≡ Some fd = sym (told-peer udata fd d.0) ∙ (ap (λ v. v.peer) d.2 ∙ k) in
      let l : Release.released udata d.0 ≡ b = told-is udata fd d.0 b true (ap (names fd) u ∙ eq-eqb fd fd refl) d.2 in
      subst (λ v. LinkedWith (record e { state = T_OUTREL }) v × LinkedWith v (record e { state = T_OUTREL })) l (released-able udata e d.0 s (h fd y e d.0 i d.1 n u) (h y fd d.0 e d.1 i u n))

  -- the two ends in the next world
  ends : (x t : ℕ) (a b : Endpoint) → x ≡ fd → Release.after_send e ≡ a → a.peer ≡ Some t → endpoint p after t ≡ Some b → b.peer ≡ Some x → LinkedWith a b × LinkedWith b a
  ends x t a b k j m o u = go (is_state (T_DATAXFER ∷ []) e) refl j
    where
      go : (c : Bool) → is_state (T_DATAXFER ∷ []) e ≡ c → cond c (record e { state = T_OUTREL }) (Disconnect.idle e) ≡ a → LinkedWith a b × LinkedWith b a
      go false s l = absurd (none-is t (ap (λ v. v.peer) l ∙ m))
      go true s l =
          let r : y ≡ t = some-is y t (sym n ∙ (ap (λ v. v.peer) l ∙ m)) in
          subst (λ v. LinkedWith v b × LinkedWith b v) l (both-able b s (sym (one-other p told fd Release.after_send y apart) ∙ (ap (endpoint p after) r ∙ o)) (u ∙ ap Some k))

  release-matched : Matched p after
  release-matched x t a b o l r m = one-cases p told fd Release.after_send x e a still_there o
      (λ k1 k2. (ends x t a b k1 k2 r l m).0)
      (λ k1 k2. one-cases p told fd Release.after_send t e b still_there l
      (λ l1 l2. (ends t x b a l1 l2 m o r).1)
      (λ l1 l2. h x t a b (elsewhere x t a k2 r l1) (elsewhere t x b l2 m k1) r m))

module _ (p : Providers) (w : World) (z : SoundLinks p w) (q : Paired p w) (h : Matched p w) where
  sndrel-matched : (fd : ℕ) (udata : List ℕ) → Matched p (left_by w (step_of p w (Release.send_plan p w fd udata)))
  sndrel-matched fd udata = on-open p w z q h fd _ (λ e i. when p w z q h (at_linked fd e.peer (Release.released udata) ++ at_endpoint fd Release.after_send ∷ []) (Release.send_rows p udata e) _ (λ g. go e i e.peer refl) refl refl refl refl)
    where
      alone : (e : Endpoint) → e.peer ≡ None → (Release.after_send e).peer ≡ None
      alone e n = by (is_state (T_DATAXFER ∷ []) e)
        where
          by : (c : Bool) → (cond c (record e { state = T_OUTREL }) (Disconnect.idle e)).peer ≡ None
          by true = n
          by false = refl

      go : (e : Endpoint) → endpoint p w fd ≡ Some e → (o : Option ℕ) → e.peer ≡ o → Matched p (changed p w (at_linked fd o (Release.released udata) ++ at_endpoint fd Release.after_send ∷ []))
      go e i None n = own-matched p w fd Release.after_send e i q h (inl (alone e n))
      go e i (Some y) n = release-matched p w h fd udata y e i n (not-own p w z q h fd y e i n)

-- An accept: the two that are linked had no peer.
module _ (p : Providers) (w : World) (z : SoundLinks p w) (h : Matched p w) (fd resfd number : ℕ) (options udata : List ℕ) (e r : Endpoint) (i : Indication)
    (a : endpoint p w fd ≡ Some e) (b : endpoint p w resfd ≡ Some r) (c : Cleared (Listen.accept_rows p fd resfd number options udata e r)) (f : find_number number e.outstanding ≡ Some i) where
  ask : AskingCaller p w e.prov fd number i.caller
  ask = asks p w z fd resfd number options udata e r i a b c f

  pub apart : eqb i.caller resfd ≡ false
  apart = not_resfd p w z fd resfd number options udata e r i a b c f

  abbrev pub before : List Change
  before = at_endpoint fd (Listen.taken_out i.number) ∷ Listen.bind_like e resfd r

  pub before-mild : AllMild p w before
  before-mild = both-mild p w (at_endpoint fd (Listen.taken_out i.number) ∷ []) (Listen.bind_like e resfd r) (free-mild p w z fd (Listen.taken_out i.number) e a (ap is_connected (only e.state T_INCON (not-false (is_state (T_INCON ∷ []) e) c.1.0))) (λ y. refl)) (by (is_state (T_UNBND ∷ []) r))
    where
      by : (d : Bool) → AllMild p w (cond d (at_endpoint resfd (Listen.bound_like e) ∷ at_switch (give_address r.prov (address_of e) resfd false) ∷ []) [])
      by true = then-switch p w resfd (Listen.bound_like e) (give_address r.prov (address_of e) resfd false) (easy-mild p w resfd (Listen.bound_like e) (like-easy (address_of e)))
      by false = none-mild p w

  abbrev pub mid : World
  mid = changed p w before

  -- what is kept of the two
  abbrev pub Fresh : Option Endpoint → Type 0
  Fresh None = ⊥
  Fresh (Some y) = (y.peer ≡ None) × (y.release ≡ None) × (y.confirmation ≡ None)

  abbrev pub Calls : Option Endpoint → Type 0
  Calls None = ⊥
  Calls (Some y) = (y.peer ≡ None) × (y.release ≡ None) × (y.state ≡ T_OUTCON)

  keep-fresh : AllKeep Fresh resfd before
  keep-fresh = ((λ j y k. k), by (is_state (T_UNBND ∷ []) r))
    where
      by : (d : Bool) → AllKeep Fresh resfd (cond d (at_endpoint resfd (Listen.bound_like e) ∷ at_switch (give_address r.prov (address_of e) resfd false) ∷ []) [])
      by true = ((λ j y k. choice Fresh (is_state (T_UNBND ∷ []) y) (record y { address = Some (address_of e); qlen = 0 }) y k k), (tt, tt))
      by false = tt

  keep-calls : AllKeep Calls i.caller before
  keep-calls = ((λ j y k. absurd (not-both (eqb i.caller fd) (not_fd p w z fd resfd number options udata e r i a b c f) j)), by (is_state (T_UNBND ∷ []) r))
    where
      by : (d : Bool) → AllKeep Calls i.caller (cond d (at_endpoint resfd (Listen.bound_like e) ∷ at_switch (give_address r.prov (address_of e) resfd false) ∷ []) [])
      by true = ((λ j y k. choice Calls (is_state (T_UNBND ∷ []) y) (record y { address = Some (address_of e); qlen = 0 }) y k k), (tt, tt))
      by false = tt

  r_alone : r.peer ≡ None
  r_alone = (z.good resfd r b).unlinked (responder-state r.state (responder p w z fd resfd number options udata e r i a b c f)).0

  pub r_mid : Fresh (endpoint p mid resfd)
  r_mid = keeps p Fresh resfd before keep-fresh w (subst Fresh (sym b) (let g = (z.good resfd r b).empty r_alone in (r_alone, g.2, g.3)))

  pub c_mid : Calls (endpoint p mid i.caller)
  c_mid = keeps p Calls i.caller before keep-calls w (subst Calls (sym ask.is_open) (let g = z.good i.caller ask.e ask.is_open in let t = g.asking (ap is_some ask.has_target) in (t.1, (g.empty t.1).2, t.0)))

  linked-two : (address : List ℕ) → Matched p (changed p mid (Listen.linking resfd i address options udata))
  linked-two address = go (endpoint p mid resfd) refl r_mid (endpoint p mid i.caller) refl c_mid
    where
      go : (o : Option Endpoint) → endpoint p mid resfd ≡ o → Fresh o → (q : Option Endpoint) → endpoint p mid i.caller ≡ q → Calls q → Matched p (changed p mid (Listen.linking resfd i address options udata))
      go None j k q l m = absurd k
      go (Some y) j k None l m = absurd m
      go (Some y) j k (Some v) l m = two-matched p mid resfd i.caller (Listen.responding i) (Listen.accepted resfd address options udata) y v j l apart refl refl
          (record { states = ap (is_one_of (other_states T_DATAXFER)) m.2; release = ap is_some k.1 ∙ sym (ap (λ s. is_one_of (T_OUTREL ∷ []) s && true) m.2); confirmation = ap is_some k.2; finished = λ t. absurd (false≢true t) })
          (record { states = ap (λ s. is_one_of (other_states s) T_DATAXFER) m.2; release = ap is_some m.1; confirmation = sym (ap (is_one_of (T_OUTCON ∷ [])) m.2); finished = λ t. absurd (false≢true (sym (ap (is_one_of (T_INREL ∷ [])) m.2) ∙ t)) })
          (mild-matched p w before before-mild h)

  accepts-matched : Matched p (changed p w (Listen.accept_changes fd resfd i options udata e r))
  accepts-matched = subst (Matched p) (sym (changed-append p (one_world p w fd (Listen.taken_out i.number)) (Listen.bind_like e resfd r) (Listen.linking resfd i (address_of (Listen.bound_like e r)) options udata))) (linked-two (address_of (Listen.bound_like e r)))

module _ (p : Providers) (w : World) (z : SoundLinks p w) (q : Paired p w) (h : Matched p w) where
  accept-matched : (fd resfd number : ℕ) (options udata : List ℕ) → Matched p (left_by w (step_of p w (Listen.accept_plan p w fd resfd number options udata)))
  accept-matched fd resfd number options udata = on-open p w z q h fd (λ e. Listen.accept_with p fd resfd number options udata e (endpoint p w resfd))
      (accept-keeps (Matched p) p w fd resfd number options udata h (λ e r i a b c f. accepts-matched p w z h fd resfd number options udata e r i a b c f))

  open-matched : (prov : Prov) (nonblock : Bool) → Matched p (left_by w (step_of p w (Open.plan p w prov nonblock)))
  open-matched prov nonblock = go (opening_place p (the_switch p w) prov)
    where
      go : (o : Option ℕ) → Matched p (left_by w (step_of p w (Open.plan_where p (the_switch p w) prov nonblock o)))
      go None = step-keeps (Matched p) p w (Open.plan_where p (the_switch p w) prov nonblock None) h (record { changes = λ g. h; lost = λ g. h; marks = λ g. h })
      go (Some n) = step-keeps (Matched p) p w (Open.plan_where p (the_switch p w) prov nonblock (Some n)) h (record {
        changes = λ g. mild-matched p w (opens_place n (opened (profile p prov) prov nonblock) ∷ at_switch (mark_open n) ∷ []) (λ x. ((λ k. inl refl), (tt, tt))) h;
        lost = λ g. h;
        marks = λ g. h;
      })

  bind-matched : (fd : ℕ) (address : List ℕ) (qlen amax : ℕ) → Matched p (left_by w (step_of p w (Bind.plan p w fd address qlen amax)))
  bind-matched fd address qlen amax = on-open p w z q h fd (Bind.plan_in (the_switch p w) fd address qlen amax) (λ e i. when p w z q h (Bind.changes fd e.prov (chosen (the_switch p w) e.prov address) (Bind.queue e.prov qlen)) (Bind.rows (the_switch p w) address qlen amax e) _
      (λ g. mild-matched p w (Bind.changes fd e.prov (chosen (the_switch p w) e.prov address) (Bind.queue e.prov qlen)) (bind-mild p w z fd address qlen amax e i g) h) refl refl refl refl)

  unbind-matched : (fd : ℕ) → Matched p (left_by w (step_of p w (Bind.unbind_plan p w fd)))
  unbind-matched fd = on-open p w z q h fd _ (λ e i. when p w z q h (at_endpoint fd Bind.unbound ∷ at_switch (give_up_address fd) ∷ []) (unbind_rows e) _
      (λ g. mild-matched p w (at_endpoint fd Bind.unbound ∷ at_switch (give_up_address fd) ∷ []) (unbind-mild p w z fd e i g) h) refl refl refl refl)

  connect-matched : (fd : ℕ) (address options udata : List ℕ) → Matched p (left_by w (step_of p w (Connect.plan p w fd address options udata)))
  connect-matched fd address options udata = on-open p w z q h fd (λ e. Connect.plan_to fd address options udata e (Connect.found p w fd address e)) (λ e i. when p w z q h (Connect.request fd options udata e (Connect.found p w fd address e)) (Connect.rows address options udata e) _
      (λ g. mild-matched p w (Connect.request fd options udata e (Connect.found p w fd address e)) (connect-mild p w z fd address options udata e i g) h) refl refl refl refl)

  listen-matched : (fd amax omax umax : ℕ) → Matched p (left_by w (step_of p w (Listen.listen_plan p w fd amax omax umax)))
  listen-matched fd amax omax umax = on-open p w z q h fd _ (λ e i. when p w z q h (at_endpoint fd Listen.listened ∷ []) (Listen.listen_rows amax omax umax e) _
      (λ g. mild-matched p w (at_endpoint fd Listen.listened ∷ []) (listen-mild p w z fd amax omax umax e i g) h) refl refl refl refl)

  sndudata-matched : (fd : ℕ) (address options : List ℕ) (number : ℕ) (bytes : List ℕ) → Matched p (left_by w (step_of p w (Datagrams.send_plan p w fd address options number bytes)))
  sndudata-matched fd address options number bytes = on-open p w z q h fd (λ e. Datagrams.send_from p w fd address options number bytes e (bound (the_switch p w) e.prov address)) (λ e i. to e (bound (the_switch p w) e.prov address))
    where
      to : (e : Endpoint) (o : Option ℕ) → Keeps (Matched p) p w (Datagrams.send_from p w fd address options number bytes e o)
      to e o = record {
        changes = λ g. mild-matched p w (Datagrams.send_changes fd address options bytes o e) (deliver-mild p w fd address options bytes o e) h;
        lost = λ g. mild-matched p w (Datagrams.send_changes fd address options bytes o e) (deliver-mild p w fd address options bytes o e) h;
        marks = λ g. mild-matched p w (at_endpoint fd (Datagrams.mark_flow (Some address)) ∷ []) (easy-mild p w fd _ (λ y. inr (refl, alike y _ refl refl refl refl refl))) h;
      }

  rcvudata-matched : (fd sizes max amax omax : ℕ) → Matched p (left_by w (step_of p w (Datagrams.receive_plan p w fd sizes max amax omax)))
  rcvudata-matched fd sizes max amax omax = on-open p w z q h fd (Datagrams.receive_from fd sizes max amax omax) (λ e i. record {
    changes = λ g. mild-matched p w (at_endpoint fd (Datagrams.received max) ∷ []) (easy-mild p w fd _ (got-easy max)) h;
    lost = λ g. mild-matched p w (at_endpoint fd Datagrams.dropped ∷ []) (easy-mild p w fd _ (λ y. inr (refl, alike y _ refl refl refl refl refl))) h;
    marks = λ g. h;
  })

  pub next-matched : (c : Call) (g : Go) → Matched p (left_by w (step p w c g))
  unfolding step plan
  next-matched (call.TOpen prov nonblock) g = open-matched prov nonblock
  next-matched (call.TClose fd) g = on-open p w z q h fd.0 _ (λ e i. mild p w z q h (Close.changes p fd.0 e) _ (close-mild p w fd.0 e) refl refl refl)
  next-matched (call.TBind fd addr qlen amax) g = bind-matched fd.0 addr qlen amax
  next-matched (call.TUnbind fd) g = unbind-matched fd.0
  next-matched (call.TConnect fd addr opt udata amax omax umax) go.Begin = connect-matched fd.0 addr opt udata
  next-matched (call.TConnect fd addr opt udata amax omax umax) (go.More n) = confirm-matched p w z q h fd.0 amax omax umax
  next-matched (call.TRcvConnect fd amax omax umax) g = confirm-matched p w z q h fd.0 amax omax umax
  next-matched (call.TListen fd amax omax umax) g = listen-matched fd.0 amax omax umax
  next-matched (call.TAccept fd resfd seq opt udata) g = accept-matched fd.0 resfd.0 seq.0 opt udata
  next-matched (call.TSnd fd bytes flags) g = send-matched p w z q h fd.0 1 bytes flags g
  next-matched (call.TSndV fd parts flags) g = send-matched p w z q h fd.0 (length parts) (concat parts) flags g
  next-matched (call.TRcv fd max) g = on-open p w z q h fd.0 _ (λ e i. own p w z q h fd.0 (Receive.received p max) _ (read-easy p max) refl refl refl)
  next-matched (call.TRcvV fd sizes) g = on-open p w z q h fd.0 _ (λ e i. own p w z q h fd.0 (Receive.received p (sum sizes)) _ (read-easy p (sum sizes)) refl refl refl)
  next-matched (call.TSndDis fd seq udata) g = on-open p w z q h fd.0 _ (λ e i. mild p w z q h (Disconnect.send_changes fd.0 seq.0 udata e) _ (snddis-mild p w z fd.0 seq.0 udata e i) refl refl refl)
  next-matched (call.TRcvDis fd umax) g = on-open p w z q h fd.0 _ (λ e i. mild p w z q h (at_endpoint fd.0 Disconnect.received ∷ []) _ (cut-mild p w z fd.0 e i) refl refl refl)
  next-matched (call.TSndRel fd) g = sndrel-matched p w z q h fd.0 []
  next-matched (call.TRcvRel fd) g = rcvrel-matched p w z q h fd.0 0 _
  next-matched (call.TSndRelData fd udata) g = sndrel-matched p w z q h fd.0 udata
  next-matched (call.TRcvRelData fd umax) g = rcvrel-matched p w z q h fd.0 umax _
  next-matched (call.TSndUData fd addr opt bytes) g = sndudata-matched fd.0 addr opt 1 bytes
  next-matched (call.TSndVUData fd addr opt parts) g = sndudata-matched fd.0 addr opt (length parts) (concat parts)
  next-matched (call.TRcvUData fd max amax omax) g = rcvudata-matched fd.0 1 max amax omax
  next-matched (call.TRcvVUData fd sizes amax omax) g = rcvudata-matched fd.0 (length sizes) (sum sizes) amax omax
  next-matched (call.TRcvUDErr fd amax omax) g = on-open p w z q h fd.0 _ (λ e i. own p w z q h fd.0 Datagrams.without_error _ (λ y. inr (refl, alike y _ refl refl refl refl refl)) refl refl refl)
  next-matched (call.TLookAt fd) g = on-open p w z q h fd.0 (λ e. Show.look_in fd.0 e (around p w fd.0 e)) (λ e i. own p w z q h fd.0 (Show.shown (Show.first_pending (around p w fd.0 e) e)) _ (shown-easy (Show.first_pending (around p w fd.0 e) e)) refl refl refl)
  next-matched (call.TGetState fd) g = on-open p w z q h fd.0 _ (λ e i. still p w z q h _ refl refl refl)
  next-matched (call.TSync fd) g = on-open p w z q h fd.0 _ (λ e i. still p w z q h _ refl refl refl)
  next-matched (call.TGetInfo fd) g = on-open p w z q h fd.0 _ (λ e i. still p w z q h _ refl refl refl)
  next-matched (call.TGetProtAddr fd amax pmax) g = on-open p w z q h fd.0 _ (λ e i. still p w z q h _ refl refl refl)
  next-matched (call.TOptMgmt fd action opt omax) g = on-open p w z q h fd.0 (λ e. Show.option_plan_of fd.0 (Show.negotiated p action opt e) action opt omax e) (λ e i. own p w z q h fd.0 (Show.with_settings (Show.negotiated p action opt e).settings) _ (λ y. inr (refl, alike y _ refl refl refl refl refl)) refl refl refl)
  next-matched (call.SetMode fd nonblock) g = on-open p w z q h fd.0 _ (λ e i. own p w z q h fd.0 (Show.in_mode nonblock) _ (λ y. inr (refl, alike y _ refl refl refl refl refl)) refl refl refl)
