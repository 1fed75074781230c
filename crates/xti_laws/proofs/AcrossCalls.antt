-- The calls that change several endpoints keep a world sound: close, disconnect, release and send.
use Rattle.std.proofs.Common.{ℕ, Bool, true, false, List, [], ◌∷◌, ◌++◌, ◌≡◌, ◌≤◌, inr, refl, sym, ap, ◌∙◌, subst, eqb, cond, length, map, append_assoc, Option, Some, None, is_some, arith}
use Rattle.std.specs.Prelude.{nat_lt}
use Rattle.std.proofs.lemmas.Bool.{not-false, false≢true, eqb-true, ltb-false}
use Rattle.xti_base.specs.declared.kinds.State.TheVariants.{T_UNBND, T_INCON, T_DATAXFER, T_OUTREL}
use Rattle.xti_base.specs.declared.kinds.Event.TheVariants as event
use Rattle.xti_model.specs.declared.profile.Providers.{Providers}
use Rattle.xti_model.specs.Provider.{has_release_data}
use Rattle.xti_model.specs.Endpoint.{Endpoint, Indication, Target, find_number, without_number, disconnected, is_target}
use Rattle.xti_model.specs.World.{World, at_endpoint, closes_endpoint, changed, endpoint}
use Rattle.xti_model.specs.Links.{names, if_names, at_linked, take_back, taken_back, break, broken}
use Rattle.xti_model.specs.Events.{is_state, some_wait, sending, connected_or_asking}
use Rattle.xti_model.specs.Plan.{first, has_effect}
use Rattle.xti_model.specs.Step.{step_of}
use Rattle.xti_model.specs.History.{left_by}
use Rattle.xti_model.specs.Calls.Close as Close
use Rattle.xti_model.specs.Calls.Listen as Listen
use Rattle.xti_model.specs.Calls.Disconnect as Disconnect
use Rattle.xti_model.specs.Calls.Release as Release
use Rattle.xti_laws.proofs.ChangedEndpoints.{changed-append, closed-same, closed-other}
use Rattle.xti_laws.specs.Requests.{SoundRequests, disconnects_with}
use Rattle.xti_laws.proofs.KeptEndpoints.{AllKeep, append-keep, keeps}
use Rattle.xti_laws.proofs.StepWays.{none-is}
use Rattle.xti_laws.proofs.OneChange.{one_world}
use Rattle.xti_laws.proofs.EndpointUpdates.{target-none, peer-connected}
use Rattle.xti_laws.proofs.ListenerUpdates.{asked-hears}
use Rattle.xti_laws.specs.Endpoints.{SoundEndpoint}
use Rattle.xti_laws.specs.Requests.{is_one_of}
use Rattle.xti_laws.specs.Invariant.{Registered, SoundEndpoints, SoundWorld}
use Rattle.xti_laws.proofs.PassedRows.{call-keeps}
use Rattle.xti_laws.proofs.ClearedRows.{cleared}
use Rattle.xti_laws.proofs.States.{busy-sending, busy-connected, asking-bound}
use Rattle.xti_laws.proofs.Updates.{asked-alone, fit-broken, fit-taken_back, fit-given_up, fit-idle, fit-taken_out, fit-rejected, fit-named, fit-released}
use Rattle.xti_laws.proofs.ReleaseAndDatagramUpdates.{fit-after_send}
use Rattle.xti_laws.proofs.QuietChanges.{Quiet, Parts, calm_at, AllCalm, calm-parts, one-parts, own-parts, switch-fit, quiet-named, quiet-cond}
use Rattle.xti_laws.proofs.Registering.{closes-registered}
use Rattle.xti_laws.proofs.OwnCalls.{parts, nothing}

-- What changes of others leave of an endpoint.
abbrev pub KeepsAt : (Option Endpoint → Type 0) → (Endpoint → Endpoint) → Type 0
KeepsAt Q f = (e : Endpoint) → Q (Some e) → Q (Some (f e))

abbrev pub choice : (Q : Option Endpoint → Type 0) (b : Bool) (x y : Endpoint) → Q (Some x) → Q (Some y) → Q (Some (cond b x y))
choice Q true x y h k = h
choice Q false x y h k = k

linked-keep : (Q : Option Endpoint → Type 0) (z fd : ℕ) (o : Option ℕ) (f : Endpoint → Endpoint) → KeepsAt Q f → AllKeep Q z (at_linked fd o f)
linked-keep Q z fd None f k = tt
linked-keep Q z fd (Some y) f k = ((λ j e q. choice Q (names fd e.peer) (f e) e (k e q) q), tt)

take-keep : (Q : Option Endpoint → Type 0) (z : ℕ) (t : Option Target) (reason : ℕ) (udata : List ℕ) → ((n : ℕ) → KeepsAt Q (taken_back n reason udata)) → AllKeep Q z (take_back t reason udata)
take-keep Q z None reason udata k = tt
take-keep Q z (Some t) reason udata k = ((λ j e q. k t.number e q), tt)

callers-keep : (Q : Option Endpoint → Type 0) (z fd : ℕ) (is : List Indication) → ((n : ℕ) → KeepsAt Q (Close.given_up fd n)) → AllKeep Q z (map (Close.give_up_caller fd) is)
callers-keep Q z fd [] k = tt
callers-keep Q z fd (i ∷ is) k = ((λ j e q. k i.number e q), callers-keep Q z fd is k)

-- it is open, and is bound
abbrev IsBound : Option Endpoint → Type 0
IsBound None = ⊥
IsBound (Some e) = is_one_of (T_UNBND ∷ []) e.state ≡ false

abbrev IsOpen : Option Endpoint → Type 0
IsOpen None = ⊥
IsOpen (Some e) = Unit {0}

break-keep : (Q : Option Endpoint → Type 0) (z fd : ℕ) (e : Endpoint) (reason : ℕ) (udata : List ℕ) → KeepsAt Q (broken reason udata) → ((n : ℕ) → KeepsAt Q (taken_back n reason udata)) → AllKeep Q z (break fd e reason udata)
break-keep Q z fd e reason udata a b = append-keep Q z (at_linked fd e.peer (broken reason udata)) (take_back e.target reason udata) (linked-keep Q z fd e.peer (broken reason udata) a) (take-keep Q z e.target reason udata b)

bound-taken : (reason : ℕ) (udata : List ℕ) (n : ℕ) → KeepsAt IsBound (taken_back n reason udata)
bound-taken reason udata n e q = choice IsBound (is_some (find_number n e.pending)) (record e { pending = without_number n e.pending }) (cond (is_some (find_number n e.outstanding)) (disconnected reason n udata e) e) q (choice IsBound (is_some (find_number n e.outstanding)) (disconnected reason n udata e) e q q)

pub no-cut : (b : Bool) → is_some (cond b (Some event.T_DISCONNECT) None) ≡ false → b ≡ false
no-cut true h = absurd (false≢true (sym h))
no-cut false h = refl

-- it asks for a connection
abbrev pub Asks : Option Endpoint → Type 0
Asks None = Unit {0}
Asks (Some y) = is_some y.target ≡ true

module _ (p : Providers) (w : World) (h : SoundWorld p w) (fd : ℕ) where
  -- the endpoint that this one is linked with changes
  linked-parts : (o : Option ℕ) (f : Endpoint → Endpoint) → Quiet f → ((e : Endpoint) → SoundRequests e → e.peer ≡ Some fd → SoundEndpoint e → SoundEndpoint (f e)) → Parts p (changed p w (at_linked fd o f))
  linked-parts None f q k = parts p w h
  linked-parts (Some y) f q k = one-parts p w y (if_names fd f) (quiet-named fd f q) (λ e i. (let s = h.endpoints y e i in fit-named fd f e s (λ j. k e (h.links.good y e i) j s))) (parts p w h)

  taken-quiet : (n reason : ℕ) (udata : List ℕ) → Quiet (taken_back n reason udata)
  taken-quiet n reason udata z e = quiet-cond (is_some (find_number n e.pending)) (record e { pending = without_number n e.pending }) (cond (is_some (find_number n e.outstanding)) (disconnected reason n udata e) e) e z refl (quiet-cond (is_some (find_number n e.outstanding)) (disconnected reason n udata e) e e z refl refl)

  break-parts : (reason : ℕ) (udata : List ℕ) (e : Endpoint) → endpoint p w fd ≡ Some e → length udata ≤ 64 → Parts p (changed p w (break fd e reason udata))
  break-parts reason udata e i l = go e.target refl
    where
      go : (z : Option Target) → e.target ≡ z → Parts p (changed p w (at_linked fd e.peer (broken reason udata) ++ take_back z reason udata))
      go None j = subst (Parts p) (sym (changed-append p w (at_linked fd e.peer (broken reason udata)) [])) (linked-parts e.peer (broken reason udata) (λ z y. refl) (λ y g j s. fit-broken reason udata y l (busy-connected y.state (peer-connected y fd g j)).not_resting s))
      go (Some t) j = subst (λ z. Parts p (changed p w (at_linked fd z (broken reason udata) ++ take_back (Some t) reason udata))) (sym ((h.links.good fd e i).asking (ap is_some j)).1)
          (one-parts p w t.listener (taken_back t.number reason udata) (taken-quiet t.number reason udata) (λ y k. fit-taken_back t.number reason udata y l (h.links.good t.listener y k) (h.endpoints t.listener y k)) (parts p w h))

  -- Close.
  given-quiet : (n : ℕ) → Quiet (Close.given_up fd n)
  given-quiet n z e = quiet-cond (is_target fd n e.target) (record (disconnected 5 0 [] e) { target = None }) e e z refl refl

  callers-calm : (is : List Indication) → AllCalm (map (Close.give_up_caller fd) is)
  callers-calm [] = tt
  callers-calm (i ∷ is) = (calm_at i.caller (Close.given_up fd i.number) (given-quiet i.number) (λ e s. fit-given_up fd i.number e s), callers-calm is)

  closing-parts : (v : World) → IsOpen (endpoint p v fd) → Parts p v → Parts p (changed p v (Close.closing p fd))
  closing-parts v o k = (registered (endpoint p v fd) refl o, closed)
    where
      registered : (z : Option Endpoint) → endpoint p v fd ≡ z → IsOpen z → Registered p (changed p v (Close.closing p fd))
      registered None j q = absurd q
      registered (Some e) j q = closes-registered p v fd e j k.0

      closed : SoundEndpoints p (changed p v (Close.closing p fd))
      closed = switch-fit p (changed p v (closes_endpoint fd ∷ [])) (Close.forget p fd) (λ x e i. go x e i (eqb x fd) refl)
        where
          go : (x : ℕ) (e : Endpoint) → endpoint p (changed p v (closes_endpoint fd ∷ [])) x ≡ Some e → (b : Bool) → eqb x fd ≡ b → SoundEndpoint e
          go x e i true j = absurd (none-is e (sym (closed-same p fd v) ∙ (ap (endpoint p (changed p v (closes_endpoint fd ∷ []))) (sym (eqb-true x fd j)) ∙ i)))
          go x e i false j = k.1 x e (sym (closed-other p fd x j v) ∙ i)

  pub close-parts : Parts p (left_by w (step_of p w (Close.plan p w fd)))
  close-parts = call-keeps (Parts p) p w fd _ (parts p w h) (λ e i. record { changes = λ g. took e i; lost = λ g. took e i; marks = λ g. parts p w h })
    where
      took : (e : Endpoint) → endpoint p w fd ≡ Some e → Parts p (changed p w (Close.changes p fd e))
      took e i =
          let a : Parts p (changed p w (break fd e 5 [])) = break-parts 5 [] e i (omega arith) in
          let b : Parts p (changed p (changed p w (break fd e 5 [])) (map (Close.give_up_caller fd) (e.pending ++ e.outstanding))) = calm-parts p (map (Close.give_up_caller fd) (e.pending ++ e.outstanding)) (callers-calm (e.pending ++ e.outstanding)) (changed p w (break fd e 5 [])) a in
          let o : IsOpen (endpoint p (changed p w (break fd e 5 [])) fd) = keeps p IsOpen fd (break fd e 5 []) (break-keep IsOpen fd fd e 5 [] (λ y q. tt) (λ n y q. tt)) w (subst IsOpen (sym i) tt) in
          let o' : IsOpen (endpoint p (changed p (changed p w (break fd e 5 [])) (map (Close.give_up_caller fd) (e.pending ++ e.outstanding))) fd) = keeps p IsOpen fd (map (Close.give_up_caller fd) (e.pending ++ e.outstanding)) (callers-keep IsOpen fd fd (e.pending ++ e.outstanding) (λ n y q. tt)) (changed p w (break fd e 5 [])) o in
          let k : Parts p (changed p (changed p w (break fd e 5 [])) (map (Close.give_up_caller fd) (e.pending ++ e.outstanding) ++ Close.closing p fd)) =
          subst (Parts p) (sym (changed-append p (changed p w (break fd e 5 [])) (map (Close.give_up_caller fd) (e.pending ++ e.outstanding)) (Close.closing p fd))) (closing-parts _ o' b) in
          subst (λ y. Parts p y) (sym (ap (changed p w) (append_assoc (break fd e 5 []) (map (Close.give_up_caller fd) (e.pending ++ e.outstanding)) (Close.closing p fd)) ∙ changed-append p w (break fd e 5 []) (map (Close.give_up_caller fd) (e.pending ++ e.outstanding) ++ Close.closing p fd))) k

  -- Disconnect: the endpoint breaks and idles.
  idles-parts : (udata : List ℕ) (e : Endpoint) → endpoint p w fd ≡ Some e → length udata ≤ 64 → is_one_of (T_UNBND ∷ []) e.state ≡ false → Parts p (changed p w (break fd e 4 udata ++ at_endpoint fd Disconnect.idle ∷ []))
  idles-parts udata e i l n = subst (λ y. Parts p y) (sym (changed-append p w (break fd e 4 udata) (at_endpoint fd Disconnect.idle ∷ [])))
      (let a : Parts p (changed p w (break fd e 4 udata)) = break-parts 4 udata e i l in
      let o : IsBound (endpoint p (changed p w (break fd e 4 udata)) fd) = keeps p IsBound fd (break fd e 4 udata) (break-keep IsBound fd fd e 4 udata (λ y q. q) (λ m. bound-taken 4 udata m)) w (subst IsBound (sym i) n) in
      one-parts p (changed p w (break fd e 4 udata)) fd Disconnect.idle (λ z y. refl) (λ y j. fit-idle y (subst IsBound j o) (a.1 fd y j)) a)

  -- a request is rejected
  rejects-parts : (number : ℕ) (udata : List ℕ) (e : Endpoint) → endpoint p w fd ≡ Some e → length udata ≤ 64 → is_one_of (T_INCON ∷ []) e.state ≡ true → e.disconnects ≡ [] → (q : Option Indication) → find_number number e.outstanding ≡ q → Parts p (changed p w (Disconnect.reject fd udata q))
  rejects-parts number udata e i l a n None f = parts p w h
  rejects-parts number udata e i l a n (Some r) f =
      let t : e.target ≡ None = target-none e (h.links.good fd e i) (asked-hears e.state a).not_out in
      let s : SoundEndpoint (Listen.taken_out r.number e) = fit-taken_out r.number e.disconnects e a t (asked-alone e (h.links.good fd e i) a) (λ o. n) (h.endpoints fd e i).disconnecting.short (h.endpoints fd e i) in
      let k : Parts p (one_world p w fd (Listen.taken_out r.number)) = own-parts p w fd (Listen.taken_out r.number) e (λ z y. refl) i s (parts p w h) in
      one-parts p (one_world p w fd (Listen.taken_out r.number)) r.caller (Disconnect.rejected udata) (λ z y. refl) (λ y j. fit-rejected udata y (asks y j) l (k.1 r.caller y j)) k
    where
      asks : (y : Endpoint) → endpoint p (one_world p w fd (Listen.taken_out r.number)) r.caller ≡ Some y → is_some y.target ≡ true
      asks y j = (let b = (h.links.asked fd number r.caller e i (record { i = r; is_caller = refl; is_found = inr (f, ap (disconnects_with number) n) })).1 in
          subst Asks j (keeps p Asks r.caller (at_endpoint fd (Listen.taken_out r.number) ∷ []) ((λ x z q. q), tt) w (subst Asks (sym b.is_open) (ap is_some b.has_target))))

  pub snddis-parts : (number : ℕ) (udata : List ℕ) → Parts p (left_by w (step_of p w (Disconnect.send_plan p w fd number udata)))
  snddis-parts number udata = call-keeps (Parts p) p w fd _ (parts p w h) (λ e i. record { changes = effect e i; lost = effect e i; marks = λ g. parts p w h })
    where
      took : (e : Endpoint) → endpoint p w fd ≡ Some e → length udata ≤ 64 → is_one_of (T_UNBND ∷ []) e.state ≡ false → e.disconnects ≡ [] → (b : Bool) → Disconnect.is_asked e ≡ b → Parts p (changed p w (cond b (Disconnect.reject fd udata (find_number number e.outstanding)) (break fd e 4 udata ++ at_endpoint fd Disconnect.idle ∷ [])))
      took e i l n d true a = rejects-parts number udata e i l a d (find_number number e.outstanding) refl
      took e i l n d false a = idles-parts udata e i l n

      effect : (e : Endpoint) → endpoint p w fd ≡ Some e → has_effect (first (Disconnect.send_rows number udata e)) ≡ true → Parts p (changed p w (Disconnect.send_changes fd number udata e))
      effect e i g =
          let c = cleared (Disconnect.send_rows number udata e) g in
          took e i (ltb-false 64 (length udata) c.1.1.1.0) (asking-bound e.state (not-false (is_state connected_or_asking e) c.1.0)) (nothing e.disconnects (no-cut (some_wait e.disconnects) c.1.1.1.1.0)) (Disconnect.is_asked e) refl

  -- Release.
  after-quiet : Quiet Release.after_send
  after-quiet z e = quiet-cond (is_state (T_DATAXFER ∷ []) e) (record e { state = T_OUTREL }) (Disconnect.idle e) e z refl refl

  -- data that go with a release are few
  few-released : (b : Bool) (udata : List ℕ) → nat_lt (cond b 64 0) (length udata) ≡ false → length udata ≤ 64
  few-released true udata k = ltb-false 64 (length udata) k
  few-released false udata k = (let q = ltb-false 0 (length udata) k in omega arith)

  pub sndrel-parts : (udata : List ℕ) → Parts p (left_by w (step_of p w (Release.send_plan p w fd udata)))
  sndrel-parts udata = call-keeps (Parts p) p w fd _ (parts p w h) (λ e i. record { changes = effect e i; lost = effect e i; marks = λ g. parts p w h })
    where
      effect : (e : Endpoint) → endpoint p w fd ≡ Some e → has_effect (first (Release.send_rows p udata e)) ≡ true → Parts p (changed p w (at_linked fd e.peer (Release.released udata) ++ at_endpoint fd Release.after_send ∷ []))
      effect e i g =
          let c = cleared (Release.send_rows p udata e) g in
          let n = (busy-sending e.state (not-false (is_state sending e) c.1.0)).not_unbound in
          let l = few-released (has_release_data p e.prov) udata c.1.1.0 in
          let a : Parts p (changed p w (at_linked fd e.peer (Release.released udata))) = linked-parts e.peer (Release.released udata) (λ z y. refl) (λ y g j s. fit-released udata y l s) in
          let o : IsBound (endpoint p (changed p w (at_linked fd e.peer (Release.released udata))) fd) = keeps p IsBound fd (at_linked fd e.peer (Release.released udata)) (linked-keep IsBound fd fd e.peer (Release.released udata) (λ y q. q)) w (subst IsBound (sym i) n) in
          subst (λ y. Parts p y) (sym (changed-append p w (at_linked fd e.peer (Release.released udata)) (at_endpoint fd Release.after_send ∷ [])))
          (one-parts p (changed p w (at_linked fd e.peer (Release.released udata))) fd Release.after_send after-quiet (λ y j. fit-after_send y (subst IsBound j o) (a.1 fd y j)) a)
