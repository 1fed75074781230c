-- The calls that change one endpoint, or a listener and its caller, keep a world sound.
use Rattle.std.proofs.Common.{ℕ, Bool, true, false, List, [], ◌∷◌, ◌+◌, ◌≡◌, ◌≤◌, refl, sym, ap, ◌∙◌, subst, eqb, cond, not, length, min, ◌&&◌, ◌||◌, filter, Option, Some, None, is_some, is_none, arith}
use Rattle.std.specs.Prelude.{option_map, nat_lt, unwrap_or, drop}
use Rattle.std.specs.List.{list_any}
use Rattle.std.proofs.lemmas.Bool.{not-false, or_parts, false≢true, ltb-true, ltb-false, lt-ltb}
use Rattle.xti_base.specs.declared.kinds.Prov.{Prov}
use Rattle.xti_base.specs.declared.kinds.Prov.TheVariants.{Ticlts}
use Rattle.xti_base.specs.declared.kinds.State.TheVariants.{T_UNBND, T_IDLE, T_INCON, T_OUTCON, T_DATAXFER, T_INREL}
use Rattle.xti_base.specs.declared.kinds.Event.TheVariants as event
use Rattle.xti_model.specs.declared.entry.Reply.{Reply}
use Rattle.xti_model.specs.declared.profile.Providers.{Providers}
use Rattle.xti_model.specs.Provider.{has_datagrams}
use Rattle.xti_model.specs.Endpoint.{Endpoint, Target, address_of}
use Rattle.xti_model.specs.World.{World, Switch, Binding, at_endpoint, at_switch, changed, endpoint, the_switch}
use Rattle.xti_model.specs.Switch.{bound, is_bound, is_listening, has_listener, listener, chosen, give_address, give_up_address}
use Rattle.xti_model.specs.Symbols.{rest}
use Rattle.xti_model.specs.Events.{is_state, some_wait, looks_unbind, receiving, connected_or_asking}
use Rattle.xti_model.specs.Plan.{Row, Plan, first, outside, looks, has_effect}
use Rattle.xti_model.specs.Step.{step_of}
use Rattle.xti_model.specs.History.{left_by}
use Rattle.xti_model.specs.Calls.Bind as Bind
use Rattle.xti_model.specs.Calls.Connect as Connect
use Rattle.xti_model.specs.Calls.Listen as Listen
use Rattle.xti_model.specs.Calls.Receive as Receive
use Rattle.xti_model.specs.Calls.Disconnect as Disconnect
use Rattle.xti_model.specs.Calls.Release as Release
use Rattle.xti_laws.specs.Requests.{SoundRequests}
use Rattle.xti_laws.proofs.AcceptEnds.{same-prov}
use Rattle.xti_laws.proofs.StepWays.{flip, not-both}
use Rattle.xti_laws.proofs.OneChange.{one_world, one-other}
use Rattle.xti_laws.proofs.EndpointUpdates.{target-none, only-idle}
use Rattle.xti_laws.proofs.Bindings.{Found, listener-found}
use Rattle.xti_laws.specs.Endpoints.{SoundEndpoint, ShortAddress}
use Rattle.xti_laws.specs.Requests.{is_one_of}
use Rattle.xti_laws.specs.Invariant.{SoundWorld}
use Rattle.xti_laws.proofs.CountingBindings.{few-in-either, chosen-free, chosen-short}
use Rattle.xti_laws.proofs.BindingFilters.{unbound-none}
use Rattle.xti_laws.proofs.PassedRows.{Keeps, call-keeps}
use Rattle.xti_laws.proofs.ClearedRows.{cleared}
use Rattle.xti_laws.proofs.States.{only, busy-out, busy-receiving, asking-bound}
use Rattle.xti_laws.proofs.Updates.{idle-alone, fit-bound, fit-unbound, fit-turned_away, fit-asked, fit-asking, fit-confirmed, fit-listened, fit-read}
use Rattle.xti_laws.proofs.ReleaseAndDatagramUpdates.{fit-after_receive, fit-cut_received}
use Rattle.xti_laws.proofs.QuietChanges.{Quiet, Parts, own-parts, one-fit, switch-fit, quiet-cond}
use Rattle.xti_laws.proofs.Registering.{MayGive, gives-registered, gives_up-registered}
use Rattle.xti_base.specs.declared.limits.TheConstants.{MOST_PLACES}

pub parts : (p : Providers) (w : World) → SoundWorld p w → Parts p w
parts p w h = (h.registered, h.endpoints)

-- What rows say.
pub none-none : {A : Type 0} (o : Option A) → is_none o ≡ true → o ≡ None
none-none None h = refl
none-none (Some x) h = absurd (false≢true h)

pub nothing : {A : Type 0} (xs : List A) → some_wait xs ≡ false → xs ≡ []
nothing [] h = refl
nothing (x ∷ xs) h = absurd (false≢true (sym h))

pub looked-two : (a b : Bool) → is_some (cond a (Some event.T_DISCONNECT) (cond b (Some event.T_LISTEN) None)) ≡ false → (a ≡ false) × (b ≡ false)
looked-two true b h = absurd (false≢true (sym h))
looked-two false true h = absurd (false≢true (sym h))
looked-two false false h = (refl, refl)

looked-unbind : (a b : Bool) → is_some (cond a (Some event.T_LISTEN) (cond b (Some event.T_DATA) None)) ≡ false → a ≡ false
looked-unbind true b h = absurd (false≢true (sym h))
looked-unbind false b h = refl

pub few-options : (options : List ℕ) (b : Bool) → (nat_lt 256 (length options) || b) ≡ false → length options ≤ 256
few-options options b c = ltb-false 256 (length options) (or_parts (nat_lt 256 (length options)) b c).0

pub short-address : (o : Option (List ℕ)) → ShortAddress o → length (unwrap_or o []) ≤ 64
short-address None h = omega arith
short-address (Some a) h = h

-- Bind.
not-some : (o : Option ℕ) → is_some o ≡ false → o ≡ None
not-some None h = refl
not-some (Some n) h = absurd (false≢true (sym h))

choice-short : (s : Switch) (prov : Prov) (address : List ℕ) → length s.bindings ≤ MOST_PLACES → length address ≤ 64 → length (chosen s prov address) ≤ 64
choice-short s prov [] l h = omega (arith, chosen-short s prov l)
choice-short s prov (a ∷ address) l h = h

queue-few : (prov : Prov) (qlen : ℕ) → Bind.queue prov qlen ≤ 8
queue-few prov qlen = go (has_datagrams prov)
  where
    go : (d : Bool) → cond d 0 (min qlen 8) ≤ 8
    go true = omega arith
    go false = omega arith

queue-none : (prov : Prov) (qlen : ℕ) → has_datagrams prov ≡ true → Bind.queue prov qlen ≡ 0
queue-none prov qlen h = ap (λ d. cond d 0 (min qlen 8)) h

-- the row that asks for connections
pub connects : (d : Bool) → not (not d) ≡ false → d ≡ false
connects true h = absurd (false≢true (sym h))
connects false h = refl

none-heard : (prov : Prov) (address : List ℕ) (bs : List Binding) → filter (is_bound prov address) bs ≡ [] → list_any (is_listening prov address) bs ≡ false
none-heard prov address [] h = refl
none-heard prov address (b ∷ bs) h = go (is_bound prov address b) h (none-heard prov address bs)
  where
    go : (d : Bool) → cond d (b ∷ filter (is_bound prov address) bs) (filter (is_bound prov address) bs) ≡ [] → (filter (is_bound prov address) bs ≡ [] → list_any (is_listening prov address) bs ≡ false) → ((d && b.listening) || list_any (is_listening prov address) bs) ≡ false
    go true h k = absurd (cc)
    go false h k = k h

may-give : (s : Switch) (prov : Prov) (address : List ℕ) (qlen : ℕ) → length s.bindings ≤ MOST_PLACES → Bind.is_busy s prov address qlen ≡ false → MayGive s prov (chosen s prov address) (nat_lt 0 (Bind.queue prov qlen))
may-give s prov [] qlen l h = record {
  is_free = λ k. subst (λ z. bound s z (chosen s prov []) ≡ None) (same-prov prov Ticlts k) (chosen-free s prov l);
  is_unheard = λ k. none-heard prov (chosen s prov []) s.bindings (unbound-none s prov (chosen s prov []) (chosen-free s prov l));
}
may-give s prov (a ∷ address) qlen l h = record {
  is_free = λ k. (let e = same-prov prov Ticlts k in not-some (bound s Ticlts (a ∷ address)) (subst (λ z. Bind.is_busy s z (a ∷ address) qlen ≡ false) e h));
  is_unheard = λ k. unheard (has_datagrams prov) h k;
}
  where
    second : (x y : Bool) → (x && y) ≡ false → x ≡ true → y ≡ false
    second true y j k = j
    second false y j k = absurd (false≢true k)

    unheard : (d : Bool) → cond d (is_some (bound s prov (a ∷ address))) (nat_lt 0 qlen && has_listener s prov (a ∷ address)) ≡ false → nat_lt 0 (cond d 0 (min qlen 8)) ≡ true → has_listener s prov (a ∷ address) ≡ false
    unheard true j k = absurd (false≢true k)
    unheard false j k = second (nat_lt 0 qlen) (has_listener s prov (a ∷ address)) j (lt-ltb 0 qlen (let q = ltb-true 0 (min qlen 8) k in omega arith))

pub bind-parts : (p : Providers) (w : World) (fd : ℕ) (address : List ℕ) (qlen amax : ℕ) → SoundWorld p w → Parts p (left_by w (step_of p w (Bind.plan p w fd address qlen amax)))
bind-parts p w fd address qlen amax h = call-keeps (Parts p) p w fd (Bind.plan_in (the_switch p w) fd address qlen amax) (parts p w h) (λ e i. record { changes = effect e i; lost = effect e i; marks = λ g. parts p w h })
  where
    effect : (e : Endpoint) → endpoint p w fd ≡ Some e → has_effect (first (Bind.rows (the_switch p w) address qlen amax e)) ≡ true → Parts p (changed p w (Bind.changes fd e.prov (chosen (the_switch p w) e.prov address) (Bind.queue e.prov qlen)))
    effect e i g =
        let c = cleared (Bind.rows (the_switch p w) address qlen amax e) g in
        let l = few-in-either p w h.registered.agreement in
        let s = h.endpoints fd e i in
        let u : is_state (T_UNBND ∷ []) e ≡ true = not-false (is_state (T_UNBND ∷ []) e) c.0 in
        let o : e.outstanding ≡ [] = (h.links.good fd e i).outstanding (ap (is_one_of (T_INCON ∷ [])) (only e.state T_UNBND u)) in
        let f : SoundEndpoint (Bind.bound_to (chosen (the_switch p w) e.prov address) (Bind.queue e.prov qlen) e) = fit-bound (chosen (the_switch p w) e.prov address) (Bind.queue e.prov qlen) e u o (queue-few e.prov qlen) (queue-none e.prov qlen) (choice-short (the_switch p w) e.prov address l (ltb-false 64 (length address) c.1.0)) s in (
          gives-registered p w fd e (Bind.bound_to (chosen (the_switch p w) e.prov address) (Bind.queue e.prov qlen)) (chosen (the_switch p w) e.prov address) (nat_lt 0 (Bind.queue e.prov qlen)) i (none-none e.address (s.listening.bound ∙ u)) refl (may-give (the_switch p w) e.prov address qlen l c.1.1.0) h.registered,
          switch-fit p (one_world p w fd (Bind.bound_to (chosen (the_switch p w) e.prov address) (Bind.queue e.prov qlen))) (give_address e.prov (chosen (the_switch p w) e.prov address) fd (nat_lt 0 (Bind.queue e.prov qlen))) (one-fit p w fd (Bind.bound_to (chosen (the_switch p w) e.prov address) (Bind.queue e.prov qlen)) (λ y j. same y j f) h.endpoints),
        )
      where
        same : (y : Endpoint) → endpoint p w fd ≡ Some y → SoundEndpoint (Bind.bound_to (chosen (the_switch p w) e.prov address) (Bind.queue e.prov qlen) e) → SoundEndpoint (Bind.bound_to (chosen (the_switch p w) e.prov address) (Bind.queue e.prov qlen) y)
        same y j f =
            let q : e ≡ y = cc in
            subst (λ z. SoundEndpoint (Bind.bound_to (chosen (the_switch p w) e.prov address) (Bind.queue e.prov qlen) z)) q f

abbrev Bind_rows : Endpoint → List Row
Bind_rows e = outside (T_IDLE ∷ []) e ∷ looks looks_unbind e ∷ []

pub unbind-parts : (p : Providers) (w : World) (fd : ℕ) → SoundWorld p w → Parts p (left_by w (step_of p w (Bind.unbind_plan p w fd)))
unbind-parts p w fd h = call-keeps (Parts p) p w fd _ (parts p w h) (λ e i. record { changes = effect e i; lost = effect e i; marks = λ g. parts p w h })
  where
    effect : (e : Endpoint) → endpoint p w fd ≡ Some e → has_effect (first (Bind_rows e)) ≡ true → Parts p (changed p w (at_endpoint fd Bind.unbound ∷ at_switch (give_up_address fd) ∷ []))
    effect e i g =
        let c = cleared (Bind_rows e) g in
        let u : is_state (T_IDLE ∷ []) e ≡ true = not-false (is_state (T_IDLE ∷ []) e) c.0 in
        let o : e.outstanding ≡ [] = (h.links.good fd e i).outstanding (ap (is_one_of (T_INCON ∷ [])) (only e.state T_IDLE u)) in
        let n : e.pending ≡ [] = nothing e.pending (looked-unbind (some_wait e.pending) _ c.1.0) in
        (gives_up-registered p w fd e Bind.unbound i refl h.registered, switch-fit p (one_world p w fd Bind.unbound) (give_up_address fd) (one-fit p w fd Bind.unbound (λ y j. same y j (fit-unbound e u n o (h.endpoints fd e i))) h.endpoints))
      where
        same : (y : Endpoint) → endpoint p w fd ≡ Some y → SoundEndpoint (Bind.unbound e) → SoundEndpoint (Bind.unbound y)
        same y j f =
            let q : e ≡ y = cc in
            subst (λ z. SoundEndpoint (Bind.unbound z)) q f

-- Connect.
-- who has a confirmation asks no more
answered : (e : Endpoint) → SoundRequests e → is_none e.confirmation ≡ false → e.target ≡ None
answered e g h = go e.target refl
  where
    go : (t : Option Target) → e.target ≡ t → t ≡ None
    go None j = refl
    go (Some t) j = absurd (not-both (is_none e.confirmation) h (ap is_none (g.empty (g.asking (ap is_some j)).1).3))

module _ (p : Providers) (w : World) (h : SoundWorld p w) (fd : ℕ) where
  turned : (reason : ℕ) (e : Endpoint) → has_datagrams e.prov ≡ false → endpoint p w fd ≡ Some e → is_state (T_IDLE ∷ []) e ≡ true → e.pending ≡ [] → e.disconnects ≡ [] → Parts p (changed p w (at_endpoint fd (Connect.turned_away reason) ∷ []))
  turned reason e c i s n d = own-parts p w fd (Connect.turned_away reason) e (λ z y. refl) i (fit-turned_away reason e c s n (target-none e (h.links.good fd e i) (only-idle e.state s).not_out) (idle-alone e (h.links.good fd e i) s) d (h.endpoints fd e i)) (parts p w h)

  reached : (options udata : List ℕ) (e le : Endpoint) (l : ℕ) → has_datagrams e.prov ≡ false → endpoint p w fd ≡ Some e → endpoint p w l ≡ Some le → eqb l fd ≡ false → is_state (T_IDLE ∷ []) e ≡ true → e.pending ≡ [] → e.disconnects ≡ [] → length options ≤ 256 → length udata ≤ 64
      → (x y : Bool) → not (Connect.is_listening le) ≡ x → Connect.is_full le ≡ y → Parts p (changed p w (cond x (at_endpoint fd (Connect.turned_away 1) ∷ []) (cond y (at_endpoint fd (Connect.turned_away 2) ∷ []) (at_endpoint l (Connect.asked fd (address_of e) options udata) ∷ at_endpoint fd (Connect.asking l (le.last_number + 1)) ∷ []))))
  reached options udata e le l c i j k s n d a b true y u v = turned 1 e c i s n d
  reached options udata e le l c i j k s n d a b false true u v = turned 2 e c i s n d
  reached options udata e le l c i j k s n d a b false false u v =
      let q : Parts p (one_world p w l (Connect.asked fd (address_of e) options udata)) =
      own-parts p w l (Connect.asked fd (address_of e) options udata) le (λ z y. refl) j (fit-asked fd (address_of e) options udata le (not-false (Connect.is_listening le) u) v (short-address e.address (h.endpoints fd e i).listening.short) a b (h.endpoints l le j)) (parts p w h) in
      own-parts p (one_world p w l (Connect.asked fd (address_of e) options udata)) fd (Connect.asking l (le.last_number + 1)) e (λ z y. refl) (one-other p w l (Connect.asked fd (address_of e) options udata) fd (flip l fd k) ∙ i) (fit-asking l (le.last_number + 1) e c s n (idle-alone e (h.links.good fd e i) s) d (h.endpoints fd e i)) q

  request-parts : (addr options udata : List ℕ) (e : Endpoint) → has_datagrams e.prov ≡ false → endpoint p w fd ≡ Some e → is_state (T_IDLE ∷ []) e ≡ true → e.pending ≡ [] → e.disconnects ≡ [] → length options ≤ 256 → length udata ≤ 64
      → (o : Option ℕ) → listener (the_switch p w) e.prov addr fd ≡ o → Parts p (changed p w (Connect.request fd options udata e (Connect.found_at p w o)))
  request-parts addr options udata e c i s n d a b None j = turned 1 e c i s n d
  request-parts addr options udata e c i s n d a b (Some l) j =
      let f : Found p w e.prov fd l = listener-found p w e.prov addr fd l h.bound j in
      subst (λ y. Parts p (changed p w (Connect.request fd options udata e (option_map (λ e. record { fd = l; endpoint = e }) y)))) (sym f.is_open)
      (reached options udata e f.e l c i f.is_open f.differ s n d a b (not (Connect.is_listening f.e)) (Connect.is_full f.e) refl refl)

  pub connect-parts : (addr options udata : List ℕ) → Parts p (left_by w (step_of p w (Connect.plan p w fd addr options udata)))
  connect-parts addr options udata = call-keeps (Parts p) p w fd (λ e. Connect.plan_to fd addr options udata e (Connect.found p w fd addr e)) (parts p w h) (λ e i. record { changes = effect e i; lost = effect e i; marks = λ g. parts p w h })
    where
      effect : (e : Endpoint) → endpoint p w fd ≡ Some e → has_effect (first (Connect.rows addr options udata e)) ≡ true → Parts p (changed p w (Connect.request fd options udata e (Connect.found p w fd addr e)))
      effect e i g =
          let c = cleared (Connect.rows addr options udata e) g in
          let t = looked-two (some_wait e.disconnects) (some_wait e.pending) c.1.1.1.1.1.0 in
          request-parts addr options udata e (connects (has_datagrams e.prov) c.0) i (not-false (is_state (T_IDLE ∷ []) e) c.1.0) (nothing e.pending t.1) (nothing e.disconnects t.0) (few-options options _ c.1.1.1.0) (ltb-false 64 (length udata) c.1.1.1.1.0) (listener (the_switch p w) e.prov addr fd) refl

  -- a call that changes its own endpoint, where the rows let it
  own-call : (f : Endpoint → Endpoint) (e : Endpoint) (i : endpoint p w fd ≡ Some e) (rows : List Row) (x : Plan) → Quiet f → (has_effect (first rows) ≡ true → SoundEndpoint (f e)) → x.rows ≡ rows → x.changes ≡ at_endpoint fd f ∷ [] → x.lost ≡ at_endpoint fd f ∷ [] → x.marks ≡ [] → Keeps (Parts p) p w x
  own-call f e i rows x q k r a b m = record { changes = λ g. subst (λ z. Parts p (changed p w z)) (sym a) (effect (ap (λ z. has_effect (first z)) (sym r) ∙ g)); lost = λ g. subst (λ z. Parts p (changed p w z)) (sym b) (effect (ap (λ z. has_effect (first z)) (sym r) ∙ g)); marks = λ g. subst (λ z. Parts p (changed p w z)) (sym m) (parts p w h) }
    where
      effect : has_effect (first rows) ≡ true → Parts p (changed p w (at_endpoint fd f ∷ []))
      effect g = own-parts p w fd f e q i (k g) (parts p w h)

  pub confirm-parts : (amax omax umax : ℕ) → Parts p (left_by w (step_of p w (Connect.confirm_plan p w fd amax omax umax)))
  confirm-parts amax omax umax = call-keeps (Parts p) p w fd _ (parts p w h) (λ e i. own-call Connect.confirmed e i (Connect.confirm_rows amax omax umax e) _ (λ z y. refl)
      (λ g. (let c = cleared (Connect.confirm_rows amax omax umax e) g in fit-confirmed e (busy-out e.state (not-false (is_state (T_OUTCON ∷ []) e) c.1.0)) (answered e (h.links.good fd e i) c.1.1.1.0) (h.endpoints fd e i))) refl refl refl refl)

  pub listen-parts : (amax omax umax : ℕ) → Parts p (left_by w (step_of p w (Listen.listen_plan p w fd amax omax umax)))
  listen-parts amax omax umax = call-keeps (Parts p) p w fd _ (parts p w h) (λ e i. own-call Listen.listened e i (Listen.listen_rows amax omax umax e) _ (λ z y. refl)
      (λ g. (let c = cleared (Listen.listen_rows amax omax umax e) g in fit-listened e (connects (has_datagrams e.prov) c.0) (not-false (is_state (T_IDLE ∷ T_INCON ∷ []) e) c.1.0) (not-false (some_wait e.pending) c.1.1.1.1.1.0) (h.endpoints fd e i))) refl refl refl refl)

  read-quiet : (max : ℕ) → Quiet (Receive.received p max)
  read-quiet max z e = quiet-cond (some_wait e.expedited) (record e { expedited = rest max e.expedited; mid_expedited = Receive.goes_on p true max e }) (record e { normal = rest max e.normal }) e z refl refl

  pub rcv-parts : (sizes max : ℕ) → Parts p (left_by w (step_of p w (Receive.plan p w fd sizes max)))
  rcv-parts sizes max = call-keeps (Parts p) p w fd _ (parts p w h) (λ e i. own-call (Receive.received p max) e i (Receive.rows sizes e) _ (read-quiet max) (λ g. (let c = cleared (Receive.rows sizes e) g in fit-read p max e (busy-receiving e.state (not-false (is_state receiving e) c.1.0)) (h.endpoints fd e i))) refl refl refl refl)

  cut-quiet : Quiet Disconnect.received
  cut-quiet z e = quiet-cond (Disconnect.is_asked e) (record (Listen.taken_out (Disconnect.oldest e).number e) { disconnects = drop 1 e.disconnects }) (Disconnect.idle e) e z refl refl

  pub rcvdis-parts : (umax : ℕ) → Parts p (left_by w (step_of p w (Disconnect.receive_plan p w fd umax)))
  rcvdis-parts umax = call-keeps (Parts p) p w fd _ (parts p w h) (λ e i. own-call Disconnect.received e i (Disconnect.receive_rows umax e) _ cut-quiet
      (λ g. (let c = cleared (Disconnect.receive_rows umax e) g in fit-cut_received e (asking-bound e.state (not-false (is_state connected_or_asking e) c.1.0)) (h.links.good fd e i) (h.endpoints fd e i))) refl refl refl refl)

  after-quiet : Quiet Release.after_receive
  after-quiet z e = quiet-cond (is_state (T_DATAXFER ∷ []) e) (record e { release = None; state = T_INREL }) (Disconnect.idle e) e z refl refl

  pub rcvrel-parts : (umax : ℕ) (reply : Endpoint → Reply) → Parts p (left_by w (step_of p w (Release.taking_plan p w fd umax reply)))
  rcvrel-parts umax reply = call-keeps (Parts p) p w fd _ (parts p w h) (λ e i. own-call Release.after_receive e i (Release.receive_rows umax e) _ after-quiet
      (λ g. (let c = cleared (Release.receive_rows umax e) g in fit-after_receive e (busy-receiving e.state (not-false (is_state receiving e) c.1.0)).not_unbound (h.endpoints fd e i))) refl refl refl refl)
