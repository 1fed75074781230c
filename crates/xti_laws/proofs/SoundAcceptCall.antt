-- An accept keeps a world sound.
use Rattle.std.proofs.Common.{ℕ, Bool, true, false, List, [], ◌∷◌, ◌+◌, ◌≡◌, ◌≤◌, inr, refl, sym, ap, ◌∙◌, subst, eqb, cond, not, length, ◌&&◌, Option, Some, None, is_some, arith}
use Rattle.std.specs.Prelude.{nat_lt}
use Rattle.std.proofs.lemmas.Bool.{not-false, false≢true, eqb-true, ltb-false}
use Rattle.xti_base.specs.Kinds.{same_prov}
use Rattle.xti_base.specs.declared.kinds.Prov.{Prov}
use Rattle.xti_base.specs.declared.kinds.Prov.TheVariants.{Ticlts}
use Rattle.xti_base.specs.declared.kinds.State.{State}
use Rattle.xti_base.specs.declared.kinds.State.TheVariants.{T_UNBND, T_IDLE, T_INCON}
use Rattle.xti_model.specs.declared.profile.Providers.{Providers}
use Rattle.xti_model.specs.Provider.{has_connections, has_datagrams}
use Rattle.xti_model.specs.Endpoint.{Endpoint, Indication, find_number, address_of}
use Rattle.xti_model.specs.World.{World, at_endpoint, at_switch, changed, endpoint}
use Rattle.xti_model.specs.Switch.{give_address}
use Rattle.xti_model.specs.Sound.{binding_to}
use Rattle.xti_model.specs.Events.{is_state, some_wait}
use Rattle.xti_model.specs.Step.{step_of}
use Rattle.xti_model.specs.History.{left_by}
use Rattle.xti_model.specs.Calls.Listen as Listen
use Rattle.xti_laws.proofs.ChangedEndpoints.{changed-append, switch-other}
use Rattle.xti_laws.proofs.AcceptEnds.{same-prov}
use Rattle.xti_laws.specs.Requests.{disconnects_with}
use Rattle.xti_laws.proofs.KeptEndpoints.{AllKeep, keeps}
use Rattle.xti_laws.proofs.AcrossCalls.{Asks, choice}
use Rattle.xti_laws.proofs.StepWays.{some-is, flip}
use Rattle.xti_laws.proofs.OneChange.{one_world, one-same, one-other}
use Rattle.xti_laws.proofs.EndpointUpdates.{target-none}
use Rattle.xti_laws.proofs.ListenerUpdates.{asked-hears}
use Rattle.xti_laws.specs.Endpoints.{SoundEndpoint, ShortIndication}
use Rattle.xti_laws.specs.Requests.{is_one_of}
use Rattle.xti_laws.specs.Invariant.{Registered, SoundWorld}
use Rattle.xti_laws.proofs.PassedRows.{Keeps, call-keeps}
use Rattle.xti_laws.proofs.ClearedRows.{Cleared, cleared}
use Rattle.xti_laws.proofs.States.{only, idle-not-asked, resting-out}
use Rattle.xti_laws.proofs.ShortLists.{All-find}
use Rattle.xti_laws.proofs.Updates.{not-asking, asked-alone, fit-taken_out, fit-responding, fit-joining, fit-accepted}
use Rattle.xti_laws.proofs.QuietChanges.{Parts, one-parts, own-parts, beside, beside-one, beside-switch, with-it, quiet-registered}
use Rattle.xti_laws.proofs.Registering.{gives-registered}
use Rattle.xti_laws.proofs.OwnCalls.{parts, connects, none-none, nothing, looked-two, few-options, short-address}

-- one of two states, but not the first
other-idle : (s : State) → is_one_of (T_UNBND ∷ []) s ≡ false → is_one_of (T_UNBND ∷ T_IDLE ∷ []) s ≡ true → is_one_of (T_UNBND ∷ []) s ≡ false
other-idle s h k = h

no-more : (a b q : ℕ) → a + b ≤ q → nat_lt 0 q ≡ false → a ≡ 0
no-more a b q h k = (let z = ltb-false 0 q k in omega arith)

empty : {A : Type 0} (xs : List A) → length xs ≡ 0 → xs ≡ []
empty [] h = refl
empty (x ∷ xs) h = absurd (omega arith)

-- not the one, so the other
not-here : (x d : Bool) → x ≡ false → (not x && d) ≡ false → d ≡ false
not-here true d q k = absurd (false≢true (sym q))
not-here false d q k = k

not-busy : (x d : Bool) → x ≡ false → (not x && not d) ≡ false → d ≡ true
not-busy true d q k = absurd (false≢true (sym q))
not-busy false true q k = refl
not-busy false false q k = absurd (false≢true (sym k))

not-datagrams : (prov : Prov) → not (has_connections prov) ≡ false → same_prov prov Ticlts ≡ true → ⊥
not-datagrams prov h k = false≢true (sym (ap (λ z. not (has_connections z)) (sym (same-prov prov Ticlts k)) ∙ h))

module _ (p : Providers) (w : World) (h : SoundWorld p w) (fd resfd number : ℕ) (options udata : List ℕ) (e r : Endpoint) (i : Indication)
    (a : endpoint p w fd ≡ Some e) (b : endpoint p w resfd ≡ Some r) (c : Cleared (Listen.accept_rows p fd resfd number options udata e r)) (f : find_number number e.outstanding ≡ Some i) where
  here : SoundEndpoint e
  here = h.endpoints fd e a

  there : SoundEndpoint r
  there = h.endpoints resfd r b

  asked : is_state (T_INCON ∷ []) e ≡ true
  asked = not-false (is_state (T_INCON ∷ []) e) c.1.0

  looked : (some_wait e.disconnects ≡ false) × (some_wait e.pending ≡ false)
  looked = looked-two (some_wait e.disconnects) (some_wait e.pending) c.1.1.1.1.1.1.1.1.1.1.0

  no_cuts : e.disconnects ≡ []
  no_cuts = nothing e.disconnects looked.0

  short_i : ShortIndication i
  short_i = All-find ShortIndication number e.outstanding i here.request_fields.outstanding_short f

  short_e : length (address_of e) ≤ 64
  short_e = short-address e.address here.listening.short

  short_options : length options ≤ 256
  short_options = few-options options _ c.1.1.1.1.1.1.1.1.0

  short_udata : length udata ≤ 64
  short_udata = ltb-false 64 (length udata) c.1.1.1.1.1.1.1.1.1.0

  out_fit : SoundEndpoint (Listen.taken_out i.number e)
  out_fit = fit-taken_out i.number e.disconnects e asked (target-none e (h.links.good fd e a) (asked-hears e.state asked).not_out) (asked-alone e (h.links.good fd e a) asked) (λ o. no_cuts) here.disconnecting.short here

  abbrev out : World
  out = one_world p w fd (Listen.taken_out i.number)

  out_parts : Parts p out
  out_parts = own-parts p w fd (Listen.taken_out i.number) e (λ z y. refl) a out_fit (parts p w h)

  e_connects : has_datagrams e.prov ≡ false
  e_connects = connects (has_datagrams e.prov) c.0

  r_connects : has_datagrams r.prov ≡ false
  r_connects = ap has_datagrams (sym (same-prov e.prov r.prov (not-false (same_prov e.prov r.prov) c.1.1.0))) ∙ e_connects

  -- the listener responds itself
  joined_here : eqb fd resfd ≡ true → is_state (T_UNBND ∷ []) r ≡ false → Parts p (changed p out (at_endpoint resfd (Listen.responding i) ∷ []))
  joined_here j u = own-parts p out resfd (Listen.responding i) (Listen.taken_out i.number e) (λ z y. refl) open_there
      (fit-responding i (Listen.taken_out i.number e) e_connects (target-none e (h.links.good fd e a) (asked-hears e.state asked).not_out) (here.listening.bound ∙ ap (is_one_of (T_UNBND ∷ [])) (only e.state T_INCON asked)) (nothing e.pending looked.1) no_cuts short_i.0 out_fit) out_parts
    where
      open_there : endpoint p out resfd ≡ Some (Listen.taken_out i.number e)
      open_there = ap (endpoint p out) (sym (eqb-true fd resfd j)) ∙ one-same p w fd (Listen.taken_out i.number) e a

  -- another does, which is idle or not bound
  r_there : eqb fd resfd ≡ false → endpoint p out resfd ≡ Some r
  r_there j = one-other p w fd (Listen.taken_out i.number) resfd (flip fd resfd j) ∙ b

  r_idle : eqb fd resfd ≡ false → is_state (T_UNBND ∷ T_IDLE ∷ []) r ≡ true
  r_idle j = not-busy (eqb fd resfd) (is_state (T_UNBND ∷ T_IDLE ∷ []) r) j c.1.1.1.0

  r_quiet : eqb fd resfd ≡ false → r.pending ≡ []
  r_quiet j = empty r.pending (no-more (length r.pending) (length r.outstanding) r.qlen there.listening.few (not-here (eqb fd resfd) (nat_lt 0 r.qlen) j c.1.1.1.1.1.1.0))

  joined_bound : eqb fd resfd ≡ false → is_state (T_UNBND ∷ []) r ≡ false → Parts p (changed p out (at_endpoint resfd (Listen.responding i) ∷ []))
  joined_bound j u = own-parts p out resfd (Listen.responding i) r (λ z y. refl) (r_there j)
      (fit-responding i r r_connects (not-asking r there (resting-out r.state (r_idle j))) (there.listening.bound ∙ u) (r_quiet j) (there.disconnecting.rest (r_idle j)) short_i.0 there) out_parts

  abbrev like : Endpoint → Endpoint
  like y = Listen.bound_like e y

  -- it is bound to the listener's address first
  joined_new : eqb fd resfd ≡ false → is_state (T_UNBND ∷ []) r ≡ true → Parts p (changed p out (at_endpoint resfd like ∷ at_switch (give_address r.prov (address_of e) resfd false) ∷ at_endpoint resfd (Listen.responding i) ∷ []))
  joined_new j u = (quiet-registered p bound_world resfd (Listen.responding i) (λ z y. refl) registered, with-it p last resfd own apart)
    where
      bound_world : World
      bound_world = changed p out (at_endpoint resfd like ∷ at_switch (give_address r.prov (address_of e) resfd false) ∷ [])

      last : World
      last = one_world p bound_world resfd (Listen.responding i)

      unbound : e.prov ≡ r.prov
      unbound = same-prov e.prov r.prov (not-false (same_prov e.prov r.prov) c.1.1.0)

      is-like : like r ≡ record r { address = Some (address_of e); qlen = 0 }
      is-like = ap (λ d. cond d (record r { address = Some (address_of e); qlen = 0 }) r) u

      registered : Registered p bound_world
      registered = gives-registered p out resfd r like (address_of e) false (r_there j) (none-none r.address (there.listening.bound ∙ u))
          (ap (λ z. binding_to resfd z z.address) is-like)
          (record { is_free = λ k. absurd (not-datagrams e.prov c.0 (ap (λ z. same_prov z Ticlts) unbound ∙ k)); is_unheard = λ k. absurd (false≢true k) }) out_parts.0

      open_last : endpoint p last resfd ≡ Some (Listen.responding i (like r))
      open_last = one-same p bound_world resfd (Listen.responding i) (like r) (switch-other p (give_address r.prov (address_of e) resfd false) resfd (one_world p out resfd like) ∙ one-same p out resfd like r (r_there j))

      own : (y : Endpoint) → endpoint p last resfd ≡ Some y → SoundEndpoint y
      own y k = subst SoundEndpoint (ap (Listen.responding i) (sym is-like) ∙ some-is (Listen.responding i (like r)) y (sym open_last ∙ k))
          (fit-joining i (address_of e) r r_connects u (r_quiet j) ((h.links.good resfd r b).outstanding (idle-not-asked r.state (r_idle j))) short_e short_i.0 there)

      apart : (x : ℕ) (y : Endpoint) → eqb x resfd ≡ false → endpoint p last x ≡ Some y → SoundEndpoint y
      apart = beside-one p bound_world resfd (Listen.responding i) (beside-switch p (one_world p out resfd like) resfd (give_address r.prov (address_of e) resfd false) (beside-one p out resfd like (beside p out resfd out_parts.1)))

  -- all of it
  joined : Parts p (changed p (changed p out (Listen.bind_like e resfd r)) (at_endpoint resfd (Listen.responding i) ∷ []))
  joined = go (eqb fd resfd) refl (is_state (T_UNBND ∷ []) r) refl
    where
      same-state : eqb fd resfd ≡ true → is_state (T_UNBND ∷ []) r ≡ false
      same-state j = ap (λ z. is_one_of (T_UNBND ∷ []) z.state) (some-is r e (sym b ∙ (ap (endpoint p w) (sym (eqb-true fd resfd j)) ∙ a))) ∙ ap (is_one_of (T_UNBND ∷ [])) (only e.state T_INCON asked)

      go : (x : Bool) → eqb fd resfd ≡ x → (d : Bool) → is_state (T_UNBND ∷ []) r ≡ d → Parts p (changed p (changed p out (cond d (at_endpoint resfd like ∷ at_switch (give_address r.prov (address_of e) resfd false) ∷ []) [])) (at_endpoint resfd (Listen.responding i) ∷ []))
      go true j true u = absurd (false≢true (sym (same-state j) ∙ u))
      go true j false u = joined_here j u
      go false j true u = joined_new j u
      go false j false u = joined_bound j u

  short_like : length (address_of (like r)) ≤ 64
  short_like = go (is_state (T_UNBND ∷ []) r)
    where
      go : (d : Bool) → length (address_of (cond d (record r { address = Some (address_of e); qlen = 0 }) r)) ≤ 64
      go true = short_e
      go false = short-address r.address there.listening.short

  -- the caller asks until it is accepted
  asks-still : Asks (endpoint p (changed p (changed p out (Listen.bind_like e resfd r)) (at_endpoint resfd (Listen.responding i) ∷ [])) i.caller)
  asks-still = (let b = (h.links.asked fd number i.caller e a (record { i = i; is_caller = refl; is_found = inr (f, ap (disconnects_with number) no_cuts) })).1 in
      keeps p Asks i.caller (at_endpoint resfd (Listen.responding i) ∷ []) ((λ j y q. q), tt) (changed p out (Listen.bind_like e resfd r))
      (keeps p Asks i.caller (Listen.bind_like e resfd r) (by (is_state (T_UNBND ∷ []) r)) out
      (keeps p Asks i.caller (at_endpoint fd (Listen.taken_out i.number) ∷ []) ((λ j y q. q), tt) w (subst Asks (sym b.is_open) (ap is_some b.has_target)))))
    where
      by : (d : Bool) → AllKeep Asks i.caller (cond d (at_endpoint resfd (Listen.bound_like e) ∷ at_switch (give_address r.prov (address_of e) resfd false) ∷ []) [])
      by true = ((λ j y q. choice Asks (is_state (T_UNBND ∷ []) y) (record y { address = Some (address_of e); qlen = 0 }) y q q), (tt, tt))
      by false = tt

  pub accepts : Parts p (changed p w (Listen.accept_changes fd resfd i options udata e r))
  accepts = subst (λ y. Parts p y) (sym (changed-append p out (Listen.bind_like e resfd r) (Listen.linking resfd i (address_of (like r)) options udata)))
      (one-parts p (changed p (changed p out (Listen.bind_like e resfd r)) (at_endpoint resfd (Listen.responding i) ∷ [])) i.caller (Listen.accepted resfd (address_of (like r)) options udata) (λ z y. refl)
      (λ y k. fit-accepted resfd (address_of (like r)) options udata y (subst Asks k asks-still) short_like short_options short_udata (joined.1 i.caller y k)) joined)

pub accept-parts : (p : Providers) (w : World) → SoundWorld p w → (fd resfd number : ℕ) (options udata : List ℕ) → Parts p (left_by w (step_of p w (Listen.accept_plan p w fd resfd number options udata)))
accept-parts p w h fd resfd number options udata = call-keeps (Parts p) p w fd (λ e. Listen.accept_with p fd resfd number options udata e (endpoint p w resfd)) (parts p w h) (λ e a. at_resfd e a (endpoint p w resfd) refl)
  where
    found : (e r : Endpoint) → endpoint p w fd ≡ Some e → endpoint p w resfd ≡ Some r → Cleared (Listen.accept_rows p fd resfd number options udata e r) → (o : Option Indication) → find_number number e.outstanding ≡ o → Parts p (changed p w (Listen.accept_found fd resfd o options udata e r))
    found e r a b c None f = parts p w h
    found e r a b c (Some i) f = accepts p w h fd resfd number options udata e r i a b c f

    at_resfd : (e : Endpoint) → endpoint p w fd ≡ Some e → (o : Option Endpoint) → endpoint p w resfd ≡ o → Keeps (Parts p) p w (Listen.accept_with p fd resfd number options udata e o)
    at_resfd e a None b = record { changes = λ g. parts p w h; lost = λ g. parts p w h; marks = λ g. parts p w h }
    at_resfd e a (Some r) b = record {
      changes = λ g. found e r a b (cleared (Listen.accept_rows p fd resfd number options udata e r) g) (find_number number e.outstanding) refl;
      lost = λ g. found e r a b (cleared (Listen.accept_rows p fd resfd number options udata e r) g) (find_number number e.outstanding) refl;
      marks = λ g. parts p w h;
    }
