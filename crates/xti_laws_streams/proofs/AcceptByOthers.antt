-- An accept by another endpoint leaves the ends of earlier connections as they are.
use Rattle.std.proofs.Common.{ℕ, Bool, true, false, List, [], ◌∷◌, ◌≡◌, refl, sym, ap, ◌∙◌, subst, cond, eqb, not, ◌&&◌, Option, Some, None}
use Rattle.std.proofs.lemmas.Bool.{false≢true, eqb-true, eq-eqb}
use Rattle.std.specs.Prelude.{is_some}
use Rattle.std.specs.List.{list_any}
use Rattle.xti_base.specs.Kinds.{same_state}
use Rattle.xti_base.specs.declared.kinds.State.{State}
use Rattle.xti_base.specs.declared.kinds.State.TheVariants.{T_UNINIT, T_UNBND, T_IDLE, T_INCON, T_OUTCON, T_DATAXFER, T_OUTREL, T_INREL}
use Rattle.xti_model.specs.declared.profile.Providers.{Providers}
use Rattle.xti_model.specs.Endpoint.{Endpoint, Indication, find_number, address_of}
use Rattle.xti_model.specs.World.{World, at_endpoint, at_switch, endpoint, changed}
use Rattle.xti_model.specs.Switch.{give_address}
use Rattle.xti_model.specs.Links.{names}
use Rattle.xti_model.specs.Events.{is_state}
use Rattle.xti_model.specs.Plan.{Plan, if_open, has_effect}
use Rattle.xti_model.specs.Step.{Step, step_of}
use Rattle.xti_model.specs.Calls.Listen as Listen
use Rattle.xti_laws_streams.proofs.Invariant.{View, view, HasView, NotNamedBy}
use Rattle.xti_laws.specs.Requests.{is_connected}
use Rattle.xti_laws.specs.Requests.{AskingCaller, SoundLinks}
use Rattle.xti_laws.proofs.KeptEndpoints.{Keep, AllKeep, append-keep, keeps}
use Rattle.xti_laws_streams.proofs.NonLinking.{bound_like-keeps_view}
use Rattle.xti_laws.proofs.StepWays.{Way, takes, loses_all, is_refused, is_marked, way, not-both, flip}
use Rattle.xti_laws.proofs.ClearedRows.{Cleared, cleared}
use Rattle.xti_laws.proofs.AcceptEnds.{no-disconnect, still-asks}

-- the changes of an accept keep of an endpoint what each of them keeps
pub accept-keep : (Q : Option Endpoint → Type 0) (z fd resfd : ℕ) (i : Indication) (options udata : List ℕ) (e r : Endpoint)
    → Keep Q z (at_endpoint fd (Listen.taken_out i.number)) → ((l : Endpoint) → Keep Q z (at_endpoint resfd (Listen.bound_like l))) → Keep Q z (at_endpoint resfd (Listen.responding i))
    → ((address : List ℕ) → Keep Q z (at_endpoint i.caller (Listen.accepted resfd address options udata)))
    → AllKeep Q z (Listen.accept_changes fd resfd i options udata e r)
accept-keep Q z fd resfd i options udata e r t b k a = (t, append-keep Q z (Listen.bind_like e resfd r) (Listen.linking resfd i (address_of (Listen.bound_like e r)) options udata) (bind (is_state (T_UNBND ∷ []) r)) (k, (a (address_of (Listen.bound_like e r)), tt)))
  where
    bind : (d : Bool) → AllKeep Q z (cond d (at_endpoint resfd (Listen.bound_like e) ∷ at_switch (give_address r.prov (address_of e) resfd false) ∷ []) [])
    bind true = (b e, (tt, tt))
    bind false = tt

-- what is kept by the changes of an accept that takes effect holds after its step, also where it is refused
pub accept-step : (p : Providers) (w : World) (Q : Option Endpoint → Type 0) (z fd resfd number : ℕ) (options udata : List ℕ) (s : Step)
    → ((e r : Endpoint) (i : Indication) → endpoint p w fd ≡ Some e → endpoint p w resfd ≡ Some r → Cleared (Listen.accept_rows p fd resfd number options udata e r) → find_number number e.outstanding ≡ Some i → AllKeep Q z (Listen.accept_changes fd resfd i options udata e r))
    → Q (endpoint p w z) → step_of p w (Listen.accept_plan p w fd resfd number options udata) ≡ Some s → Q (endpoint p s.world z)
accept-step p w Q z fd resfd number options udata s k q h = at_fd (endpoint p w fd) refl h
  where
    stays : (x : Plan) → x.changes ≡ [] → x.marks ≡ [] → x.lost ≡ [] → step_of p w x ≡ Some s → Q (endpoint p s.world z)
    stays x a b d h = go (way p w x s h)
      where
        go : Way p w x s → Q (endpoint p s.world z)
        go (takes i j) = subst (λ t. Q (endpoint p t.world z)) j (subst (λ cs. Q (endpoint p (changed p w cs) z)) (sym a) q)
        go (loses_all n i j) = subst (λ t. Q (endpoint p t.world z)) j (subst (λ cs. Q (endpoint p (changed p w cs) z)) (sym d) q)
        go (is_refused r i j) = subst (λ t. Q (endpoint p t.world z)) j q
        go (is_marked r i j) = subst (λ t. Q (endpoint p t.world z)) j (subst (λ cs. Q (endpoint p (changed p w cs) z)) (sym b) q)

    found : (e r : Endpoint) → endpoint p w fd ≡ Some e → endpoint p w resfd ≡ Some r → Cleared (Listen.accept_rows p fd resfd number options udata e r) → (o : Option Indication) → find_number number e.outstanding ≡ o → Q (endpoint p (changed p w (Listen.accept_found fd resfd o options udata e r)) z)
    found e r a b c None i = q
    found e r a b c (Some n) i = keeps p Q z (Listen.accept_changes fd resfd n options udata e r) (k e r n a b c i) w q

    there : (e r : Endpoint) → endpoint p w fd ≡ Some e → endpoint p w resfd ≡ Some r → step_of p w (Listen.accept_with p fd resfd number options udata e (Some r)) ≡ Some s → Q (endpoint p s.world z)
    there e r a b h = go (way p w (Listen.accept_with p fd resfd number options udata e (Some r)) s h)
      where
        go : Way p w (Listen.accept_with p fd resfd number options udata e (Some r)) s → Q (endpoint p s.world z)
        go (takes i j) = subst (λ t. Q (endpoint p t.world z)) j (found e r a b (cleared (Listen.accept_rows p fd resfd number options udata e r) (ap has_effect i)) (find_number number e.outstanding) refl)
        go (loses_all n i j) = subst (λ t. Q (endpoint p t.world z)) j (found e r a b (cleared (Listen.accept_rows p fd resfd number options udata e r) (ap has_effect i)) (find_number number e.outstanding) refl)
        go (is_refused r i j) = subst (λ t. Q (endpoint p t.world z)) j q
        go (is_marked r i j) = subst (λ t. Q (endpoint p t.world z)) j q

    at_resfd : (e : Endpoint) → endpoint p w fd ≡ Some e → (o : Option Endpoint) → endpoint p w resfd ≡ o → step_of p w (Listen.accept_with p fd resfd number options udata e o) ≡ Some s → Q (endpoint p s.world z)
    at_resfd e a None b h = stays (Listen.accept_with p fd resfd number options udata e None) refl refl refl h
    at_resfd e a (Some r) b h = there e r a b h

    at_fd : (o : Option Endpoint) → endpoint p w fd ≡ o → step_of p w (if_open fd o (λ e. Listen.accept_with p fd resfd number options udata e (endpoint p w resfd))) ≡ Some s → Q (endpoint p s.world z)
    at_fd None a h = stays (if_open fd None (λ e. Listen.accept_with p fd resfd number options udata e (endpoint p w resfd))) refl refl refl h
    at_fd (Some e) a h = at_resfd e a (endpoint p w resfd) refl h

-- an endpoint in a connection does not accept one
pub not-idle : (s : State) → is_connected s ≡ true → list_any (same_state s) (T_UNBND ∷ T_IDLE ∷ []) ≡ true → ⊥
not-idle T_UNINIT h k = false≢true h
not-idle T_UNBND h k = false≢true h
not-idle T_IDLE h k = false≢true h
not-idle T_INCON h k = false≢true h
not-idle T_OUTCON h k = false≢true k
not-idle T_DATAXFER h k = false≢true k
not-idle T_OUTREL h k = false≢true k
not-idle T_INREL h k = false≢true k

-- an end of a connection takes no part in an accept of another endpoint
pub accept-free : (p : Providers) (w : World) (fd resfd number : ℕ) (options udata : List ℕ) (e r : Endpoint) (i : Indication) (x : ℕ) (v : View) → SoundLinks p w
    → endpoint p w fd ≡ Some e → endpoint p w resfd ≡ Some r → Cleared (Listen.accept_rows p fd resfd number options udata e r) → find_number number e.outstanding ≡ Some i
    → HasView v (endpoint p w x) → is_connected v.state ≡ true → v.target ≡ None → eqb x fd ≡ false → (eqb x resfd ≡ false) × (eqb x i.caller ≡ false)
accept-free p w fd resfd number options udata e r i x v f a b c n l k t o = (not_resfd (eqb x resfd) refl, not_caller (eqb x i.caller) refl)
  where
    asks : AskingCaller p w e.prov fd number i.caller
    asks = still-asks p w fd number e i f a (no-disconnect e c.1.1.1.1.1.1.1.1.1.1.0) n

    caller_like : x ≡ i.caller → view asks.e ≡ v
    caller_like j = subst (HasView v) (ap (endpoint p w) j ∙ asks.is_open) l

    not_caller : (d : Bool) → eqb x i.caller ≡ d → d ≡ false
    not_caller false j = refl
    not_caller true j = absurd (false≢true (sym (ap is_some (ap (λ u. u.target) (caller_like (eqb-true x i.caller j)) ∙ t)) ∙ ap is_some asks.has_target))

    responder_like : x ≡ resfd → view r ≡ v
    responder_like j = subst (HasView v) (ap (endpoint p w) j ∙ b) l

    differ : x ≡ resfd → eqb fd resfd ≡ false
    differ j = go (eqb fd resfd) refl
      where
        go : (d : Bool) → eqb fd resfd ≡ d → d ≡ false
        go false m = refl
        go true m = absurd (not-both (eqb x fd) o (eq-eqb x fd (j ∙ sym (eqb-true fd resfd m))))

    idle : (d y : Bool) → d ≡ false → (not d && not y) ≡ false → y ≡ true
    idle true y m h = absurd (false≢true (sym m))
    idle false true m h = refl
    idle false false m h = absurd (false≢true (sym h))

    not_resfd : (d : Bool) → eqb x resfd ≡ d → d ≡ false
    not_resfd false j = refl
    not_resfd true j = let q = eqb-true x resfd j in
        absurd (not-idle v.state k (ap (λ u. list_any (same_state u.state) (T_UNBND ∷ T_IDLE ∷ [])) (sym (responder_like q)) ∙ idle (eqb fd resfd) (is_state (T_UNBND ∷ T_IDLE ∷ []) r) (differ q) c.1.1.1.0))

-- so its view stays
pub accept-view : (p : Providers) (w : World) (fd resfd number : ℕ) (options udata : List ℕ) (x : ℕ) (v : View) (s : Step) → SoundLinks p w
    → HasView v (endpoint p w x) → is_connected v.state ≡ true → v.target ≡ None → eqb x fd ≡ false
    → step_of p w (Listen.accept_plan p w fd resfd number options udata) ≡ Some s → HasView v (endpoint p s.world x)
accept-view p w fd resfd number options udata x v s f l k t o = accept-step p w (HasView v) x fd resfd number options udata s
    (λ e r i a b c n. (let free = accept-free p w fd resfd number options udata e r i x v f a b c n l k t o in
    accept-keep (HasView v) x fd resfd i options udata e r
    (λ j. absurd (not-both (eqb x fd) o j))
    (λ z j y q. bound_like-keeps_view z y ∙ q)
    (λ j. absurd (not-both (eqb x resfd) free.0 j))
    (λ address j. absurd (not-both (eqb x i.caller) free.1 j)))) l

-- and an endpoint that does not name it as its peer does not begin to
pub accept-not_named : (p : Providers) (w : World) (fd resfd number : ℕ) (options udata : List ℕ) (x z : ℕ) (v : View) (s : Step) → SoundLinks p w
    → HasView v (endpoint p w x) → is_connected v.state ≡ true → v.target ≡ None → eqb x fd ≡ false → NotNamedBy x (endpoint p w z)
    → step_of p w (Listen.accept_plan p w fd resfd number options udata) ≡ Some s → NotNamedBy x (endpoint p s.world z)
accept-not_named p w fd resfd number options udata x z v s f l k t o = accept-step p w (NotNamedBy x) z fd resfd number options udata s
    (λ e r i a b c n. (let free = accept-free p w fd resfd number options udata e r i x v f a b c n l k t o in
    accept-keep (NotNamedBy x) z fd resfd i options udata e r
    (λ j y q. q)
    (λ m j y q. ap (λ u. names x u.peer) (bound_like-keeps_view m y) ∙ q)
    (λ j y q. flip x i.caller free.1)
    (λ address j y q. flip x resfd free.0)))
