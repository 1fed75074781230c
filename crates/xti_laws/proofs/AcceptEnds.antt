-- The ends of an accept: the responding endpoint is idle, and the caller is another that asks still.
use Rattle.std.proofs.Common.{inr, ℕ, Bool, true, false, List, [], ◌∷◌, ◌≡◌, refl, sym, ap, ◌∙◌, cond, eqb, not, ◌&&◌, ◌||◌, Some}
use Rattle.std.proofs.lemmas.Bool.{false≢true, eqb-true}
use Rattle.std.specs.Prelude.{is_some}
use Rattle.std.specs.List.{list_any}
use Rattle.xti_base.specs.Kinds.{same_state, same_prov}
use Rattle.xti_base.specs.declared.kinds.Prov.{Prov}
use Rattle.xti_base.specs.declared.kinds.Prov.TheVariants.{Ticots, Ticotsord, Ticlts, Other}
use Rattle.xti_base.specs.declared.kinds.State.{State}
use Rattle.xti_base.specs.declared.kinds.State.TheVariants.{T_UNINIT, T_UNBND, T_IDLE, T_INCON, T_OUTCON, T_DATAXFER, T_OUTREL, T_INREL}
use Rattle.xti_model.specs.declared.profile.Providers.{Providers}
use Rattle.xti_model.specs.Endpoint.{Endpoint, Indication, Disconnect, find_number}
use Rattle.xti_model.specs.World.{World, endpoint}
use Rattle.xti_model.specs.Events.{is_state}
use Rattle.xti_model.specs.Calls.Listen as Listen
use Rattle.xti_laws.specs.Requests.{is_connected, disconnects_with, AskingCaller, SoundLinks}
use Rattle.xti_laws.proofs.StepWays.{some-is, not-both}
use Rattle.xti_laws.proofs.ClearedRows.{Cleared, un-not}
use Rattle.std.specs.Prelude.{find}
use Rattle.xti_base.specs.declared.kinds.Event.TheVariants.{T_DISCONNECT, T_LISTEN}
use Rattle.xti_model.specs.Events.{looked, is_here, looks_connecting, some_wait}

-- a state of a connection is not that of a listener with indications
pub not-asked : (s : State) → is_connected s ≡ true → list_any (same_state s) (T_INCON ∷ []) ≡ false
not-asked T_INCON h = absurd (false≢true h)
not-asked other h = refl

-- where no connecting event is shown no disconnect waits
pub no-disconnect : (e : Endpoint) → is_some (looked looks_connecting e) ≡ false → some_wait e.disconnects ≡ false
no-disconnect e h = go (some_wait e.disconnects) h
  where
    go : (b : Bool) → is_some (cond b (Some T_DISCONNECT) (find (is_here e) (T_LISTEN ∷ []))) ≡ false → b ≡ false
    go true h = absurd (false≢true (sym h))
    go false h = refl

pub no-disconnects : (ds : List Disconnect) → some_wait ds ≡ false → ds ≡ []
no-disconnects [] h = refl
no-disconnects (d ∷ ds) h = absurd (false≢true (sym h))

-- the caller of an outstanding indication asks still, where no disconnect waits
pub still-asks : (p : Providers) (w : World) (fd number : ℕ) (e : Endpoint) (i : Indication) → SoundLinks p w → endpoint p w fd ≡ Some e → some_wait e.disconnects ≡ false → find_number number e.outstanding ≡ Some i → AskingCaller p w e.prov fd number i.caller
still-asks p w fd number e i s o d f = (s.asked fd number i.caller e o (record { i = i; is_caller = refl; is_found = inr (f, ap (disconnects_with number) (no-disconnects e.disconnects d)) })).1

pub same-prov : (a b : Prov) → same_prov a b ≡ true → a ≡ b
same-prov Ticots Ticots h = refl
same-prov Ticotsord Ticotsord h = refl
same-prov Ticlts Ticlts h = refl
same-prov Other Other h = refl
same-prov a b h = absurd (false≢true h)

-- the states of a responding endpoint
pub responder-state : (s : State) → list_any (same_state s) (T_UNBND ∷ T_IDLE ∷ T_INCON ∷ []) ≡ true → (is_connected s ≡ false) × ((s ≡ T_OUTCON) → ⊥)
responder-state T_UNINIT h = absurd (false≢true h)
responder-state T_UNBND h = (refl, λ j. absurd (false≢true (ap (λ z. list_any (same_state z) (T_OUTCON ∷ [])) j)))
responder-state T_IDLE h = (refl, λ j. absurd (false≢true (ap (λ z. list_any (same_state z) (T_OUTCON ∷ [])) j)))
responder-state T_INCON h = (refl, λ j. absurd (false≢true (ap (λ z. list_any (same_state z) (T_OUTCON ∷ [])) j)))
responder-state T_OUTCON h = absurd (false≢true h)
responder-state T_DATAXFER h = absurd (false≢true h)
responder-state T_OUTREL h = absurd (false≢true h)
responder-state T_INREL h = absurd (false≢true h)

-- a responding endpoint is closed, idle or the listener itself
pub either-state : (d y z : Bool) → (not d && not y) ≡ false → (d ≡ true → z ≡ true) → (y || z) ≡ true
either-state true y z h k = or-true y (k refl)
  where
    or-true : (y : Bool) → z ≡ true → (y || z) ≡ true
    or-true true i = refl
    or-true false i = i
either-state false true z h k = refl
either-state false false z h k = absurd (false≢true (sym h))

pub three-states : (s : State) → (list_any (same_state s) (T_UNBND ∷ T_IDLE ∷ []) || list_any (same_state s) (T_INCON ∷ [])) ≡ list_any (same_state s) (T_UNBND ∷ T_IDLE ∷ T_INCON ∷ [])
three-states s = or-three (same_state s T_UNBND) (same_state s T_IDLE) (same_state s T_INCON)
  where
    or-three : (a b d : Bool) → ((a || (b || false)) || (d || false)) ≡ (a || (b || (d || false)))
    or-three true b d = refl
    or-three false true d = refl
    or-three false false d = refl

module _ (p : Providers) (w : World) (s : SoundLinks p w) (fd resfd number : ℕ) (options udata : List ℕ) (e r : Endpoint) (i : Indication)
    (at_fd : endpoint p w fd ≡ Some e) (at_resfd : endpoint p w resfd ≡ Some r) (clear : Cleared (Listen.accept_rows p fd resfd number options udata e r)) (is_found : find_number number e.outstanding ≡ Some i) where
  pub listens : is_state (T_INCON ∷ []) e ≡ true
  listens = un-not (is_state (T_INCON ∷ []) e) clear.1.0

  pub asks : AskingCaller p w e.prov fd number i.caller
  asks = still-asks p w fd number e i s at_fd (no-disconnect e clear.1.1.1.1.1.1.1.1.1.1.0) is_found

  pub itself : eqb fd resfd ≡ true → e ≡ r
  itself j = some-is e r (sym at_fd ∙ (ap (endpoint p w) (eqb-true fd resfd j) ∙ at_resfd))

  pub responder : list_any (same_state r.state) (T_UNBND ∷ T_IDLE ∷ T_INCON ∷ []) ≡ true
  responder = sym (three-states r.state) ∙ either-state (eqb fd resfd) (is_state (T_UNBND ∷ T_IDLE ∷ []) r) (is_state (T_INCON ∷ []) r) clear.1.1.1.0 (λ j. ap (is_state (T_INCON ∷ [])) (sym (itself j)) ∙ listens)

  pub caller_state : asks.e.state ≡ T_OUTCON
  caller_state = ((s.good i.caller asks.e asks.is_open).asking (ap is_some asks.has_target)).0

  pub not_resfd : eqb i.caller resfd ≡ false
  not_resfd = go (eqb i.caller resfd) refl
    where
      go : (d : Bool) → eqb i.caller resfd ≡ d → d ≡ false
      go false j = refl
      go true j = absurd ((responder-state r.state responder).1 (ap (λ z. z.state) (some-is r asks.e (sym at_resfd ∙ (ap (endpoint p w) (sym (eqb-true i.caller resfd j)) ∙ asks.is_open))) ∙ caller_state))

  pub not_fd : eqb i.caller fd ≡ false
  not_fd = go (eqb i.caller fd) refl
    where
      go : (d : Bool) → eqb i.caller fd ≡ d → d ≡ false
      go false j = refl
      go true j = absurd (not-both (is_state (T_INCON ∷ []) e) (ap (λ z. list_any (same_state z) (T_INCON ∷ [])) (ap (λ z. z.state) (some-is e asks.e (sym at_fd ∙ (ap (endpoint p w) (sym (eqb-true i.caller fd j)) ∙ asks.is_open))) ∙ caller_state)) listens)
