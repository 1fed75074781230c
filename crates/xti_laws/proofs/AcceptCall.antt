-- An accept, and a request, keep the facts across cells.
use Rattle.std.proofs.Common.{ℕ, Bool, true, false, List, [], ◌∷◌, ◌≤◌, ◌≡◌, refl, sym, ap, ◌∙◌, subst, cond, eqb, not, ◌&&◌, length, is_some, Option, Some, None, arith}
use Rattle.std.proofs.lemmas.Bool.{false≢true, eqb-true, eq-eqb}
use Rattle.std.proofs.lemmas.Bool.Decides.{nat_tests}
use Rattle.std.specs.Prelude.{nat_lt}
use Rattle.std.specs.List.{list_any}
use Rattle.xti_base.specs.Kinds.{same_state}
use Rattle.xti_base.specs.declared.kinds.State.TheVariants.{T_UNBND, T_IDLE}
use Rattle.xti_model.specs.declared.profile.Providers.{Providers}
use Rattle.xti_model.specs.Endpoint.{Endpoint, Indication, find_number, address_of, ocnt}
use Rattle.xti_model.specs.World.{World, at_endpoint, at_switch, changed, endpoint}
use Rattle.xti_model.specs.Switch.{give_address}
use Rattle.xti_model.specs.Events.{is_state}
use Rattle.xti_model.specs.Step.{Step, step_of}
use Rattle.xti_model.specs.Calls.Listen as Listen
use Rattle.xti_laws.proofs.ChangedEndpoints.{changed-append}
use Rattle.xti_laws.specs.Requests.{SoundRequests, AskingCaller, SoundLinksExcept, SoundLinks}
use Rattle.xti_laws.proofs.KeptEndpoints.{AllKeep, keeps}
use Rattle.xti_laws.proofs.StepWays.{some-is, none-is, not-both, flip}
use Rattle.xti_laws.proofs.ClearedRows.{Cleared}
use Rattle.xti_laws.proofs.AcceptEnds.{no-disconnect, no-disconnects, asks, not_resfd, not_fd, listens}
use Rattle.xti_laws.proofs.OneChange.{one_world, one-same, one-other, hush, rests-again, just}
use Rattle.xti_laws.proofs.EndpointUpdates.{Idle, idle-state, good-plain, alike-pending, asks-not, target-none}
use Rattle.xti_laws.proofs.RequestUpdates.{move-stands, accepted-good, none-outstanding}
use Rattle.xti_laws.proofs.UnseenChanges.{AllRest, rests_at, rests_switch, rest-sound, bound_like-unseen}
use Rattle.xti_laws.proofs.CallsKeepLinks.{Kept, plain, on-open, out-removes, found-number}

abbrev IdleStill : Option Endpoint → Type 0
IdleStill None = Unit {0}
IdleStill (Some y) = is_state (T_UNBND ∷ T_IDLE ∷ []) y ≡ true

found-length : (n : ℕ) (is : List Indication) (i : Indication) → find_number n is ≡ Some i → 1 ≤ length is
found-length n [] i h = absurd (none-is i h)
found-length n (x ∷ is) i h = omega arith

only-one : (n : ℕ) → nat_lt 1 n ≡ false → 1 ≤ n → n ≡ 1
only-one n h k = grind (arith, nat_tests)

not-busy : (x d : Bool) → x ≡ false → (not x && not d) ≡ false → d ≡ true
not-busy true d q k = absurd (false≢true (sym q))
not-busy false true q k = refl
not-busy false false q k = absurd (false≢true (sym k))

module _ (p : Providers) (w : World) (z : SoundLinks p w) (s : Step) (fd resfd number : ℕ) (options udata : List ℕ) (e r : Endpoint) (i : Indication)
    (a : endpoint p w fd ≡ Some e) (b : endpoint p w resfd ≡ Some r) (c : Cleared (Listen.accept_rows p fd resfd number options udata e r)) (f : find_number number e.outstanding ≡ Some i) where
  ask : AskingCaller p w e.prov fd number i.caller
  ask = asks p w z fd resfd number options udata e r i a b c f

  ask_good : SoundRequests ask.e
  ask_good = z.good i.caller ask.e ask.is_open

  other_resfd : eqb i.caller resfd ≡ false
  other_resfd = not_resfd p w z fd resfd number options udata e r i a b c f

  other_fd : eqb i.caller fd ≡ false
  other_fd = not_fd p w z fd resfd number options udata e r i a b c f

  abbrev first : World
  first = one_world p w fd (Listen.taken_out i.number)

  out : SoundLinksExcept p first (just i.caller)
  out = out-removes p w z s fd e i a (listens p w z fd resfd number options udata e r i a b c f) (no-disconnects e.disconnects (no-disconnect e c.1.1.1.1.1.1.1.1.1.1.0)) (found-number p w z s number e.outstanding i f)

  bind-rests : AllRest (Listen.bind_like e resfd r)
  bind-rests = by (is_state (T_UNBND ∷ []) r)
    where
      by : (d : Bool) → AllRest (cond d (at_endpoint resfd (Listen.bound_like e) ∷ at_switch (give_address r.prov (address_of e) resfd false) ∷ []) [])
      by true = (rests_at resfd (Listen.bound_like e) (bound_like-unseen e), (rests_switch _, tt))
      by false = tt

  abbrev second : World
  second = changed p first (Listen.bind_like e resfd r)

  bound_sound : SoundLinksExcept p second (just i.caller)
  bound_sound = rest-sound p (just i.caller) (Listen.bind_like e resfd r) bind-rests first out

  -- the responding endpoint is idle or unbound, or the listener whose last request this was
  one_left : eqb fd resfd ≡ true → eqb (ocnt e) 1 ≡ true
  one_left j = eq-eqb (ocnt e) 1 (only-one (ocnt e) (ap (λ v. v && nat_lt 1 (ocnt e)) (sym j) ∙ c.1.1.1.1.1.0) (found-length number e.outstanding i f))

  idle_at : (o : Option Endpoint) → endpoint p first resfd ≡ o → IdleStill o
  idle_at None h = tt
  idle_at (Some y) h = by (eqb fd resfd) refl
    where
      by : (d : Bool) → eqb fd resfd ≡ d → is_state (T_UNBND ∷ T_IDLE ∷ []) y ≡ true
      by true j =
          let same : Listen.taken_out i.number e ≡ y = some-is (Listen.taken_out i.number e) y (sym (one-same p w fd (Listen.taken_out i.number) e a) ∙ (ap (endpoint p first) (eqb-true fd resfd j) ∙ h)) in
          ap (is_state (T_UNBND ∷ T_IDLE ∷ [])) (sym same) ∙ ap (λ v. list_any (same_state (cond v T_IDLE e.state)) (T_UNBND ∷ T_IDLE ∷ [])) (one_left j)
      by false j =
          let same : r ≡ y = some-is r y (sym b ∙ (sym (one-other p w fd (Listen.taken_out i.number) resfd (flip fd resfd j)) ∙ h)) in
          ap (is_state (T_UNBND ∷ T_IDLE ∷ [])) (sym same) ∙ not-busy (eqb fd resfd) (is_state (T_UNBND ∷ T_IDLE ∷ []) r) j c.1.1.1.0

  idle_second : IdleStill (endpoint p second resfd)
  idle_second = keeps p IdleStill resfd (Listen.bind_like e resfd r) (by (is_state (T_UNBND ∷ []) r)) first (idle_at (endpoint p first resfd) refl)
    where
      by : (d : Bool) → AllKeep IdleStill resfd (cond d (at_endpoint resfd (Listen.bound_like e) ∷ at_switch (give_address r.prov (address_of e) resfd false) ∷ []) [])
      by true = ((λ j y q. ap (λ v. list_any (same_state v.state) (T_UNBND ∷ T_IDLE ∷ [])) (bound_like-unseen e y) ∙ q), (tt, tt))
      by false = tt

  abbrev third : World
  third = one_world p second resfd (Listen.responding i)

  responded : SoundLinksExcept p third (just i.caller)
  responded = hush p second resfd (Listen.responding i) (just i.caller) bound_sound (λ y h. (let q : Idle y.state = idle-state y.state (subst IdleStill h idle_second) in
      let g : SoundRequests y = bound_sound.good resfd y h in (
        good-plain y (Listen.responding i y) g refl refl refl (g.outstanding q.not_in) refl (asks-not y.target (target-none y g q.not_out)) (λ t. absurd (false≢true (sym t))) (λ t. absurd (none-is i.caller (sym t))),
        alike-pending y (Listen.responding i y) refl refl refl (g.outstanding q.not_in) (g.outstanding q.not_in),
      )))

  abbrev IsCaller : Option Endpoint → Type 0
  IsCaller o = o ≡ Some ask.e

  bind-away : AllKeep IsCaller i.caller (Listen.bind_like e resfd r)
  bind-away = by (is_state (T_UNBND ∷ []) r)
    where
      by : (d : Bool) → AllKeep IsCaller i.caller (cond d (at_endpoint resfd (Listen.bound_like e) ∷ at_switch (give_address r.prov (address_of e) resfd false) ∷ []) [])
      by true = ((λ j. absurd (not-both (eqb i.caller resfd) other_resfd j)), (tt, tt))
      by false = tt

  there : endpoint p third i.caller ≡ Some ask.e
  there = one-other p second resfd (Listen.responding i) i.caller other_resfd ∙ keeps p IsCaller i.caller (Listen.bind_like e resfd r) bind-away first (one-other p w fd (Listen.taken_out i.number) i.caller other_fd ∙ ask.is_open)

  pub accept-took : SoundLinks p (changed p w (Listen.accept_changes fd resfd i options udata e r))
  accept-took = subst (λ y. SoundLinks p y) (sym (changed-append p first (Listen.bind_like e resfd r) (Listen.linking resfd i (address_of (Listen.bound_like e r)) options udata)))
      (rests-again p third i.caller (Listen.accepted resfd (address_of (Listen.bound_like e r)) options udata) ask.e responded there (accepted-good ask.e ask_good (ap is_some ask.has_target) resfd (address_of (Listen.bound_like e r)) options udata) refl refl
      (move-stands ask.e (Listen.accepted resfd (address_of (Listen.bound_like e r)) options udata ask.e) refl (none-outstanding ask.e ask_good (ap is_some ask.has_target))) (move-stands (Listen.accepted resfd (address_of (Listen.bound_like e r)) options udata ask.e) ask.e refl (none-outstanding ask.e ask_good (ap is_some ask.has_target))))

pub accept-call : (p : Providers) (w : World) → SoundLinks p w → (s : Step) (fd resfd number : ℕ) (options udata : List ℕ) → step_of p w (Listen.accept_plan p w fd resfd number options udata) ≡ Some s → SoundLinks p s.world
accept-call p w z s fd resfd number options udata = on-open p w fd (λ e. Listen.accept_with p fd resfd number options udata e (endpoint p w resfd)) s z (λ e a. at_resfd e a (endpoint p w resfd) refl)
  where
    found : (e r : Endpoint) → endpoint p w fd ≡ Some e → endpoint p w resfd ≡ Some r → Cleared (Listen.accept_rows p fd resfd number options udata e r) → (o : Option Indication) → find_number number e.outstanding ≡ o → SoundLinks p (changed p w (Listen.accept_found fd resfd o options udata e r))
    found e r a b c None f = z
    found e r a b c (Some i) f = accept-took p w z s fd resfd number options udata e r i a b c f

    at_resfd : (e : Endpoint) → endpoint p w fd ≡ Some e → (o : Option Endpoint) → endpoint p w resfd ≡ o → Kept p w (Listen.accept_with p fd resfd number options udata e o)
    at_resfd e a None b = plain p w (Listen.accept_with p fd resfd number options udata e None) refl refl z (λ c. z)
    at_resfd e a (Some r) b = plain p w (Listen.accept_with p fd resfd number options udata e (Some r)) refl refl z (λ c. found e r a b c (find_number number e.outstanding) refl)
