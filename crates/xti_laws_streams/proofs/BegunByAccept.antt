-- An accept that answers Ok begins a sound connection.
use Rattle.std.proofs.Common.{ℕ, Bool, true, false, List, [], ◌∷◌, ◌++◌, ◌<◌, ◌≡◌, refl, sym, ap, ◌∙◌, subst, cond, eqb, not, All, Option, Some, None}
use Rattle.std.proofs.lemmas.Bool.{false≢true}
use Rattle.std.proofs.lemmas.List.Elements.{All-nil}
use Rattle.std.specs.Prelude.{option_map, option_and_then, is_some}
use Rattle.std.specs.List.{list_any}
use Rattle.xti_base.specs.Kinds.{same_state, same_prov}
use Rattle.xti_base.specs.declared.kinds.Prov.{Prov}
use Rattle.xti_base.specs.declared.kinds.State.TheVariants.{T_UNBND, T_IDLE, T_INCON, T_DATAXFER}
use Rattle.xti_model.specs.declared.entry.Outcome.TheVariants.{Done}
use Rattle.xti_model.specs.declared.entry.Reply.{Reply}
use Rattle.xti_model.specs.declared.entry.Reply.TheVariants.{Plain}
use Rattle.xti_model.specs.declared.profile.Providers.{Providers}
use Rattle.xti_model.specs.Provider.{is_stream}
use Rattle.xti_model.specs.Endpoint.{Endpoint, Indication, find_number, address_of}
use Rattle.xti_model.specs.World.{World, Change, at_endpoint, at_switch, endpoint, changed}
use Rattle.xti_model.specs.Switch.{give_address}
use Rattle.xti_model.specs.Events.{is_state}
use Rattle.xti_model.specs.Plan.{Plan, answers, waits, if_open, has_effect}
use Rattle.xti_model.specs.Sending.{has_ends}
use Rattle.xti_model.specs.Step.{Step, step_of}
use Rattle.xti_model.specs.Streams.{Connection, connection_of}
use Rattle.xti_model.specs.Calls.Listen as Listen
use Rattle.xti_laws.proofs.ChangedEndpoints.{endpoint-same, changed-append}
use Rattle.xti_laws_streams.proofs.ConnectionEnds.{new_end}
use Rattle.xti_laws_streams.proofs.Invariant.{View, view, HasView, LiveEnd, LinkedEnd, BothLive, SoundConnection}
use Rattle.xti_laws.specs.Requests.{is_connected}
use Rattle.xti_laws.specs.Requests.{SoundRequests, AskingCaller, SoundLinks}
use Rattle.xti_laws.proofs.KeptEndpoints.{Keep, AllKeep, keeps}
use Rattle.xti_laws_streams.proofs.NonLinking.{bound_like-keeps_view}
use Rattle.xti_laws.proofs.StepWays.{Way, takes, loses_all, is_refused, is_marked, way, all_deny, first-denies, is_denial, never-loses, all_kept, some-is, none-is, not-both, flip}
use Rattle.xti_laws.proofs.ClearedRows.{Cleared, cleared, un-not}
use Rattle.xti_laws.proofs.EndpointUpdates.{target-none}
use Rattle.xti_laws.proofs.AcceptEnds.{same-prov, responder-state, asks, responder, not_resfd, not_fd}

-- the views that an accept gives to the responding endpoint and to the caller's
abbrev responding_view : ℕ → View → View
responding_view caller u = record u { state = T_DATAXFER; peer = Some caller }

abbrev accepted_view : ℕ → View → View
accepted_view resfd u = record u { target = None; peer = Some resfd }

-- the endpoint will have the view v once it responds to this caller
abbrev WillRespond : ℕ → View → Option Endpoint → Type 0
WillRespond caller v None = ⊥
WillRespond caller v (Some e) = responding_view caller (view e) ≡ v

-- the endpoint will have the view v once this one accepts it
abbrev WillBeAccepted : ℕ → View → Option Endpoint → Type 0
WillBeAccepted resfd v None = ⊥
WillBeAccepted resfd v (Some e) = accepted_view resfd (view e) ≡ v

module _ (p : Providers) (w : World) (fd resfd : ℕ) (i : Indication) (options udata : List ℕ) (e r : Endpoint) where
  -- the changes of an accept before those that link the two, and those
  abbrev before : List Change
  before = at_endpoint fd (Listen.taken_out i.number) ∷ Listen.bind_like e resfd r

  abbrev linked : List Change
  linked = Listen.linking resfd i (address_of (Listen.bound_like e r)) options udata

  bind-keep : (Q : Option Endpoint → Type 0) (z : ℕ) → Keep Q z (at_endpoint resfd (Listen.bound_like e)) → AllKeep Q z (Listen.bind_like e resfd r)
  bind-keep Q z k = go (is_state (T_UNBND ∷ []) r)
    where
      go : (d : Bool) → AllKeep Q z (cond d (at_endpoint resfd (Listen.bound_like e) ∷ at_switch (give_address r.prov (address_of e) resfd false) ∷ []) [])
      go true = (k, (tt, tt))
      go false = tt

  abbrev accepted_world : World
  accepted_world = changed p w (Listen.accept_changes fd resfd i options udata e r)

  shape : accepted_world ≡ changed p (changed p w before) linked
  shape = changed-append p w before linked

  responder-view : endpoint p w resfd ≡ Some r → eqb resfd i.caller ≡ false → HasView (responding_view i.caller (view r)) (endpoint p accepted_world resfd)
  responder-view o n = subst (λ z. HasView (responding_view i.caller (view r)) (endpoint p z resfd)) (sym shape)
      (keeps p (HasView (responding_view i.caller (view r))) resfd (at_endpoint i.caller (Listen.accepted resfd (address_of (Listen.bound_like e r)) options udata) ∷ []) ((λ j. absurd (not-both (eqb resfd i.caller) n j)), tt)
      (changed p (changed p w before) (at_endpoint resfd (Listen.responding i) ∷ []))
      (responds (endpoint p (changed p w before) resfd) (keeps p (WillRespond i.caller (responding_view i.caller (view r))) resfd before ((λ j y q. q), bind-keep (WillRespond i.caller (responding_view i.caller (view r))) resfd (λ j y q. ap (responding_view i.caller) (bound_like-keeps_view e y) ∙ q)) w (subst (WillRespond i.caller (responding_view i.caller (view r))) (sym o) refl)) (endpoint-same p resfd (Listen.responding i) (changed p w before))))
    where
      responds : (z : Option Endpoint) → WillRespond i.caller (responding_view i.caller (view r)) z → endpoint p (changed p (changed p w before) (at_endpoint resfd (Listen.responding i) ∷ [])) resfd ≡ option_map (Listen.responding i) z
          → HasView (responding_view i.caller (view r)) (endpoint p (changed p (changed p w before) (at_endpoint resfd (Listen.responding i) ∷ [])) resfd)
      responds None q j = absurd q
      responds (Some y) q j = subst (HasView (responding_view i.caller (view r))) (sym j) q

  caller-view : (y : Endpoint) → endpoint p w i.caller ≡ Some y → eqb i.caller fd ≡ false → eqb i.caller resfd ≡ false → HasView (accepted_view resfd (view y)) (endpoint p accepted_world i.caller)
  caller-view y o n m = subst (λ z. HasView (accepted_view resfd (view y)) (endpoint p z i.caller)) (sym shape)
      (accepts (endpoint p (changed p (changed p w before) (at_endpoint resfd (Listen.responding i) ∷ [])) i.caller)
      (keeps p (WillBeAccepted resfd (accepted_view resfd (view y))) i.caller (at_endpoint resfd (Listen.responding i) ∷ []) ((λ j. absurd (not-both (eqb i.caller resfd) m j)), tt) (changed p w before)
      (keeps p (WillBeAccepted resfd (accepted_view resfd (view y))) i.caller before ((λ j. absurd (not-both (eqb i.caller fd) n j)), bind-keep (WillBeAccepted resfd (accepted_view resfd (view y))) i.caller (λ j. absurd (not-both (eqb i.caller resfd) m j))) w (subst (WillBeAccepted resfd (accepted_view resfd (view y))) (sym o) refl)))
      (endpoint-same p i.caller (Listen.accepted resfd (address_of (Listen.bound_like e r)) options udata) (changed p (changed p w before) (at_endpoint resfd (Listen.responding i) ∷ []))))
    where
      accepts : (z : Option Endpoint) → WillBeAccepted resfd (accepted_view resfd (view y)) z → endpoint p (changed p (changed p w before) linked) i.caller ≡ option_map (Listen.accepted resfd (address_of (Listen.bound_like e r)) options udata) z → HasView (accepted_view resfd (view y)) (endpoint p (changed p (changed p w before) linked) i.caller)
      accepts None q j = absurd q
      accepts (Some z) q j = subst (HasView (accepted_view resfd (view y))) (sym j) q

-- an end that has sent and received nothing
new-linked : (p : Providers) (w : World) (c : Connection) (x y : ℕ) (v u : View) → HasView v (endpoint p w x) → LiveEnd p c v → v.peer ≡ Some y → v.normal ≡ [] → v.expedited ≡ [] → v.release ≡ false → LinkedEnd p w c (new_end x) (new_end y) v u
new-linked p w c x y v u h l n a b d = record {
  here = h;
  live = l;
  peer = n;
  holds_rest = holds_rest;
  release = λ j. absurd (not-both v.release d j);
  released = λ j. absurd (false≢true j);
}
  where
    holds_rest : (k : Bool) → [] ++ cond k v.expedited v.normal ≡ []
    holds_rest true = b
    holds_rest false = a

-- a step that answers Ok, where each refusal answers an error, was not refused
pub record TookEffect (p : Providers) (w : World) (x : Plan) (s : Step) : Type 0 where
  pub clear : Cleared x.rows
  pub world : s.world ≡ changed p w x.changes

plain-effect : (p : Providers) (w : World) (x : Plan) (s : Step) → all_deny x.rows ≡ true → all_kept x.rows ≡ true → step_of p w x ≡ Some s → s.outcome ≡ Done Plain → TookEffect p w x s
plain-effect p w x s a k h o = go (way p w x s h)
  where
    denied : (r : Reply) → is_denial r ≡ true → Done r ≡ Done Plain → TookEffect p w x s
    denied r i j = absurd (false≢true (ap is_denial (sym (done-is r j)) ∙ i))
      where
        done-is : (r : Reply) → Done r ≡ Done Plain → r ≡ Plain
        done-is r j = cc

    go : Way p w x s → TookEffect p w x s
    go (takes q j) = record { clear = cleared x.rows (ap has_effect q); world = sym (ap (λ t. t.world) j) }
    go (loses_all n q j) = absurd (never-loses x.rows k q)
    go (is_refused r q j) = denied r (first-denies x.rows (answers r) a q) (ap (λ t. t.outcome) j ∙ o)
    go (is_marked r q j) = denied r (first-denies x.rows (waits r) a q) (ap (λ t. t.outcome) j ∙ o)

module _ (p : Providers) (w : World) (f : SoundLinks p w) (fd resfd number : ℕ) (options udata : List ℕ) (e r : Endpoint) (i : Indication)
    (at_fd : endpoint p w fd ≡ Some e) (at_resfd : endpoint p w resfd ≡ Some r) (clear : Cleared (Listen.accept_rows p fd resfd number options udata e r)) (is_found : find_number number e.outstanding ≡ Some i) where
  asking : AskingCaller p w e.prov fd number i.caller
  asking = asks p w f fd resfd number options udata e r i at_fd at_resfd clear is_found

  idle : list_any (same_state r.state) (T_UNBND ∷ T_IDLE ∷ T_INCON ∷ []) ≡ true
  idle = responder p w f fd resfd number options udata e r i at_fd at_resfd clear is_found

  other_resfd : eqb i.caller resfd ≡ false
  other_resfd = not_resfd p w f fd resfd number options udata e r i at_fd at_resfd clear is_found

  other_fd : eqb i.caller fd ≡ false
  other_fd = not_fd p w f fd resfd number options udata e r i at_fd at_resfd clear is_found

  abbrev made : World
  made = changed p w (Listen.accept_changes fd resfd i options udata e r)

  abbrev between : Connection
  between = record { responder = resfd; caller = i.caller; has_ends = has_ends p e false }

  same_ends : (prov : Prov) → e.prov ≡ prov → has_ends p e false ≡ not (is_stream p prov)
  same_ends prov j = ap (λ z. not (is_stream p z)) j

  pub both-begin : BothLive p made between (new_end resfd) (new_end i.caller)
  both-begin =
      let r_sound : SoundRequests r = f.good resfd r at_resfd in
      let r_empty = r_sound.empty (r_sound.unlinked (responder-state r.state idle).0) in
      let c_sound : SoundRequests asking.e = f.good i.caller asking.e asking.is_open in
      let c_asking = c_sound.asking (ap is_some asking.has_target) in
      let c_empty = c_sound.empty c_asking.1 in
      record {
        v = responding_view i.caller (view r);
        u = accepted_view resfd (view asking.e);
        x_end = new-linked p made between resfd i.caller (responding_view i.caller (view r)) (accepted_view resfd (view asking.e))
            (responder-view p w fd resfd i options udata e r at_resfd (flip i.caller resfd other_resfd))
            (record { in_connection = refl; without_target = target-none r r_sound (responder-state r.state idle).1; ends = same_ends r.prov (same-prov e.prov r.prov (un-not (same_prov e.prov r.prov) clear.1.1.0)); stream = λ j. subst (All (λ s. s < 256)) (sym r_empty.0) (All-nil (λ s. s < 256)) })
            refl r_empty.0 r_empty.1 (ap is_some r_empty.2);
        y_end = new-linked p made between i.caller resfd (accepted_view resfd (view asking.e)) (responding_view i.caller (view r))
            (caller-view p w fd resfd i options udata e r asking.e asking.is_open other_fd other_resfd)
            (record { in_connection = ap is_connected c_asking.0; without_target = refl; ends = same_ends asking.e.prov (sym asking.same_provider); stream = λ j. subst (All (λ s. s < 256)) (sym c_empty.0) (All-nil (λ s. s < 256)) })
            refl c_empty.0 c_empty.1 (ap is_some c_empty.2);
      }

-- the connection of an accept that answered Ok, before its ends make any step
pub record Begun (p : Providers) (w : World) (c : Connection) : Type 0 where
  pub differ : eqb c.caller c.responder ≡ false
  pub sound : SoundConnection p w c (new_end c.responder) (new_end c.caller)

pub accept-begins : (p : Providers) (w : World) (fd resfd number : ℕ) (options udata : List ℕ) (c : Connection) (s : Step) → SoundLinks p w
    → step_of p w (Listen.accept_plan p w fd resfd number options udata) ≡ Some s → s.outcome ≡ Done Plain → option_and_then (connection_of p resfd number) (endpoint p w fd) ≡ Some c → Begun p s.world c
accept-begins p w fd resfd number options udata c s f h o k = at_fd (endpoint p w fd) refl h k
  where
    found : (e r : Endpoint) → endpoint p w fd ≡ Some e → endpoint p w resfd ≡ Some r → Cleared (Listen.accept_rows p fd resfd number options udata e r) → (n : Option Indication) → find_number number e.outstanding ≡ n
        → s.world ≡ changed p w (Listen.accept_found fd resfd n options udata e r) → option_map (λ i. record { responder = resfd; caller = i.caller; has_ends = has_ends p e false }) n ≡ Some c → Begun p s.world c
    found e r a b q None j t k = absurd (none-is c k)
    found e r a b q (Some i) j t k = subst (Begun p s.world) (some-is _ c k) (record {
      differ = not_resfd p w f fd resfd number options udata e r i a b q j;
      sound = subst (λ z. SoundConnection p z (record { responder = resfd; caller = i.caller; has_ends = has_ends p e false }) (new_end resfd) (new_end i.caller)) (sym t) (both-begin p w f fd resfd number options udata e r i a b q j);
    })

    at_resfd : (e : Endpoint) → endpoint p w fd ≡ Some e → (z : Option Endpoint) → endpoint p w resfd ≡ z → step_of p w (Listen.accept_with p fd resfd number options udata e z) ≡ Some s → connection_of p resfd number e ≡ Some c → Begun p s.world c
    at_resfd e a None b h k = (let t : TookEffect p w (Listen.accept_with p fd resfd number options udata e None) s = plain-effect p w (Listen.accept_with p fd resfd number options udata e None) s refl refl h o in absurd (false≢true (sym t.clear.0)))
    at_resfd e a (Some r) b h k = (let t : TookEffect p w (Listen.accept_with p fd resfd number options udata e (Some r)) s = plain-effect p w (Listen.accept_with p fd resfd number options udata e (Some r)) s refl refl h o in
        found e r a b t.clear (find_number number e.outstanding) refl t.world k)

    at_fd : (z : Option Endpoint) → endpoint p w fd ≡ z → step_of p w (if_open fd z (λ e. Listen.accept_with p fd resfd number options udata e (endpoint p w resfd))) ≡ Some s → option_and_then (connection_of p resfd number) z ≡ Some c → Begun p s.world c
    at_fd None a h k = absurd (none-is c k)
    at_fd (Some e) a h k = at_resfd e a (endpoint p w resfd) refl h k
