-- The other end of a connection, where an endpoint's state says that there is one.
use Rattle.std.proofs.Common.{ℕ, true, false, [], ◌∷◌, ◌<◌, ◌≡◌, ◌⊎◌, inl, inr, refl, sym, ap, ◌∙◌, cond, length, Option, Some, None, is_some, arith}
use Rattle.std.specs.Prelude.{option_and_then}
use Rattle.std.proofs.lemmas.Bool.{false≢true, eq-eqb}
use Rattle.xti_base.specs.declared.kinds.State.{State}
use Rattle.xti_base.specs.declared.kinds.State.TheVariants.{T_OUTCON, T_DATAXFER, T_OUTREL, T_INREL}
use Rattle.xti_model.specs.declared.profile.Providers.{Providers}
use Rattle.xti_model.specs.Endpoint.{Endpoint}
use Rattle.xti_model.specs.World.{World, endpoint}
use Rattle.xti_model.specs.Links.{names, if_back, linked}
use Rattle.xti_model.specs.Events.{is_state, sending}
use Rattle.xti_laws.specs.Requests.{is_connected}
use Rattle.xti_laws.proofs.StepWays.{not-both}
use Rattle.xti_laws.specs.Requests.{is_one_of}
use Rattle.xti_laws.specs.Invariant.{SoundWorld}
use Rattle.xti_laws.specs.Connections.{Linked, NamesBack, IsReleased}
use Rattle.xti_laws.proofs.States.{only}
use Rattle.xti_laws.proofs.Updates.{not-asking}

module _ (p : Providers) (w : World) (fd : ℕ) (e : Endpoint) (h : SoundWorld p w) (i : endpoint p w fd ≡ Some e) where
  -- who names it back is linked with it
  is-linked : (z : ℕ) (y : Endpoint) → e.peer ≡ Some z → endpoint p w z ≡ Some y → y.peer ≡ Some fd → linked p w fd e ≡ Some y
  is-linked z y j k l =
      ap (option_and_then (λ peer. option_and_then (λ other. if_back fd other) (endpoint p w peer))) j ∙
      (ap (option_and_then (λ other. if_back fd other)) k ∙ (ap (λ o. cond (names fd o) (Some y) None) l ∙ ap (λ b. cond b (Some y) None) (eq-eqb fd fd refl)))

  -- a peer, in another state than T_OUTREL
  peer-linked : (z : ℕ) → e.peer ≡ Some z → is_one_of (T_OUTREL ∷ []) e.state ≡ false → Linked p w fd e
  peer-linked z n t = go (endpoint p w z) refl (h.there fd z e i n)
    where
      go : (o : Option Endpoint) → endpoint p w z ≡ o → NamesBack fd o ⊎ IsReleased e → Linked p w fd e
      go o j (inr r) = absurd (not-both (is_one_of (T_OUTREL ∷ []) e.state) t (ap (is_one_of (T_OUTREL ∷ [])) r.0))
      go None j (inl k) = absurd k
      go (Some y) j (inl k) = record { peer = z; other = y; is_named = n; is_open = j; names_back = k; is_linked = is-linked z y n j k; matches = h.matched fd z e y i j n k }

sending-connected : (t : State) → is_one_of sending t ≡ true → (is_connected t ≡ true) × (is_one_of (T_OUTREL ∷ []) t ≡ false) × (is_one_of (T_OUTCON ∷ []) t ≡ false)
sending-connected T_DATAXFER k = (refl, refl, refl)
sending-connected T_INREL k = (refl, refl, refl)
sending-connected t k = absurd (false≢true k)

pub connected-linked : (p : Providers) (w : World) (fd : ℕ) (e : Endpoint) → SoundWorld p w → endpoint p w fd ≡ Some e → is_state sending e ≡ true → e.disconnects ≡ [] → Linked p w fd e
connected-linked p w fd e h i t d = go e.peer refl
  where
    go : (o : Option ℕ) → e.peer ≡ o → Linked p w fd e
    go (Some z) n = peer-linked p w fd e h i z n (sending-connected e.state t).1
    go None n =
        let k = sending-connected e.state t in
        let s = h.endpoints fd e i in
        let l : 0 < length e.disconnects = s.disconnecting.broken k.0 (not-asking e s k.2) n in
        let m : length e.disconnects ≡ 0 = ap length d in absurd (omega (arith, l, m))

pub confirmed-linked : (p : Providers) (w : World) (fd : ℕ) (e : Endpoint) → SoundWorld p w → endpoint p w fd ≡ Some e → is_state (T_OUTCON ∷ []) e ≡ true → is_some e.confirmation ≡ true → Linked p w fd e
confirmed-linked p w fd e h i t c = go e.peer refl
  where
    go : (o : Option ℕ) → e.peer ≡ o → Linked p w fd e
    go (Some z) n = peer-linked p w fd e h i z n (ap (is_one_of (T_OUTREL ∷ [])) (only e.state T_OUTCON t))
    go None n = absurd (false≢true (sym (ap is_some ((h.links.good fd e i).empty n).3) ∙ c))
