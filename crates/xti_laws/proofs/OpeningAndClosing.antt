-- An endpoint closes, and a place opens.
use Rattle.std.proofs.Common.{ℕ, Bool, true, false, List, [], ◌∷◌, ◌≡◌, ◌⊎◌, inl, inr, refl, sym, ap, ◌∙◌, subst, eqb, map, Option, Some, None}
use Rattle.std.proofs.lemmas.Bool.{eqb-true, eq-eqb}
use Rattle.std.specs.Prelude.{option_map}
use Rattle.xti_base.specs.declared.kinds.Prov.{Prov}
use Rattle.xti_model.specs.declared.profile.Profile.{Profile}
use Rattle.xti_model.specs.declared.profile.Providers.{Providers}
use Rattle.xti_model.specs.Endpoint.{Endpoint, Indication, Target, find_number, opened}
use Rattle.xti_model.specs.World.{World, opens_place, closes_endpoint, changed, endpoint}
use Rattle.xti_model.specs.Calls.Close as Close
use Rattle.xti_laws.proofs.ChangedEndpoints.{endpoint-same, closed-same, closed-other}
use Rattle.xti_laws.specs.Requests.{disconnects_with, SoundRequests, Stands, request_to, AskingCaller, AskedListener, SoundLinks}
use Rattle.xti_laws.proofs.KeptEndpoints.{keeps}
use Rattle.xti_laws.proofs.StepWays.{some-is, none-is, not-both}
use Rattle.xti_laws.proofs.OneChange.{one_world, one-same, one-other, one-cases}
use Rattle.xti_laws.proofs.EndpointUpdates.{good-opened}
use Rattle.xti_laws.proofs.SeveralCells.{Leaving, IsIn, GivenUp, given-up}

-- one caller after the other gives up
module _ (p : Providers) (fd : ℕ) where
  one-leaves : (w : World) (i : Indication) (is : List Indication) → Leaving p w fd (i ∷ is) → Leaving p (one_world p w i.caller (Close.given_up fd i.number)) fd is
  one-leaves w i is v = go (endpoint p w i.caller) refl
    where
      there : (e : Endpoint) → endpoint p w i.caller ≡ Some e → Leaving p (one_world p w i.caller (Close.given_up fd i.number)) fd is
      there e o = record { good = good; asked = asked; asks = asks; mine = mine }
        where
          q : GivenUp fd i.number e (Close.given_up fd i.number e)
          q = given-up fd i.number e (v.good i.caller e o)

          good : (y : ℕ) (e' : Endpoint) → endpoint p (one_world p w i.caller (Close.given_up fd i.number)) y ≡ Some e' → SoundRequests e'
          good y e' h = one-cases p w i.caller (Close.given_up fd i.number) y e e' o h (λ a b. subst SoundRequests b q.good) (λ a b. v.good y e' b)

          caller : (prov : Prov) (l m d : ℕ) → eqb l fd ≡ false → AskingCaller p w prov l m d → AskingCaller p (one_world p w i.caller (Close.given_up fd i.number)) prov l m d
          caller prov l m d n b = by (eqb d i.caller) refl
            where
              by : (z : Bool) → eqb d i.caller ≡ z → AskingCaller p (one_world p w i.caller (Close.given_up fd i.number)) prov l m d
              by false j = record { e = b.e; is_open = one-other p w i.caller (Close.given_up fd i.number) d j ∙ b.is_open; has_target = b.has_target; same_provider = b.same_provider }
              by true j =
                  let same : e ≡ b.e = some-is e b.e (sym o ∙ (ap (endpoint p w) (sym (eqb-true d i.caller j)) ∙ b.is_open)) in
                  record { e = Close.given_up fd i.number e; is_open = ap (endpoint p (one_world p w i.caller (Close.given_up fd i.number))) (eqb-true d i.caller j) ∙ one-same p w i.caller (Close.given_up fd i.number) e o; has_target = q.other l m n (ap (λ z. z.target) same ∙ b.has_target); same_provider = q.prov ∙ (ap (λ z. z.prov) same ∙ b.same_provider) }

          asked : (l n c : ℕ) (e' : Endpoint) → eqb l fd ≡ false → endpoint p (one_world p w i.caller (Close.given_up fd i.number)) l ≡ Some e' → Stands e' n c → (eqb c fd ≡ false) × AskingCaller p (one_world p w i.caller (Close.given_up fd i.number)) e'.prov l n c
          asked l n c e' d h s = one-cases p w i.caller (Close.given_up fd i.number) l e e' o h
              (λ a b. (let r = v.asked i.caller n c e (ap (λ z. eqb z fd) (sym a) ∙ d) o (q.back n c (subst (λ z. Stands z n c) (sym b) s)) in
              (r.0, subst (λ z. AskingCaller p (one_world p w i.caller (Close.given_up fd i.number)) e'.prov z n c) (sym a) (subst (λ z. AskingCaller p (one_world p w i.caller (Close.given_up fd i.number)) z i.caller n c) (sym q.prov ∙ ap (λ z. z.prov) b) (caller e.prov i.caller n c (ap (λ z. eqb z fd) (sym a) ∙ d) r.1)))))
              (λ a b. (let r = v.asked l n c e' d b s in (r.0, caller e'.prov l n c d r.1)))

          listener : (t : Target) (d : ℕ) → AskedListener p w t d → AskedListener p (one_world p w i.caller (Close.given_up fd i.number)) t d
          listener t d b = by (eqb t.listener i.caller) refl
            where
              by : (z : Bool) → eqb t.listener i.caller ≡ z → AskedListener p (one_world p w i.caller (Close.given_up fd i.number)) t d
              by false j = record { e = b.e; is_open = one-other p w i.caller (Close.given_up fd i.number) t.listener j ∙ b.is_open; stands = b.stands }
              by true j =
                  let same : b.e ≡ e = some-is b.e e (sym b.is_open ∙ (ap (endpoint p w) (eqb-true t.listener i.caller j) ∙ o)) in
                  record { e = Close.given_up fd i.number e; is_open = ap (endpoint p (one_world p w i.caller (Close.given_up fd i.number))) (eqb-true t.listener i.caller j) ∙ one-same p w i.caller (Close.given_up fd i.number) e o; stands = q.stands t.number d (subst (λ z. Stands z t.number d) same b.stands) }

          asks : (c : ℕ) (e' : Endpoint) (t : Target) → eqb c fd ≡ false → eqb t.listener fd ≡ false → endpoint p (one_world p w i.caller (Close.given_up fd i.number)) c ≡ Some e' → e'.target ≡ Some t → AskedListener p (one_world p w i.caller (Close.given_up fd i.number)) t c
          asks c e' t n d h r = one-cases p w i.caller (Close.given_up fd i.number) c e e' o h
              (λ a b. listener t c (v.asks c e t n d (ap (endpoint p w) a ∙ o) (q.fewer t (ap (λ z. z.target) b ∙ r))))
              (λ a b. listener t c (v.asks c e' t n d b r))

          rest : (c n : ℕ) → ((i.caller ≡ c) → (i.number ≡ n) → ⊥) → IsIn (i ∷ is) n c → IsIn is n c
          rest c n k (inl x) = absurd (k x.0 x.1)
          rest c n k (inr x) = x

          mine : (c n : ℕ) (e' : Endpoint) → eqb c fd ≡ false → endpoint p (one_world p w i.caller (Close.given_up fd i.number)) c ≡ Some e' → e'.target ≡ Some (request_to fd n) → IsIn is n c
          mine c n e' d h r = one-cases p w i.caller (Close.given_up fd i.number) c e e' o h
              (λ a b. rest c n (λ x y. q.not_it (ap (λ z. z.target) b ∙ (r ∙ ap (λ z. Some (request_to fd z)) (sym y)))) (v.mine c n e d (ap (endpoint p w) a ∙ o) (q.fewer (request_to fd n) (ap (λ z. z.target) b ∙ r))))
              (λ a b. rest c n (λ x y. not-both (eqb c i.caller) a (eq-eqb c i.caller (sym x))) (v.mine c n e' d b r))

      none-there : endpoint p w i.caller ≡ None → Leaving p (one_world p w i.caller (Close.given_up fd i.number)) fd is
      none-there o = record {
        good = λ y e h. v.good y e (sym (same y) ∙ h);
        asked = λ l n c e d h s. (let r = v.asked l n c e d (sym (same l) ∙ h) s in (r.0, record { e = r.1.e; is_open = same c ∙ r.1.is_open; has_target = r.1.has_target; same_provider = r.1.same_provider }));
        asks = λ c e t n d h r. (let b = v.asks c e t n d (sym (same c) ∙ h) r in record { e = b.e; is_open = same t.listener ∙ b.is_open; stands = b.stands });
        mine = λ c n e d h r. rest c n e (sym (same c) ∙ h) (v.mine c n e d (sym (same c) ∙ h) r);
      }
        where
          same : (y : ℕ) → endpoint p (one_world p w i.caller (Close.given_up fd i.number)) y ≡ endpoint p w y
          same y = by (eqb y i.caller) refl
            where
              by : (b : Bool) → eqb y i.caller ≡ b → endpoint p (one_world p w i.caller (Close.given_up fd i.number)) y ≡ endpoint p w y
              by true j = ap (endpoint p (one_world p w i.caller (Close.given_up fd i.number))) (eqb-true y i.caller j) ∙ (endpoint-same p i.caller (Close.given_up fd i.number) w ∙ (ap (option_map (Close.given_up fd i.number)) o ∙ (sym o ∙ ap (endpoint p w) (sym (eqb-true y i.caller j)))))
              by false j = one-other p w i.caller (Close.given_up fd i.number) y j

          rest : (c n : ℕ) (e : Endpoint) → endpoint p w c ≡ Some e → IsIn (i ∷ is) n c → IsIn is n c
          rest c n e h (inl x) = absurd (none-is e (sym o ∙ (ap (endpoint p w) x.0 ∙ h)))
          rest c n e h (inr x) = x

      go : (z : Option Endpoint) → endpoint p w i.caller ≡ z → Leaving p (one_world p w i.caller (Close.given_up fd i.number)) fd is
      go None o = none-there o
      go (Some e) o = there e o

  pub all-leave : (is : List Indication) (w : World) → Leaving p w fd is → Leaving p (changed p w (map (Close.give_up_caller fd) is)) fd []
  all-leave [] w v = v
  all-leave (i ∷ is) w v = all-leave is (one_world p w i.caller (Close.given_up fd i.number)) (one-leaves w i is v)

  -- then it closes
  pub closes-sound : (w : World) → Leaving p w fd [] → SoundLinks p (changed p w (closes_endpoint fd ∷ []))
  closes-sound w v = record { good = good; asked = asked; asks = asks }
    where
      cases : {A : Type 0} (y : ℕ) (e : Endpoint) → endpoint p (changed p w (closes_endpoint fd ∷ [])) y ≡ Some e → ((eqb y fd ≡ false) → (endpoint p w y ≡ Some e) → A) → A
      cases {A} y e h k = by (eqb y fd) refl
        where
          by : (b : Bool) → eqb y fd ≡ b → A
          by true j = absurd (none-is e (sym (closed-same p fd w) ∙ (ap (endpoint p (changed p w (closes_endpoint fd ∷ []))) (sym (eqb-true y fd j)) ∙ h)))
          by false j = k j (sym (closed-other p fd y j w) ∙ h)

      good : (y : ℕ) (e : Endpoint) → endpoint p (changed p w (closes_endpoint fd ∷ [])) y ≡ Some e → SoundRequests e
      good y e h = cases y e h (λ j k. v.good y e k)

      asked : (l n c : ℕ) (e : Endpoint) → endpoint p (changed p w (closes_endpoint fd ∷ [])) l ≡ Some e → Stands e n c → (false ≡ false) × AskingCaller p (changed p w (closes_endpoint fd ∷ [])) e.prov l n c
      asked l n c e h s = cases l e h (λ j k. (let r = v.asked l n c e j k s in (refl, record { e = r.1.e; is_open = closed-other p fd c r.0 w ∙ r.1.is_open; has_target = r.1.has_target; same_provider = r.1.same_provider })))

      asks : (c : ℕ) (e : Endpoint) (t : Target) → false ≡ false → endpoint p (changed p w (closes_endpoint fd ∷ [])) c ≡ Some e → e.target ≡ Some t → AskedListener p (changed p w (closes_endpoint fd ∷ [])) t c
      asks c e t x h q = cases c e h (λ j k. by (eqb t.listener fd) refl j k)
        where
          by : (b : Bool) → eqb t.listener fd ≡ b → eqb c fd ≡ false → endpoint p w c ≡ Some e → AskedListener p (changed p w (closes_endpoint fd ∷ [])) t c
          by true j i k = absurd (v.mine c t.number e i k (q ∙ ap (λ z. Some (record { listener = z; number = t.number })) (eqb-true t.listener fd j)))
          by false j i k = (let b = v.asks c e t i j k q in record { e = b.e; is_open = closed-other p fd t.listener j w ∙ b.is_open; stands = b.stands })

-- A place opens: what is open there is new, or as it was.
module _ (p : Providers) (w : World) (place : ℕ) (profile : Profile) (prov : Prov) (nonblock : Bool) where
  abbrev new_end : Endpoint
  new_end = opened profile prov nonblock

  abbrev open_world : World
  open_world = changed p w (opens_place place new_end ∷ [])

  abbrev IsNewOr : ℕ → Option Endpoint → Type 0
  IsNewOr y o = (o ≡ endpoint p w y) ⊎ ((endpoint p w y ≡ None) × (o ≡ Some new_end))

  pub opens-cases : (y : ℕ) → IsNewOr y (endpoint p open_world y)
  opens-cases y = keeps p (IsNewOr y) y (opens_place place new_end ∷ []) (new (endpoint p w y) refl, tt) w (inl refl)
    where
      new : (o : Option Endpoint) → endpoint p w y ≡ o → IsNewOr y None → IsNewOr y (Some new_end)
      new None i q = inr (i, refl)
      new (Some e) i (inl q) = absurd (none-is e (q ∙ i))
      new (Some e) i (inr q) = absurd (none-is e (sym q.0 ∙ i))

  stays : (y : ℕ) (e : Endpoint) → endpoint p w y ≡ Some e → endpoint p open_world y ≡ Some e
  stays y e h = go (opens-cases y)
    where
      go : IsNewOr y (endpoint p open_world y) → endpoint p open_world y ≡ Some e
      go (inl q) = q ∙ h
      go (inr q) = absurd (none-is e (sym q.0 ∙ h))

  no-stand : (n c : ℕ) → Stands new_end n c → ⊥
  no-stand n c s = go s.is_found
    where
      go : ((find_number n [] ≡ Some s.i) ⊎ ((find_number n [] ≡ Some s.i) × (disconnects_with n [] ≡ 0))) → ⊥
      go (inl f) = none-is s.i f
      go (inr f) = none-is s.i f.0

  cases : {A : Type 0} (y : ℕ) (e : Endpoint) → endpoint p open_world y ≡ Some e → ((new_end ≡ e) → A) → ((endpoint p w y ≡ Some e) → A) → A
  cases {A} y e h a b = go (opens-cases y)
    where
      go : IsNewOr y (endpoint p open_world y) → A
      go (inl q) = b (sym q ∙ h)
      go (inr q) = a (some-is new_end e (sym q.1 ∙ h))

  pub opens-sound : SoundLinks p w → SoundLinks p open_world
  opens-sound s = record {
    good = λ y e h. cases y e h (λ q. subst SoundRequests q (good-opened profile prov nonblock)) (λ q. s.good y e q);
    asked = λ l n c e h t. cases l e h (λ q. absurd (no-stand n c (subst (λ z. Stands z n c) (sym q) t))) (λ q. (let r = (s.asked l n c e q t).1 in (refl, record { e = r.e; is_open = stays c r.e r.is_open; has_target = r.has_target; same_provider = r.same_provider })));
    asks = λ c e t x h q. cases c e h (λ k. absurd (none-is t (ap (λ z. z.target) k ∙ q))) (λ k. (let b = s.asks c e t refl k q in record { e = b.e; is_open = stays t.listener b.e b.is_open; stands = b.stands }));
  }
