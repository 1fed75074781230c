-- Changes of several cells that together keep the facts across cells: a request, a close, and a place that opens.
use Rattle.std.proofs.Common.{ℕ, Bool, true, false, List, [], ◌∷◌, ◌++◌, ◌+◌, ◌≡◌, ◌⊎◌, inl, inr, refl, sym, ap, ◌∙◌, subst, cond, eqb, ◌&&◌, Option, Some, None, is_some}
use Rattle.std.proofs.lemmas.Bool.{eqb-true, eq-eqb}
use Rattle.std.proofs.lemmas.List.{append-nil}
use Rattle.std.specs.List.{list_any}
use Rattle.xti_base.specs.Kinds.{same_state}
use Rattle.xti_base.specs.declared.kinds.Prov.{Prov}
use Rattle.xti_base.specs.declared.kinds.State.TheVariants.{T_IDLE, T_INCON}
use Rattle.xti_model.specs.declared.profile.Providers.{Providers}
use Rattle.xti_model.specs.Endpoint.{Endpoint, Indication, Target, find_number, is_target, disconnected}
use Rattle.xti_model.specs.World.{World, endpoint}
use Rattle.xti_model.specs.Events.{is_state}
use Rattle.xti_model.specs.Calls.Connect as Connect
use Rattle.xti_model.specs.Calls.Close as Close
use Rattle.xti_laws.specs.Requests.{disconnects_with, SoundRequests, Stands, request_to, AskingCaller, AskedListener, SoundLinksExcept, SoundLinks}
use Rattle.xti_model.specs.Calls.Disconnect.{is_asked}
use Rattle.xti_laws.proofs.StepWays.{some-is, none-is, not-both, flip}
use Rattle.xti_laws.proofs.OneChange.{one_world, one-same, one-other, one-cases, just}
use Rattle.xti_laws.proofs.EndpointUpdates.{Idle, only-idle, good-plain, asks-not, target-none}
use Rattle.xti_laws.proofs.RequestUpdates.{asked-good, asked-on, asked-new, asked-back, asking-good, move-stands}

-- A request reaches a listener, and its caller has it as its target.
module _ (p : Providers) (w : World) (sound : SoundLinks p w) (l c : ℕ) (le ce : Endpoint) (at_l : endpoint p w l ≡ Some le) (at_c : endpoint p w c ≡ Some ce) (differ : eqb l c ≡ false)
    (idle : is_state (T_IDLE ∷ []) ce ≡ true) (none : ce.disconnects ≡ []) (prov : ce.prov ≡ le.prov) (address options udata : List ℕ) where
  abbrev asked_le : Endpoint
  asked_le = Connect.asked c address options udata le

  abbrev asking_ce : Endpoint
  asking_ce = Connect.asking l (le.last_number + 1) ce

  abbrev first_world : World
  first_world = one_world p w l (Connect.asked c address options udata)

  abbrev second_world : World
  second_world = one_world p first_world c (Connect.asking l (le.last_number + 1))

  first_c : endpoint p first_world c ≡ Some ce
  first_c = one-other p w l (Connect.asked c address options udata) c (flip l c differ) ∙ at_c

  cases : {A : Type 0} (y : ℕ) (e' : Endpoint) → endpoint p second_world y ≡ Some e' → ((y ≡ c) → (asking_ce ≡ e') → A) → ((eqb y c ≡ false) → (y ≡ l) → (asked_le ≡ e') → A) → ((eqb y c ≡ false) → (eqb y l ≡ false) → (endpoint p w y ≡ Some e') → A) → A
  cases y e' h a b d = one-cases p first_world c (Connect.asking l (le.last_number + 1)) y ce e' first_c h a (λ i j. one-cases p w l (Connect.asked c address options udata) y le e' at_l j (b i) (d i))

  second_c : endpoint p second_world c ≡ Some asking_ce
  second_c = one-same p first_world c (Connect.asking l (le.last_number + 1)) ce first_c

  second_l : endpoint p second_world l ≡ Some asked_le
  second_l = one-other p first_world c (Connect.asking l (le.last_number + 1)) l differ ∙ one-same p w l (Connect.asked c address options udata) le at_l

  second_other : (y : ℕ) → eqb y c ≡ false → eqb y l ≡ false → endpoint p second_world y ≡ endpoint p w y
  second_other y i j = one-other p first_world c (Connect.asking l (le.last_number + 1)) y i ∙ one-other p w l (Connect.asked c address options udata) y j

  good_l : SoundRequests le
  good_l = sound.good l le at_l

  good_c : SoundRequests ce
  good_c = sound.good c ce at_c

  idle_c : Idle ce.state
  idle_c = only-idle ce.state idle

  no_target : ce.target ≡ None
  no_target = target-none ce good_c idle_c.not_out

  -- a caller of before is another, and is there still
  caller : (prov' : Prov) (k m d : ℕ) → AskingCaller p w prov' k m d → AskingCaller p second_world prov' k m d
  caller prov' k m d b = go (eqb d c) refl (eqb d l) refl
    where
      go : (x : Bool) → eqb d c ≡ x → (y : Bool) → eqb d l ≡ y → AskingCaller p second_world prov' k m d
      go true i y j = absurd (none-is (request_to k m) (sym no_target ∙ (ap (λ z. z.target) (some-is ce b.e (sym at_c ∙ (ap (endpoint p w) (sym (eqb-true d c i)) ∙ b.is_open))) ∙ b.has_target)))
      go false i true j =
          let same : le ≡ b.e = some-is le b.e (sym at_l ∙ (ap (endpoint p w) (sym (eqb-true d l j)) ∙ b.is_open)) in
          record { e = asked_le; is_open = ap (endpoint p second_world) (eqb-true d l j) ∙ second_l; has_target = ap (λ z. z.target) same ∙ b.has_target; same_provider = ap (λ z. z.prov) same ∙ b.same_provider }
      go false i false j = record { e = b.e; is_open = second_other d i j ∙ b.is_open; has_target = b.has_target; same_provider = b.same_provider }

  pub request-sound : SoundLinks p second_world
  request-sound = record {
    good = λ y e' h. cases y e' h (λ i j. subst SoundRequests j (asking-good ce good_c idle none l (le.last_number + 1))) (λ i j k. subst SoundRequests k (asked-good le good_l c address options udata)) (λ i j k. sound.good y e' k);
    asked = asked;
    asks = asks;
  }
    where
      asked : (k m d : ℕ) (e' : Endpoint) → endpoint p second_world k ≡ Some e' → Stands e' m d → (false ≡ false) × AskingCaller p second_world e'.prov k m d
      asked k m d e' h s = cases k e' h
          (λ i j. (
            refl,
            subst (λ z. AskingCaller p second_world e'.prov z m d) (sym i) (subst (λ z. AskingCaller p second_world z c m d) (ap (λ z. z.prov) j)
                (caller ce.prov c m d (sound.asked c m d ce at_c (move-stands asking_ce ce refl (good_c.outstanding idle_c.not_in) m d (subst (λ z. Stands z m d) (sym j) s))).1)),
          ))
          (λ i j q. (refl, subst (λ z. AskingCaller p second_world e'.prov z m d) (sym j) (subst (λ z. AskingCaller p second_world z l m d) (ap (λ z. z.prov) q) (new m d (asked-back le good_l c address options udata m d (subst (λ z. Stands z m d) (sym q) s))))))
          (λ i j q. (refl, caller e'.prov k m d (sound.asked k m d e' q s).1))
        where
          new : (m d : ℕ) → Stands le m d ⊎ ((m ≡ le.last_number + 1) × (d ≡ c)) → AskingCaller p second_world le.prov l m d
          new m d (inl t) = caller le.prov l m d (sound.asked l m d le at_l t).1
          new m d (inr t) = subst (λ z. AskingCaller p second_world le.prov l z d) (sym t.0) (subst (λ z. AskingCaller p second_world le.prov l (le.last_number + 1) z) (sym t.1) (record { e = asking_ce; is_open = second_c; has_target = refl; same_provider = prov }))

      listener : (t : Target) (d : ℕ) → AskedListener p w t d → AskedListener p second_world t d
      listener t d b = go (eqb t.listener c) refl (eqb t.listener l) refl
        where
          go : (x : Bool) → eqb t.listener c ≡ x → (y : Bool) → eqb t.listener l ≡ y → AskedListener p second_world t d
          go true i y j =
              let same : b.e ≡ ce = some-is b.e ce (sym b.is_open ∙ (ap (endpoint p w) (eqb-true t.listener c i) ∙ at_c)) in
              record { e = asking_ce; is_open = ap (endpoint p second_world) (eqb-true t.listener c i) ∙ second_c; stands = move-stands ce asking_ce refl (good_c.outstanding idle_c.not_in) t.number d (subst (λ z. Stands z t.number d) same b.stands) }
          go false i true j =
              let same : b.e ≡ le = some-is b.e le (sym b.is_open ∙ (ap (endpoint p w) (eqb-true t.listener l j) ∙ at_l)) in
              record { e = asked_le; is_open = ap (endpoint p second_world) (eqb-true t.listener l j) ∙ second_l; stands = asked-on le good_l c address options udata t.number d (subst (λ z. Stands z t.number d) same b.stands) }
          go false i false j = record { e = b.e; is_open = second_other t.listener i j ∙ b.is_open; stands = b.stands }

      asks : (d : ℕ) (e' : Endpoint) (t : Target) → false ≡ false → endpoint p second_world d ≡ Some e' → e'.target ≡ Some t → AskedListener p second_world t d
      asks d e' t x h q = cases d e' h
          (λ i j. subst (AskedListener p second_world t) (sym i) (subst (λ z. AskedListener p second_world z c) (some-is (request_to l (le.last_number + 1)) t (ap (λ z. z.target) j ∙ q)) (record { e = asked_le; is_open = second_l; stands = asked-new le good_l c address options udata })))
          (λ i j k. subst (AskedListener p second_world t) (sym j) (listener t l (sound.asks l le t refl at_l (ap (λ z. z.target) k ∙ q))))
          (λ i j k. listener t d (sound.asks d e' t refl k q))

-- An endpoint leaves: nothing of its own requests stands, and whoever has it as its listener is in this list.
abbrev pub IsIn : List Indication → ℕ → ℕ → Type 0
IsIn [] n c = ⊥
IsIn (i ∷ is) n c = ((i.caller ≡ c) × (i.number ≡ n)) ⊎ IsIn is n c

pub record Leaving (p : Providers) (w : World) (fd : ℕ) (is : List Indication) : Type 0 where
  pub good : (y : ℕ) (e : Endpoint) → endpoint p w y ≡ Some e → SoundRequests e
  pub asked : (l n c : ℕ) (e : Endpoint) → eqb l fd ≡ false → endpoint p w l ≡ Some e → Stands e n c → (eqb c fd ≡ false) × AskingCaller p w e.prov l n c
  pub asks : (c : ℕ) (e : Endpoint) (t : Target) → eqb c fd ≡ false → eqb t.listener fd ≡ false → endpoint p w c ≡ Some e → e.target ≡ Some t → AskedListener p w t c
  pub mine : (c n : ℕ) (e : Endpoint) → eqb c fd ≡ false → endpoint p w c ≡ Some e → e.target ≡ Some (request_to fd n) → IsIn is n c

pub found-in : (n c : ℕ) (is more : List Indication) (i : Indication) → i.caller ≡ c → find_number n is ≡ Some i → IsIn (is ++ more) n c
found-in n c [] more i q h = absurd (none-is i h)
found-in n c (x ∷ is) more i q h = go (eqb x.number n) refl h (found-in n c is more i q)
  where
    go : (b : Bool) → eqb x.number n ≡ b → cond b (Some x) (find_number n is) ≡ Some i → (find_number n is ≡ Some i → IsIn (is ++ more) n c) → ((x.caller ≡ c) × (x.number ≡ n)) ⊎ IsIn (is ++ more) n c
    go true j k r = inl (ap (λ z. z.caller) (some-is x i k) ∙ q, eqb-true x.number n j)
    go false j k r = inr (r k)

in-more : (n c : ℕ) (xs ys : List Indication) → IsIn ys n c → IsIn (xs ++ ys) n c
in-more n c [] ys h = h
in-more n c (x ∷ xs) ys h = inr (in-more n c xs ys h)

pub in-right : (n c : ℕ) (xs ys : List Indication) (i : Indication) → i.caller ≡ c → find_number n ys ≡ Some i → IsIn (xs ++ ys) n c
in-right n c xs ys i q h = in-more n c xs ys (subst (λ z. IsIn z n c) (append-nil ys) (found-in n c ys [] i q h))

pub begins-leaving : (p : Providers) (w : World) (fd : ℕ) (e : Endpoint) → SoundLinksExcept p w (just fd) → endpoint p w fd ≡ Some e → Leaving p w fd (e.pending ++ e.outstanding)
begins-leaving p w fd e s o = record {
  good = s.good;
  asked = λ l n c e' i h t. s.asked l n c e' h t;
  asks = λ c e' t i j h q. s.asks c e' t i h q;
  mine = λ c n e' i h q. found c n (s.asks c e' (request_to fd n) i h q);
}
  where
    found : (c n : ℕ) → AskedListener p w (request_to fd n) c → IsIn (e.pending ++ e.outstanding) n c
    found c n b = (let t : Stands e n c = subst (λ z. Stands z n c) (some-is b.e e (sym b.is_open ∙ o)) b.stands in go t t.is_found)
      where
        go : (t : Stands e n c) → ((find_number n e.pending ≡ Some t.i) ⊎ ((find_number n e.outstanding ≡ Some t.i) × (disconnects_with n e.disconnects ≡ 0))) → IsIn (e.pending ++ e.outstanding) n c
        go t (inl f) = found-in n c e.pending e.outstanding t.i t.is_caller f
        go t (inr f) = in-right n c e.pending e.outstanding t.i t.is_caller f.0

-- a caller that has it as its target gives up
given-alike : (fd n : ℕ) (e : Endpoint) → SoundRequests e → e.target ≡ Some (request_to fd n) → SoundRequests (record (disconnected 5 0 [] e) { target = None })
given-alike fd n e g h = (let q = g.asking (ap is_some h) in
    let a : is_asked e ≡ false = ap (λ z. list_any (same_state z) (T_INCON ∷ [])) q.0 in
    good-plain e (record (disconnected 5 0 [] e) { target = None }) g refl refl refl (g.outstanding a) a (asks-not None refl) g.unlinked g.empty)

pub record GivenUp (fd n : ℕ) (e e' : Endpoint) : Type 0 where
  pub good : SoundRequests e'
  pub prov : e'.prov ≡ e.prov
  pub stands : (m d : ℕ) → Stands e m d → Stands e' m d
  pub back : (m d : ℕ) → Stands e' m d → Stands e m d
  pub other : (l m : ℕ) → (eqb l fd ≡ false) → e.target ≡ Some (request_to l m) → e'.target ≡ Some (request_to l m)
  pub fewer : (t : Target) → e'.target ≡ Some t → e.target ≡ Some t
  pub not_it : e'.target ≡ Some (request_to fd n) → ⊥

pub given-up : (fd n : ℕ) (e : Endpoint) → SoundRequests e → GivenUp fd n e (Close.given_up fd n e)
given-up fd n e g = go e.target refl
  where
    clears : e.target ≡ Some (request_to fd n) → GivenUp fd n e (record (disconnected 5 0 [] e) { target = None })
    clears h = (let q = g.asking (ap is_some h) in
        let a : e.outstanding ≡ [] = g.outstanding (ap (λ z. list_any (same_state z) (T_INCON ∷ [])) q.0) in
        record {
          good = given-alike fd n e g h;
          prov = refl;
          stands = move-stands e (record (disconnected 5 0 [] e) { target = None }) refl a;
          back = move-stands (record (disconnected 5 0 [] e) { target = None }) e refl a;
          other = λ l m i j. absurd (not-both (eqb l fd) i (eq-eqb l fd (ap (λ t. t.listener) (some-is (request_to l m) (request_to fd n) (sym j ∙ h)))));
          fewer = λ t i. absurd (none-is t i);
          not_it = λ i. none-is (request_to fd n) i;
        })

    leaves : ((e.target ≡ Some (request_to fd n)) → ⊥) → GivenUp fd n e e
    leaves h = record { good = g; prov = refl; stands = λ m d s. s; back = λ m d s. s; other = λ l m i j. j; fewer = λ t i. i; not_it = h }

    choose : (b : Bool) → is_target fd n e.target ≡ b → GivenUp fd n e (cond b (record (disconnected 5 0 [] e) { target = None }) e) → GivenUp fd n e (Close.given_up fd n e)
    choose b i q = subst (λ z. GivenUp fd n e (cond z (record (disconnected 5 0 [] e) { target = None }) e)) (sym i) q

    test : (t : Target) → e.target ≡ Some t → (b : Bool) → eqb t.listener fd ≡ b → (d : Bool) → eqb t.number n ≡ d → GivenUp fd n e (Close.given_up fd n e)
    test t i true j true k = choose true (ap (is_target fd n) i ∙ (ap (λ z. z && eqb t.number n) j ∙ k)) (clears (i ∙ ap₂-to t (eqb-true t.listener fd j) (eqb-true t.number n k)))
      where
        ap₂-to : (t : Target) → t.listener ≡ fd → t.number ≡ n → Some t ≡ Some (request_to fd n)
        ap₂-to t a b = λ z. Some (record { listener = a z; number = b z })
    test t i true j false k = choose false (ap (is_target fd n) i ∙ (ap (λ z. z && eqb t.number n) j ∙ k)) (leaves (λ h. not-both (eqb t.number n) k (eq-eqb t.number n (ap (λ z. z.number) (some-is t (request_to fd n) (sym i ∙ h))))))
    test t i false j d k = choose false (ap (is_target fd n) i ∙ ap (λ z. z && eqb t.number n) j) (leaves (λ h. not-both (eqb t.listener fd) j (eq-eqb t.listener fd (ap (λ z. z.listener) (some-is t (request_to fd n) (sym i ∙ h))))))

    go : (o : Option Target) → e.target ≡ o → GivenUp fd n e (Close.given_up fd n e)
    go None i = choose false (ap (is_target fd n) i) (leaves (λ h. none-is (request_to fd n) (sym i ∙ h)))
    go (Some t) i = test t i (eqb t.listener fd) refl (eqb t.number n) refl
