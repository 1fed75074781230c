-- What single changes keep of the facts across cells.
use Rattle.std.proofs.Common.{ℕ, Bool, true, false, List, [], ◌∷◌, ◌+◌, ◌≤◌, ◌≡◌, ◌⊎◌, inl, inr, refl, sym, ap, ◌∙◌, subst, eqb, Option, Some, None, arith}
use Rattle.std.proofs.lemmas.Bool.{eqb-true, eq-eqb}
use Rattle.std.specs.Prelude.{option_map}
use Rattle.xti_base.specs.declared.kinds.Prov.{Prov}
use Rattle.xti_model.specs.declared.profile.Providers.{Providers}
use Rattle.xti_model.specs.Endpoint.{Endpoint, Indication, Target, find_number}
use Rattle.xti_model.specs.World.{World, Switch, at_endpoint, at_switch, changed, endpoint}
use Rattle.xti_laws.proofs.ChangedEndpoints.{endpoint-same, endpoint-other, switch-other}
use Rattle.xti_laws.specs.Requests.{indications_with, disconnects_with, SoundRequests, Stands, request_to, AskingCaller, AskedListener, SoundLinksExcept, nobody, SoundLinks}
use Rattle.xti_laws.proofs.StepWays.{some-is, none-is, not-both}
use Rattle.xti_laws.proofs.IndicationNumbers.{find-some}

-- An endpoint whose target and whose requests stay as they are.
pub record Alike (e e' : Endpoint) : Type 0 where
  pub target : e'.target ≡ e.target
  pub prov : e'.prov ≡ e.prov
  pub stands : (n c : ℕ) → Stands e n c → Stands e' n c
  pub back : (n c : ℕ) → Stands e' n c → Stands e n c

abbrev pub AlikeAt : Option Endpoint → Option Endpoint → Type 0
AlikeAt None None = Unit {0}
AlikeAt None (Some e') = ⊥
AlikeAt (Some e) None = ⊥
AlikeAt (Some e) (Some e') = Alike e e'

record Before (o : Option Endpoint) (e' : Endpoint) : Type 0 where
  e : Endpoint
  is_open : o ≡ Some e
  alike : Alike e e'

record Behind (o' : Option Endpoint) (e : Endpoint) : Type 0 where
  e' : Endpoint
  is_open : o' ≡ Some e'
  alike : Alike e e'

before : (o o' : Option Endpoint) (e' : Endpoint) → AlikeAt o o' → o' ≡ Some e' → Before o e'
before None None e' a h = absurd (none-is e' h)
before None (Some f) e' a h = absurd a
before (Some e) None e' a h = absurd a
before (Some e) (Some f) e' a h = record { e = e; is_open = refl; alike = subst (Alike e) (some-is f e' h) a }

behind : (o o' : Option Endpoint) (e : Endpoint) → AlikeAt o o' → o ≡ Some e → Behind o' e
behind None o' e a h = absurd (none-is e h)
behind (Some d) None e a h = absurd a
behind (Some d) (Some f) e a h = record { e' = f; is_open = refl; alike = subst (λ z. Alike z f) (some-is d e h) a }

pub alike-sound : (p : Providers) (w w' : World) (x : ℕ → Bool) → SoundLinksExcept p w x → ((y : ℕ) → AlikeAt (endpoint p w y) (endpoint p w' y)) → ((y : ℕ) (e : Endpoint) → endpoint p w' y ≡ Some e → SoundRequests e) → SoundLinksExcept p w' x
alike-sound p w w' x s a g = record { good = g; asked = asked; asks = asks }
  where
    caller : (prov prov' : Prov) (l n c : ℕ) → prov ≡ prov' → AskingCaller p w prov l n c → AskingCaller p w' prov' l n c
    caller prov prov' l n c i k = (let b : Behind (endpoint p w' c) k.e = behind (endpoint p w c) (endpoint p w' c) k.e (a c) k.is_open in
        record { e = b.e'; is_open = b.is_open; has_target = b.alike.target ∙ k.has_target; same_provider = b.alike.prov ∙ (k.same_provider ∙ i) })

    asked : (l n c : ℕ) (e : Endpoint) → endpoint p w' l ≡ Some e → Stands e n c → (x c ≡ false) × AskingCaller p w' e.prov l n c
    asked l n c e o t = (let b : Before (endpoint p w l) e = before (endpoint p w l) (endpoint p w' l) e (a l) o in
        let q : (x c ≡ false) × AskingCaller p w b.e.prov l n c = s.asked l n c b.e b.is_open (b.alike.back n c t) in
        (q.0, caller b.e.prov e.prov l n c (sym b.alike.prov) q.1))

    asks : (c : ℕ) (e : Endpoint) (t : Target) → x c ≡ false → endpoint p w' c ≡ Some e → e.target ≡ Some t → AskedListener p w' t c
    asks c e t i o h = (let b : Before (endpoint p w c) e = before (endpoint p w c) (endpoint p w' c) e (a c) o in
        let q : AskedListener p w t c = s.asks c b.e t i b.is_open (sym b.alike.target ∙ h) in
        let r : Behind (endpoint p w' t.listener) q.e = behind (endpoint p w t.listener) (endpoint p w' t.listener) q.e (a t.listener) q.is_open in
        record { e = r.e'; is_open = r.is_open; stands = r.alike.stands t.number c q.stands })

alike-self : (o : Option Endpoint) → AlikeAt o o
alike-self None = tt
alike-self (Some e) = record { target = refl; prov = refl; stands = λ n c t. t; back = λ n c t. t }

-- One change of an endpoint.
abbrev pub one_world : Providers → World → ℕ → (Endpoint → Endpoint) → World
one_world p w z f = changed p w (at_endpoint z f ∷ [])

module _ (p : Providers) (w : World) (z : ℕ) (f : Endpoint → Endpoint) where
  pub one-same : (e : Endpoint) → endpoint p w z ≡ Some e → endpoint p (one_world p w z f) z ≡ Some (f e)
  one-same e o = endpoint-same p z f w ∙ ap (option_map f) o

  pub one-other : (y : ℕ) → eqb y z ≡ false → endpoint p (one_world p w z f) y ≡ endpoint p w y
  one-other y n = endpoint-other p z y n f w

  -- what is open afterwards
  pub one-cases : {A : Type 0} (y : ℕ) (e e' : Endpoint) → endpoint p w z ≡ Some e → endpoint p (one_world p w z f) y ≡ Some e' → ((y ≡ z) → (f e ≡ e') → A) → ((eqb y z ≡ false) → (endpoint p w y ≡ Some e') → A) → A
  one-cases {A} y e e' o h here there = go (eqb y z) refl
    where
      go : (b : Bool) → eqb y z ≡ b → A
      go true i = let j : y ≡ z = eqb-true y z i in here j (some-is (f e) e' (sym (one-same e o) ∙ (ap (endpoint p (one_world p w z f)) (sym j) ∙ h)))
      go false i = there i (sym (one-other y i) ∙ h)

  pub one-good : (x : ℕ → Bool) (e : Endpoint) → SoundLinksExcept p w x → endpoint p w z ≡ Some e → SoundRequests (f e) → (y : ℕ) (e' : Endpoint) → endpoint p (one_world p w z f) y ≡ Some e' → SoundRequests e'
  one-good x e s o g y e' h = one-cases y e e' o h (λ i j. subst SoundRequests j g) (λ i j. s.good y e' j)

  one-alike : (e : Endpoint) → endpoint p w z ≡ Some e → Alike e (f e) → (y : ℕ) → AlikeAt (endpoint p w y) (endpoint p (one_world p w z f) y)
  one-alike e o a y = go (eqb y z) refl
    where
      go : (b : Bool) → eqb y z ≡ b → AlikeAt (endpoint p w y) (endpoint p (one_world p w z f) y)
      go true i = subst (λ k. AlikeAt (endpoint p w k) (endpoint p (one_world p w z f) k)) (sym (eqb-true y z i)) (subst (λ k. AlikeAt k (endpoint p (one_world p w z f) z)) (sym o) (subst (AlikeAt (Some e)) (sym (one-same e o)) a))
      go false i = subst (AlikeAt (endpoint p w y)) (sym (one-other y i)) (alike-self (endpoint p w y))

  -- where nothing is open nothing changes
  one-none : (x : ℕ → Bool) → SoundLinksExcept p w x → endpoint p w z ≡ None → SoundLinksExcept p (one_world p w z f) x
  one-none x s o = alike-sound p w (one_world p w z f) x s alike (λ y e h. s.good y e (sym (same y) ∙ h))
    where
      same : (y : ℕ) → endpoint p (one_world p w z f) y ≡ endpoint p w y
      same y = go (eqb y z) refl
        where
          go : (b : Bool) → eqb y z ≡ b → endpoint p (one_world p w z f) y ≡ endpoint p w y
          go true i = ap (endpoint p (one_world p w z f)) (eqb-true y z i) ∙ (endpoint-same p z f w ∙ (ap (option_map f) o ∙ (sym o ∙ ap (endpoint p w) (sym (eqb-true y z i)))))
          go false i = one-other y i

      alike : (y : ℕ) → AlikeAt (endpoint p w y) (endpoint p (one_world p w z f) y)
      alike y = subst (AlikeAt (endpoint p w y)) (sym (same y)) (alike-self (endpoint p w y))

  -- a change that leaves its endpoint sound, and its target and requests as they are
  pub hush : (x : ℕ → Bool) → SoundLinksExcept p w x → ((e : Endpoint) → endpoint p w z ≡ Some e → SoundRequests (f e) × Alike e (f e)) → SoundLinksExcept p (one_world p w z f) x
  hush x s h = go (endpoint p w z) refl
    where
      go : (o : Option Endpoint) → endpoint p w z ≡ o → SoundLinksExcept p (one_world p w z f) x
      go None o = one-none x s o
      go (Some e) o = alike-sound p w (one_world p w z f) x s (one-alike e o (h e o).1) (one-good x e s o (h e o).0)

-- two of one number have one caller
pub stands-once : (e : Endpoint) (n c d : ℕ) → SoundRequests e → Stands e n c → Stands e n d → c ≡ d
stands-once e n c d g s t = go s.is_found t.is_found
  where
    twice : (i j : Indication) → find_number n e.pending ≡ Some i → find_number n e.outstanding ≡ Some j → c ≡ d
    twice i j a b = let u : 1 ≤ indications_with n e.pending = (find-some n e.pending i a).0 in let v : 1 ≤ indications_with n e.outstanding = (find-some n e.outstanding j b).0 in let k : indications_with n e.pending + indications_with n e.outstanding ≤ 1 = g.once n in absurd (omega arith)

    one : (is : List Indication) → find_number n is ≡ Some s.i → find_number n is ≡ Some t.i → c ≡ d
    one is a b = sym s.is_caller ∙ (ap (λ i. i.caller) (some-is s.i t.i (sym a ∙ b)) ∙ t.is_caller)

    go : ((find_number n e.pending ≡ Some s.i) ⊎ ((find_number n e.outstanding ≡ Some s.i) × (disconnects_with n e.disconnects ≡ 0))) → ((find_number n e.pending ≡ Some t.i) ⊎ ((find_number n e.outstanding ≡ Some t.i) × (disconnects_with n e.disconnects ≡ 0))) → c ≡ d
    go (inl a) (inl b) = one e.pending a b
    go (inl a) (inr b) = twice s.i t.i a b.0
    go (inr a) (inl b) = twice t.i s.i b a.0
    go (inr a) (inr b) = one e.outstanding a.0 b.0

abbrev pub just : ℕ → ℕ → Bool
just c y = eqb y c

-- a request that stood is taken out at its listener: its caller is exempt until its target goes
pub removes : (p : Providers) (w : World) (l n c : ℕ) (f : Endpoint → Endpoint) (e : Endpoint) → SoundLinks p w → endpoint p w l ≡ Some e → Stands e n c → SoundRequests (f e) → (f e).target ≡ e.target → (f e).prov ≡ e.prov
    → ((m d : ℕ) → Stands (f e) m d → Stands e m d × (eqb m n ≡ false)) → ((m d : ℕ) → eqb m n ≡ false → Stands e m d → Stands (f e) m d) → SoundLinksExcept p (one_world p w l f) (just c)
removes p w l n c f e s o t g ht hp fewer rest = record { good = one-good p w l f nobody e s o g; asked = asked; asks = asks }
  where
    its_caller : AskingCaller p w e.prov l n c
    its_caller = (s.asked l n c e o t).1

    targets : (prov : Prov) (k m d : ℕ) → AskingCaller p w prov k m d → d ≡ c → request_to k m ≡ request_to l n
    targets prov k m d b i = some-is (request_to k m) (request_to l n) (sym b.has_target ∙ (ap (λ z. z.target) (some-is b.e its_caller.e (sym b.is_open ∙ (ap (endpoint p w) i ∙ its_caller.is_open))) ∙ its_caller.has_target))

    others : (prov : Prov) (k m d : ℕ) → ((k ≡ l) → eqb m n ≡ false) → AskingCaller p w prov k m d → just c d ≡ false
    others prov k m d h b = go (eqb d c) refl
      where
        go : (z : Bool) → eqb d c ≡ z → z ≡ false
        go false i = refl
        go true i = let q : request_to k m ≡ request_to l n = targets prov k m d b (eqb-true d c i) in absurd (not-both (eqb m n) (h (ap (λ t. t.listener) q)) (eq-eqb m n (ap (λ t. t.number) q)))

    moved : (prov : Prov) (k m d : ℕ) → AskingCaller p w prov k m d → AskingCaller p (one_world p w l f) prov k m d
    moved prov k m d b = go (eqb d l) refl
      where
        go : (z : Bool) → eqb d l ≡ z → AskingCaller p (one_world p w l f) prov k m d
        go false i = record { e = b.e; is_open = one-other p w l f d i ∙ b.is_open; has_target = b.has_target; same_provider = b.same_provider }
        go true i =
            let same : b.e ≡ e = some-is b.e e (sym b.is_open ∙ (ap (endpoint p w) (eqb-true d l i) ∙ o)) in
            record { e = f e; is_open = ap (endpoint p (one_world p w l f)) (eqb-true d l i) ∙ one-same p w l f e o; has_target = ht ∙ (ap (λ z. z.target) (sym same) ∙ b.has_target); same_provider = hp ∙ (ap (λ z. z.prov) (sym same) ∙ b.same_provider) }

    asked : (k m d : ℕ) (e' : Endpoint) → endpoint p (one_world p w l f) k ≡ Some e' → Stands e' m d → (just c d ≡ false) × AskingCaller p (one_world p w l f) e'.prov k m d
    asked k m d e' h q = one-cases p w l f k e e' o h
        (λ i j. (let r = fewer m d (subst (λ z. Stands z m d) (sym j) q) in
        let b : AskingCaller p w e.prov l m d = (s.asked l m d e o r.0).1 in
        (others e.prov l m d (λ v. r.1) b, subst (λ z. AskingCaller p (one_world p w l f) e'.prov z m d) (sym i) (subst (λ z. AskingCaller p (one_world p w l f) z l m d) (sym hp ∙ ap (λ z. z.prov) j) (moved e.prov l m d b)))))
        (λ i j. (let b : AskingCaller p w e'.prov k m d = (s.asked k m d e' j q).1 in
        (others e'.prov k m d (λ v. absurd (not-both (eqb k l) i (eq-eqb k l v))) b, moved e'.prov k m d b)))

    asks : (d : ℕ) (e' : Endpoint) (t' : Target) → just c d ≡ false → endpoint p (one_world p w l f) d ≡ Some e' → e'.target ≡ Some t' → AskedListener p (one_world p w l f) t' d
    asks d e' t' x h q = stays (one-cases p w l f d e e' o h (λ i j. subst (λ z. AskedListener p w t' z) (sym i) (s.asks l e t' refl o (sym ht ∙ (ap (λ z. z.target) j ∙ q)))) (λ i j. s.asks d e' t' refl j q))
      where
        stays : AskedListener p w t' d → AskedListener p (one_world p w l f) t' d
        stays b = go (eqb t'.listener l) refl
          where
            go : (z : Bool) → eqb t'.listener l ≡ z → AskedListener p (one_world p w l f) t' d
            go false i = record { e = b.e; is_open = one-other p w l f t'.listener i ∙ b.is_open; stands = b.stands }
            go true i =
                let same : b.e ≡ e = some-is b.e e (sym b.is_open ∙ (ap (endpoint p w) (eqb-true t'.listener l i) ∙ o)) in
                let st : Stands e t'.number d = subst (λ z. Stands z t'.number d) same b.stands in
                record { e = f e; is_open = ap (endpoint p (one_world p w l f)) (eqb-true t'.listener l i) ∙ one-same p w l f e o; stands = rest t'.number d (other st (eqb t'.number n) refl) st }
              where
                other : Stands e t'.number d → (y : Bool) → eqb t'.number n ≡ y → y ≡ false
                other st false j = refl
                other st true j = absurd (not-both (eqb d c) x (eq-eqb d c (stands-once e n d c (s.good l e o) (subst (λ z. Stands e z d) (eqb-true t'.number n j) st) t)))

-- the exempt caller has no target any more
pub rests-again : (p : Providers) (w : World) (c : ℕ) (f : Endpoint → Endpoint) (e : Endpoint) → SoundLinksExcept p w (just c) → endpoint p w c ≡ Some e → SoundRequests (f e) → (f e).target ≡ None → (f e).prov ≡ e.prov
    → ((n d : ℕ) → Stands e n d → Stands (f e) n d) → ((n d : ℕ) → Stands (f e) n d → Stands e n d) → SoundLinks p (one_world p w c f)
rests-again p w c f e s o g ht hp on back = record { good = one-good p w c f (just c) e s o g; asked = asked; asks = asks }
  where
    moved : (prov : Prov) (k m d : ℕ) → just c d ≡ false → AskingCaller p w prov k m d → AskingCaller p (one_world p w c f) prov k m d
    moved prov k m d i b = record { e = b.e; is_open = one-other p w c f d i ∙ b.is_open; has_target = b.has_target; same_provider = b.same_provider }

    asked : (k m d : ℕ) (e' : Endpoint) → endpoint p (one_world p w c f) k ≡ Some e' → Stands e' m d → (false ≡ false) × AskingCaller p (one_world p w c f) e'.prov k m d
    asked k m d e' h q = one-cases p w c f k e e' o h
        (λ i j. (let b = s.asked c m d e o (back m d (subst (λ z. Stands z m d) (sym j) q)) in
        (refl, subst (λ z. AskingCaller p (one_world p w c f) e'.prov z m d) (sym i) (subst (λ z. AskingCaller p (one_world p w c f) z c m d) (sym hp ∙ ap (λ z. z.prov) j) (moved e.prov c m d b.0 b.1)))))
        (λ i j. (let b = s.asked k m d e' j q in (refl, moved e'.prov k m d b.0 b.1)))

    asks : (d : ℕ) (e' : Endpoint) (t : Target) → false ≡ false → endpoint p (one_world p w c f) d ≡ Some e' → e'.target ≡ Some t → AskedListener p (one_world p w c f) t d
    asks d e' t x h q = one-cases p w c f d e e' o h
        (λ i j. absurd (none-is t (sym ht ∙ (ap (λ z. z.target) j ∙ q))))
        (λ i j. stays (s.asks d e' t i j q))
      where
        stays : AskedListener p w t d → AskedListener p (one_world p w c f) t d
        stays b = go (eqb t.listener c) refl
          where
            go : (z : Bool) → eqb t.listener c ≡ z → AskedListener p (one_world p w c f) t d
            go false i = record { e = b.e; is_open = one-other p w c f t.listener i ∙ b.is_open; stands = b.stands }
            go true i =
                let same : b.e ≡ e = some-is b.e e (sym b.is_open ∙ (ap (endpoint p w) (eqb-true t.listener c i) ∙ o)) in
                record { e = f e; is_open = ap (endpoint p (one_world p w c f)) (eqb-true t.listener c i) ∙ one-same p w c f e o; stands = on t.number d (subst (λ z. Stands z t.number d) same b.stands) }

-- a world whose endpoints are the same
pub same-sound : (p : Providers) (w w' : World) (x : ℕ → Bool) → SoundLinksExcept p w x → ((y : ℕ) → endpoint p w' y ≡ endpoint p w y) → SoundLinksExcept p w' x
same-sound p w w' x s h = alike-sound p w w' x s (λ y. subst (AlikeAt (endpoint p w y)) (sym (h y)) (alike-self (endpoint p w y))) (λ y e o. s.good y e (sym (h y) ∙ o))

pub switch-sound : (p : Providers) (w : World) (x : ℕ → Bool) (f : Switch → Switch) → SoundLinksExcept p w x → SoundLinksExcept p (changed p w (at_switch f ∷ [])) x
switch-sound p w x f s = same-sound p w (changed p w (at_switch f ∷ [])) x s (λ y. switch-other p f y w)
