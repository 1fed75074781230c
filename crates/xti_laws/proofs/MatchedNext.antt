-- Two that are linked match in the next world where each is as it was, or has no peer.
use Rattle.std.proofs.Common.{ℕ, true, false, List, [], ◌∷◌, ◌≡◌, ◌⊎◌, inl, inr, refl, sym, ap, ◌∙◌, subst, eqb, not, ◌&&◌, Option, Some, None, is_some}
use Rattle.std.proofs.lemmas.Bool.{eq-eqb}
use Rattle.xti_base.specs.declared.kinds.State.TheVariants.{T_OUTCON, T_OUTREL, T_INREL}
use Rattle.xti_model.specs.declared.profile.Providers.{Providers}
use Rattle.xti_model.specs.Endpoint.{Endpoint}
use Rattle.xti_model.specs.World.{World, Change, changed, endpoint}
use Rattle.xti_laws.proofs.KeptEndpoints.{AllKeep, keeps}
use Rattle.xti_laws.proofs.StepWays.{some-is, none-is, not-both, flip}
use Rattle.xti_laws.proofs.OneChange.{one_world, one-same, one-other, one-cases}
use Rattle.xti_laws.specs.Requests.{is_one_of}
use Rattle.xti_laws.specs.Invariant.{Paired}
use Rattle.xti_laws.specs.Connections.{other_states, LinkedWith, Matched}

-- what two linked go by is as it was
pub record Like (e e' : Endpoint) : Type 0 where
  pub state : e'.state ≡ e.state
  pub release : e'.release ≡ e.release
  pub confirmation : e'.confirmation ≡ e.confirmation
  pub normal : is_one_of (T_INREL ∷ []) e.state ≡ true → e.normal ≡ [] → e'.normal ≡ []
  pub expedited : is_one_of (T_INREL ∷ []) e.state ≡ true → e.expedited ≡ [] → e'.expedited ≡ []

pub alike : (e e' : Endpoint) → e'.state ≡ e.state → e'.release ≡ e.release → e'.confirmation ≡ e.confirmation → e'.normal ≡ e.normal → e'.expedited ≡ e.expedited → Like e e'
alike e e' s r c n x = record { state = s; release = r; confirmation = c; normal = λ t q. n ∙ q; expedited = λ t q. x ∙ q }

like-trans : (e d f : Endpoint) → Like e d → Like d f → Like e f
like-trans e d f a b = record {
  state = b.state ∙ a.state;
  release = b.release ∙ a.release;
  confirmation = b.confirmation ∙ a.confirmation;
  normal = λ t q. b.normal (ap (is_one_of (T_INREL ∷ [])) a.state ∙ t) (a.normal t q);
  expedited = λ t q. b.expedited (ap (is_one_of (T_INREL ∷ [])) a.state ∙ t) (a.expedited t q);
}

like-linked : (e d e' d' : Endpoint) → Like e e' → Like d d' → LinkedWith e d → LinkedWith e' d'
like-linked e d e' d' l m a = record {
  states = ap (λ s. is_one_of (other_states s) d'.state) l.state ∙ (ap (is_one_of (other_states e.state)) m.state ∙ a.states);
  release = ap is_some l.release ∙ (a.release ∙ sym (ap (λ s. is_one_of (T_OUTREL ∷ []) d'.state && not (is_one_of (T_INREL ∷ []) s)) l.state ∙ ap (λ s. is_one_of (T_OUTREL ∷ []) s && not (is_one_of (T_INREL ∷ []) e.state)) m.state));
  confirmation = ap is_some l.confirmation ∙ (a.confirmation ∙ sym (ap (is_one_of (T_OUTCON ∷ [])) l.state));
  finished = λ t. (let k : is_one_of (T_INREL ∷ []) e.state ≡ true = sym (ap (is_one_of (T_INREL ∷ [])) l.state) ∙ t in let f = a.finished k in (l.normal k f.0, l.expedited k f.1));
}

-- an update that leaves an endpoint without a peer, or as it was
abbrev pub Easy : (Endpoint → Endpoint) → Type 0
Easy f = (e : Endpoint) → ((f e).peer ≡ None) ⊎ (((f e).peer ≡ e.peer) × Like e (f e))

-- it has no peer then, or keeps it and matches with any end that matched before
abbrev pub Able : Endpoint → Endpoint → Type 0
Able e e' = (e'.peer ≡ None) ⊎ ((e'.peer ≡ e.peer) × ((d : Endpoint) → LinkedWith e d → LinkedWith d e → LinkedWith e' d × LinkedWith d e'))

module _ (p : Providers) (w : World) where
  -- an endpoint of the world with this peer was there before, and like this
  pub record Was (x : ℕ) (e' : Endpoint) : Type 0 where
    pub e : Endpoint
    pub is_open : endpoint p w x ≡ Some e
    pub peer : e'.peer ≡ e.peer
    pub like : Like e e'

  abbrev pub Kept : ℕ → Option Endpoint → Type 0
  Kept x None = Unit {0}
  Kept x (Some e') = (e'.peer ≡ None) ⊎ Was x e'

  abbrev pub AllMild : List Change → Type 0
  AllMild cs = (x : ℕ) → AllKeep (Kept x) x cs

  kept-self : (x : ℕ) (o : Option Endpoint) → endpoint p w x ≡ o → Kept x o
  kept-self x None i = tt
  kept-self x (Some e) i = inr (record { e = e; is_open = i; peer = refl; like = alike e e refl refl refl refl refl })

  kept-matched : (v : World) → ((x : ℕ) → Kept x (endpoint p v x)) → Matched p w → Matched p v
  kept-matched v k h x y e d i j a b = go (subst (Kept x) i (k x)) (subst (Kept y) j (k y))
    where
      go : (e.peer ≡ None) ⊎ Was x e → (d.peer ≡ None) ⊎ Was y d → LinkedWith e d
      go (inl n) q = absurd (none-is y (sym n ∙ a))
      go (inr r) (inl n) = absurd (none-is x (sym n ∙ b))
      go (inr r) (inr s) = like-linked r.e s.e e d r.like s.like (h x y r.e s.e r.is_open s.is_open (sym r.peer ∙ a) (sym s.peer ∙ b))

  pub mild-matched : (cs : List Change) → AllMild cs → Matched p w → Matched p (changed p w cs)
  mild-matched cs t h = kept-matched (changed p w cs) (λ x. keeps p (Kept x) x cs (t x) w (kept-self x (endpoint p w x) refl)) h

  pub kept-easy : (x : ℕ) (e e' : Endpoint) → (e'.peer ≡ None) ⊎ ((e'.peer ≡ e.peer) × Like e e') → Kept x (Some e) → Kept x (Some e')
  kept-easy x e e' (inl n) k = inl n
  kept-easy x e e' (inr q) (inl n) = inl (q.0 ∙ n)
  kept-easy x e e' (inr q) (inr s) = inr (record { e = s.e; is_open = s.is_open; peer = q.0 ∙ s.peer; like = like-trans s.e e e' s.like q.1 })

  -- changes of an endpoint that has no peer
  pub kept-free : (x : ℕ) (e e' : Endpoint) → e'.peer ≡ e.peer → ((y : Endpoint) → endpoint p w x ≡ Some y → y.peer ≡ None) → Kept x (Some e) → Kept x (Some e')
  kept-free x e e' q k (inl n) = inl (q ∙ n)
  kept-free x e e' q k (inr s) = inl (q ∙ (s.peer ∙ k s.e s.is_open))

  pub own-matched : (fd : ℕ) (f : Endpoint → Endpoint) (e : Endpoint) → endpoint p w fd ≡ Some e → Paired p w → Matched p w
      → Able e (f e) → Matched p (one_world p w fd f)
  own-matched fd f e o z h t x y a b i j q r = one-cases p w fd f x e a o i
      (λ k1 k2. one-cases p w fd f y e b o j
      (λ l1 l2. absurd (itself t k1 k2 l1))
      (λ l1 l2. this t k1 k2 l2))
      (λ k1 k2. one-cases p w fd f y e b o j
      (λ l1 l2. that t k2 l1 l2)
      (λ l1 l2. h x y a b k2 l2 q r))
    where
      itself : Able e (f e) → x ≡ fd → f e ≡ a → y ≡ fd → ⊥
      itself (inl n) k1 k2 l1 = none-is y (sym n ∙ (ap (λ v. v.peer) k2 ∙ q))
      itself (inr u) k1 k2 l1 = (let m : e.peer ≡ Some fd = sym u.0 ∙ (ap (λ v. v.peer) k2 ∙ (q ∙ ap Some l1)) in not-both (eqb fd fd) (z fd fd e e o o m m).1 (eq-eqb fd fd refl))

      this : Able e (f e) → x ≡ fd → f e ≡ a → endpoint p w y ≡ Some b → LinkedWith a b
      this (inl n) k1 k2 l2 = absurd (none-is y (sym n ∙ (ap (λ v. v.peer) k2 ∙ q)))
      this (inr u) k1 k2 l2 =
          let m : e.peer ≡ Some y = sym u.0 ∙ (ap (λ v. v.peer) k2 ∙ q) in
          let n : b.peer ≡ Some fd = r ∙ ap Some k1 in
          subst (λ v. LinkedWith v b) k2 (u.1 b (h fd y e b o l2 m n) (h y fd b e l2 o n m)).0

      that : Able e (f e) → endpoint p w x ≡ Some a → y ≡ fd → f e ≡ b → LinkedWith a b
      that (inl n) k2 l1 l2 = absurd (none-is x (sym n ∙ (ap (λ v. v.peer) l2 ∙ r)))
      that (inr u) k2 l1 l2 =
          let m : e.peer ≡ Some x = sym u.0 ∙ (ap (λ v. v.peer) l2 ∙ r) in
          let n : a.peer ≡ Some fd = q ∙ ap Some l1 in
          subst (λ v. LinkedWith a v) l2 (u.1 a (h fd x e a o k2 m n) (h x fd a e k2 o n m)).1

  -- two endpoints are linked that had no peers
  pub two-matched : (r c : ℕ) (f g : Endpoint → Endpoint) (e d : Endpoint) → endpoint p w r ≡ Some e → endpoint p w c ≡ Some d → eqb c r ≡ false → (f e).peer ≡ Some c → (g d).peer ≡ Some r
      → LinkedWith (f e) (g d) → LinkedWith (g d) (f e) → Matched p w → Matched p (one_world p (one_world p w r f) c g)
  two-matched r c f g e d i j n s t a b h x y u v o q l m = one-cases p (one_world p w r f) c g x d u c_third o
      (λ h1 h2. at_caller h1 h2)
      (λ h1 h2. one-cases p (one_world p w r f) c g y d v c_third q
      (λ h3 h4. at_other h3 h4)
      (λ h3 h4. elsewhere h1 h2 h3 h4))
    where
      c_third : endpoint p (one_world p w r f) c ≡ Some d
      c_third = one-other p w r f c n ∙ j

      r_fourth : endpoint p (one_world p (one_world p w r f) c g) r ≡ Some (f e)
      r_fourth = one-other p (one_world p w r f) c g r (flip c r n) ∙ one-same p w r f e i

      at_caller : x ≡ c → g d ≡ u → LinkedWith u v
      at_caller h1 h2 =
          let k : r ≡ y = some-is r y (sym t ∙ (ap (λ z. z.peer) h2 ∙ l)) in
          let e' : f e ≡ v = some-is (f e) v (sym r_fourth ∙ (ap (endpoint p (one_world p (one_world p w r f) c g)) k ∙ q)) in
          subst (λ z. LinkedWith z v) h2 (subst (LinkedWith (g d)) e' b)

      at_other : y ≡ c → g d ≡ v → LinkedWith u v
      at_other h1 h2 =
          let k : r ≡ x = some-is r x (sym t ∙ (ap (λ z. z.peer) h2 ∙ m)) in
          let e' : f e ≡ u = some-is (f e) u (sym r_fourth ∙ (ap (endpoint p (one_world p (one_world p w r f) c g)) k ∙ o)) in
          subst (LinkedWith u) h2 (subst (λ z. LinkedWith z (g d)) e' a)

      elsewhere : eqb x c ≡ false → endpoint p (one_world p w r f) x ≡ Some u → eqb y c ≡ false → endpoint p (one_world p w r f) y ≡ Some v → LinkedWith u v
      elsewhere h1 h2 h3 h4 = one-cases p w r f x e u i h2
          (λ k1 k2. absurd (not-both (eqb y c) h3 (eq-eqb y c (sym (some-is c y (sym s ∙ (ap (λ z. z.peer) k2 ∙ l)))))))
          (λ k1 k2. one-cases p w r f y e v i h4
          (λ l1 l2. absurd (not-both (eqb x c) h1 (eq-eqb x c (sym (some-is c x (sym s ∙ (ap (λ z. z.peer) l2 ∙ m)))))))
          (λ l1 l2. h x y u v k2 l2 l m))
