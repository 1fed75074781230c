-- The peer of an endpoint names it back, or both have sent their releases.
use Rattle.std.proofs.Common.{ℕ, Bool, true, false, List, [], ◌∷◌, ◌≡◌, ◌⊎◌, inl, inr, refl, sym, ap, ◌∙◌, subst, eqb, cond, Option, Some, None, is_some}
use Rattle.std.specs.Prelude.{option_map}
use Rattle.std.proofs.lemmas.Bool.{eqb-true, eq-eqb}
use Rattle.xti_model.specs.declared.profile.Providers.{Providers}
use Rattle.xti_model.specs.Endpoint.{Endpoint}
use Rattle.xti_model.specs.World.{World, Change, at_endpoint, changed, endpoint}
use Rattle.xti_model.specs.Links.{names, if_names, at_linked, broken}
use Rattle.xti_laws.proofs.ChangedEndpoints.{endpoint-same}
use Rattle.xti_laws.specs.Requests.{nobody}
use Rattle.xti_laws.proofs.KeptEndpoints.{AllKeep, keeps}
use Rattle.xti_laws.proofs.StepWays.{some-is, none-is, not-both, flip}
use Rattle.xti_laws.proofs.OneChange.{one_world, one-same, one-other, one-cases}
use Rattle.xti_laws.specs.Connections.{NamesBack, IsReleased, PeersThere}
use Rattle.xti_laws.proofs.MatchedNext.{Kept, Was, AllMild}

-- the same of all endpoints but those that are exempt for the moment
abbrev pub PeersBut : Providers → World → (ℕ → Bool) → Type 0
PeersBut p w t = (x y : ℕ) (e : Endpoint) → t x ≡ false → endpoint p w x ≡ Some e → e.peer ≡ Some y → (NamesBack x (endpoint p w y) × (t y ≡ false)) ⊎ IsReleased e

pub but-nobody : (p : Providers) (w : World) → PeersThere p w → PeersBut p w nobody
but-nobody p w h x y e n i q = go (h x y e i q)
  where
    go : NamesBack x (endpoint p w y) ⊎ IsReleased e → (NamesBack x (endpoint p w y) × (nobody y ≡ false)) ⊎ IsReleased e
    go (inl k) = inl (k, refl)
    go (inr k) = inr k

pub all-there : (p : Providers) (w : World) → PeersBut p w nobody → PeersThere p w
all-there p w h x y e i q = go (h x y e refl i q)
  where
    go : (NamesBack x (endpoint p w y) × (nobody y ≡ false)) ⊎ IsReleased e → NamesBack x (endpoint p w y) ⊎ IsReleased e
    go (inl k) = inl k.0
    go (inr k) = inr k

module _ (p : Providers) (w : World) where
  -- no endpoint's peer goes
  abbrev pub AllBack : List Change → Type 0
  AllBack cs = (x y : ℕ) → AllKeep (NamesBack x) y cs

  kept-was : (x : ℕ) (o : Option Endpoint) → endpoint p w x ≡ o → Kept p w x o
  kept-was x None i = tt
  kept-was x (Some e) i = inr (record { e = e; is_open = i; peer = refl; like = record { state = refl; release = refl; confirmation = refl; normal = λ t n. n; expedited = λ t n. n } })

  pub calm-peers : (t : ℕ → Bool) (cs : List Change) → AllMild p w cs → AllBack cs → PeersBut p w t → PeersBut p (changed p w cs) t
  calm-peers t cs m b h x y e n i q = go (subst (Kept p w x) i (keeps p (Kept p w x) x cs (m x) w (kept-was x (endpoint p w x) refl)))
    where
      go : (e.peer ≡ None) ⊎ Was p w x e → (NamesBack x (endpoint p (changed p w cs) y) × (t y ≡ false)) ⊎ IsReleased e
      go (inl k) = absurd (none-is y (sym k ∙ q))
      go (inr s) = by (h x y s.e n s.is_open (sym s.peer ∙ q))
        where
          by : (NamesBack x (endpoint p w y) × (t y ≡ false)) ⊎ IsReleased s.e → (NamesBack x (endpoint p (changed p w cs) y) × (t y ≡ false)) ⊎ IsReleased e
          by (inl k) = inl (keeps p (NamesBack x) y cs (b x y) w k.0, k.1)
          by (inr k) = inr (s.like.state ∙ k.0, ap is_some s.like.release ∙ k.1)

  -- a change of every endpoint that keeps its peer, and the release that it has
  pub soft-peers : (z : ℕ) (f : Endpoint → Endpoint) → ((e : Endpoint) → (f e).peer ≡ e.peer) → ((e : Endpoint) → IsReleased e → IsReleased (f e)) → PeersThere p w → PeersThere p (one_world p w z f)
  soft-peers z f k r h x y b i q = go (eqb x z) refl
    where
      forth : NamesBack x (endpoint p w y) → NamesBack x (endpoint p (one_world p w z f) y)
      forth n = keeps p (NamesBack x) y (at_endpoint z f ∷ []) ((λ j v u. k v ∙ u), tt) w n

      go : (d : Bool) → eqb x z ≡ d → NamesBack x (endpoint p (one_world p w z f) y) ⊎ IsReleased b
      go false j = by (h x y b (sym (one-other p w z f x j) ∙ i) q)
        where
          by : NamesBack x (endpoint p w y) ⊎ IsReleased b → NamesBack x (endpoint p (one_world p w z f) y) ⊎ IsReleased b
          by (inl n) = inl (forth n)
          by (inr n) = inr n
      go true j = by (endpoint p w x) refl (sym (endpoint-same p z f w) ∙ (ap (endpoint p (one_world p w z f)) (sym (eqb-true x z j)) ∙ i))
        where
          by : (o : Option Endpoint) → endpoint p w x ≡ o → option_map f (endpoint p w z) ≡ Some b → NamesBack x (endpoint p (one_world p w z f) y) ⊎ IsReleased b
          by None a l = absurd (none-is b (sym (ap (option_map f) (sym (ap (endpoint p w) (eqb-true x z j)) ∙ a)) ∙ l))
          by (Some e) a l = at (some-is (f e) b (sym (ap (option_map f) (sym (ap (endpoint p w) (eqb-true x z j)) ∙ a)) ∙ l))
            where
              at : f e ≡ b → NamesBack x (endpoint p (one_world p w z f) y) ⊎ IsReleased b
              at m = is (h x y e a (sym (k e) ∙ (ap (λ v. v.peer) m ∙ q)))
                where
                  is : NamesBack x (endpoint p w y) ⊎ IsReleased e → NamesBack x (endpoint p (one_world p w z f) y) ⊎ IsReleased b
                  is (inl n) = inl (forth n)
                  is (inr n) = inr (subst IsReleased m (r e n))

  -- an endpoint of the connection changes and keeps its peer, or has none then and leaves nobody but who has its release
  abbrev pub Stays : ℕ → Endpoint → Endpoint → Type 0
  Stays fd e e' = ((e'.peer ≡ e.peer) × (IsReleased e → IsReleased e')) ⊎ ((e'.peer ≡ None) × ((x : ℕ) (d : Endpoint) → endpoint p w x ≡ Some d → d.peer ≡ Some fd → e.peer ≡ Some x → IsReleased d))

  pub own-peers : (fd : ℕ) (f : Endpoint → Endpoint) (e : Endpoint) → endpoint p w fd ≡ Some e → Stays fd e (f e) → PeersThere p w → PeersThere p (one_world p w fd f)
  own-peers fd f e o s h x y b i q = one-cases p w fd f x e b o i (λ k1 k2. here s k1 k2) (λ k1 k2. there k1 k2 (h x y b k2 q))
    where
      -- the endpoint itself
      named : (z : ℕ) → NamesBack z (endpoint p w y) → ((k : y ≡ fd) → e.peer ≡ Some z → (f e).peer ≡ Some z) → NamesBack z (endpoint p (one_world p w fd f) y)
      named z n k = go (eqb y fd) refl
        where
          go : (d : Bool) → eqb y fd ≡ d → NamesBack z (endpoint p (one_world p w fd f) y)
          go false j = subst (NamesBack z) (sym (one-other p w fd f y j)) n
          go true j =
              let m : y ≡ fd = eqb-true y fd j in
              subst (λ v. NamesBack z (endpoint p (one_world p w fd f) v)) (sym m) (subst (NamesBack z) (sym (one-same p w fd f e o)) (k m (subst (NamesBack z) (ap (endpoint p w) m ∙ o) n)))

      here : Stays fd e (f e) → x ≡ fd → f e ≡ b → NamesBack x (endpoint p (one_world p w fd f) y) ⊎ IsReleased b
      here (inr g) k1 k2 = absurd (none-is y (sym g.0 ∙ (ap (λ v. v.peer) k2 ∙ q)))
      here (inl g) k1 k2 = by (h fd y e o (sym g.0 ∙ (ap (λ v. v.peer) k2 ∙ q)))
        where
          by : NamesBack fd (endpoint p w y) ⊎ IsReleased e → NamesBack x (endpoint p (one_world p w fd f) y) ⊎ IsReleased b
          by (inr r) = inr (subst IsReleased k2 (g.1 r))
          by (inl n) = inl (subst (λ v. NamesBack v (endpoint p (one_world p w fd f) y)) (sym k1) (named fd n (λ j l. g.0 ∙ l)))

      there : eqb x fd ≡ false → endpoint p w x ≡ Some b → NamesBack x (endpoint p w y) ⊎ IsReleased b → NamesBack x (endpoint p (one_world p w fd f) y) ⊎ IsReleased b
      there j k (inr r) = inr r
      there j k (inl n) = by s
        where
          by : Stays fd e (f e) → NamesBack x (endpoint p (one_world p w fd f) y) ⊎ IsReleased b
          by (inl g) = inl (named x n (λ m l. g.0 ∙ l))
          by (inr g) = go (eqb y fd) refl
            where
              go : (d : Bool) → eqb y fd ≡ d → NamesBack x (endpoint p (one_world p w fd f) y) ⊎ IsReleased b
              go false m = inl (subst (NamesBack x) (sym (one-other p w fd f y m)) n)
              go true m = (let l : y ≡ fd = eqb-true y fd m in inr (g.1 x b k (q ∙ ap Some l) (subst (NamesBack x) (ap (endpoint p w) l ∙ o) n)))

  -- two that had no peers name each other
  pub two-peers : (r c : ℕ) (f g : Endpoint → Endpoint) (e d : Endpoint) → endpoint p w r ≡ Some e → endpoint p w c ≡ Some d → eqb c r ≡ false → e.peer ≡ None → d.peer ≡ None → (f e).peer ≡ Some c → (g d).peer ≡ Some r → PeersThere p w → PeersThere p (one_world p (one_world p w r f) c g)
  two-peers r c f g e d i j n ne nd s t h x y u o l = one-cases p (one_world p w r f) c g x d u c_third o
      (λ h1 h2. inl (subst (λ v. NamesBack v (endpoint p (one_world p (one_world p w r f) c g) y)) (sym h1) (subst (λ v. NamesBack c (endpoint p (one_world p (one_world p w r f) c g) v)) (some-is r y (sym t ∙ (ap (λ z. z.peer) h2 ∙ l))) (subst (NamesBack c) (sym r_fourth) s))))
      (λ h1 h2. one-cases p w r f x e u i h2
      (λ k1 k2. inl (subst (λ v. NamesBack v (endpoint p (one_world p (one_world p w r f) c g) y)) (sym k1) (subst (λ v. NamesBack r (endpoint p (one_world p (one_world p w r f) c g) v)) (some-is c y (sym s ∙ (ap (λ z. z.peer) k2 ∙ l))) (subst (NamesBack r) (sym c_fourth) t))))
      (λ k1 k2. still (h x y u k2 l)))
    where
      c_third : endpoint p (one_world p w r f) c ≡ Some d
      c_third = one-other p w r f c n ∙ j

      c_fourth : endpoint p (one_world p (one_world p w r f) c g) c ≡ Some (g d)
      c_fourth = one-same p (one_world p w r f) c g d c_third

      r_fourth : endpoint p (one_world p (one_world p w r f) c g) r ≡ Some (f e)
      r_fourth = one-other p (one_world p w r f) c g r (flip c r n) ∙ one-same p w r f e i

      still : NamesBack x (endpoint p w y) ⊎ IsReleased u → NamesBack x (endpoint p (one_world p (one_world p w r f) c g) y) ⊎ IsReleased u
      still (inr k) = inr k
      still (inl k) = go (eqb y r) refl (eqb y c) refl
        where
          go : (a : Bool) → eqb y r ≡ a → (b : Bool) → eqb y c ≡ b → NamesBack x (endpoint p (one_world p (one_world p w r f) c g) y) ⊎ IsReleased u
          go true m b m' = absurd (none-is x (sym ne ∙ subst (NamesBack x) (ap (endpoint p w) (eqb-true y r m) ∙ i) k))
          go false m true m' = absurd (none-is x (sym nd ∙ subst (NamesBack x) (ap (endpoint p w) (eqb-true y c m') ∙ j) k))
          go false m false m' = inl (subst (NamesBack x) (sym (one-other p (one_world p w r f) c g y m' ∙ one-other p w r f y m)) k)

  -- the other end is broken: then nobody but those with its release names the descriptor
  pub broken-peers : (fd reason : ℕ) (udata : List ℕ) (e : Endpoint) → endpoint p w fd ≡ Some e → PeersThere p w → PeersBut p (changed p w (at_linked fd e.peer (broken reason udata))) (λ x. eqb x fd)
  broken-peers fd reason udata e i h = go e.peer refl
    where
      alone : (x y : ℕ) (b : Endpoint) → eqb x fd ≡ false → endpoint p w x ≡ Some b → b.peer ≡ Some y → (e.peer ≡ Some x → y ≡ fd → ⊥) → (NamesBack x (endpoint p w y) × (eqb y fd ≡ false)) ⊎ IsReleased b
      alone x y b n o q k = by (h x y b o q)
        where
          by : NamesBack x (endpoint p w y) ⊎ IsReleased b → (NamesBack x (endpoint p w y) × (eqb y fd ≡ false)) ⊎ IsReleased b
          by (inr r) = inr r
          by (inl m) = is (eqb y fd) refl
            where
              is : (d : Bool) → eqb y fd ≡ d → (NamesBack x (endpoint p w y) × (eqb y fd ≡ false)) ⊎ IsReleased b
              is false j = inl (m, j)
              is true j = (let l : y ≡ fd = eqb-true y fd j in absurd (k (subst (NamesBack x) (ap (endpoint p w) l ∙ i) m) l))

      go : (o : Option ℕ) → e.peer ≡ o → PeersBut p (changed p w (at_linked fd o (broken reason udata))) (λ x. eqb x fd)
      go None n x y b m j q = alone x y b m j q (λ k l. none-is x (sym n ∙ k))
      go (Some z) n x y b m j q = by (eqb x z) refl
        where
          back : (NamesBack x (endpoint p w y) × (eqb y fd ≡ false)) ⊎ IsReleased b → (NamesBack x (endpoint p (one_world p w z (if_names fd (broken reason udata))) y) × (eqb y fd ≡ false)) ⊎ IsReleased b
          back (inr r) = inr r
          back (inl k) = inl (keeps p (NamesBack x) y (at_endpoint z (if_names fd (broken reason udata)) ∷ []) ((λ j v u. unnamed v u), tt) w k.0, k.1)
            where
              unnamed : (v : Endpoint) → v.peer ≡ Some x → (if_names fd (broken reason udata) v).peer ≡ Some x
              unnamed v u = ap (λ d. (cond d (broken reason udata v) v).peer) (ap (names fd) u ∙ m) ∙ u

          by : (d : Bool) → eqb x z ≡ d → (NamesBack x (endpoint p (one_world p w z (if_names fd (broken reason udata))) y) × (eqb y fd ≡ false)) ⊎ IsReleased b
          by false k = back (alone x y b m (sym (one-other p w z (if_names fd (broken reason udata)) x k) ∙ j) q (λ a l. absurd (not-both (eqb x z) k (eq-eqb x z (some-is x z (sym a ∙ n))))))
          by true k = other (endpoint p w z) refl (sym (endpoint-same p z (if_names fd (broken reason udata)) w) ∙ (ap (endpoint p (one_world p w z (if_names fd (broken reason udata)))) (sym (eqb-true x z k)) ∙ j))
            where
              other : (o : Option Endpoint) → endpoint p w z ≡ o → option_map (if_names fd (broken reason udata)) o ≡ Some b → (NamesBack x (endpoint p (one_world p w z (if_names fd (broken reason udata))) y) × (eqb y fd ≡ false)) ⊎ IsReleased b
              other None a l = absurd (none-is b l)
              other (Some v) a l = cut (names fd v.peer) refl (some-is (if_names fd (broken reason udata) v) b l)
                where
                  cut : (d : Bool) → names fd v.peer ≡ d → cond d (broken reason udata v) v ≡ b → (NamesBack x (endpoint p (one_world p w z (if_names fd (broken reason udata))) y) × (eqb y fd ≡ false)) ⊎ IsReleased b
                  cut true c g = absurd (none-is y (ap (λ u. u.peer) g ∙ q))
                  cut false c g =
                      let r : v.peer ≡ Some y = ap (λ u. u.peer) g ∙ q in
                      let f : eqb y fd ≡ false = sym (ap (names fd) r) ∙ c in
                      back (alone x y b m (ap (endpoint p w) (eqb-true x z k) ∙ (a ∙ ap Some g)) q (λ s l. not-both (eqb y fd) f (eq-eqb y fd l)))

  -- the descriptor itself names nobody then
  pub left-peers : (fd : ℕ) (v : World) → ((x : ℕ) → eqb x fd ≡ false → endpoint p v x ≡ endpoint p w x) → ((e : Endpoint) → endpoint p v fd ≡ Some e → e.peer ≡ None) → PeersBut p w (λ x. eqb x fd) → PeersThere p v
  left-peers fd v k n h x y b i q = go (eqb x fd) refl
    where
      go : (d : Bool) → eqb x fd ≡ d → NamesBack x (endpoint p v y) ⊎ IsReleased b
      go true j = absurd (none-is y (sym (n b (ap (endpoint p v) (sym (eqb-true x fd j)) ∙ i)) ∙ q))
      go false j = by (h x y b j (sym (k x j) ∙ i) q)
        where
          by : (NamesBack x (endpoint p w y) × (eqb y fd ≡ false)) ⊎ IsReleased b → NamesBack x (endpoint p v y) ⊎ IsReleased b
          by (inr r) = inr r
          by (inl m) = inl (subst (NamesBack x) (sym (k y m.1)) m.0)
