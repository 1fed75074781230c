-- A request that is taken back, one that is made, and a caller whose request is answered.
use Rattle.std.proofs.Common.{ℕ, Bool, true, false, List, [], ◌∷◌, ◌+◌, ◌<◌, ◌≤◌, ◌≡◌, ◌⊎◌, inl, inr, refl, sym, ap, ◌∙◌, subst, cond, eqb, Option, Some, None, is_some, arith}
use Rattle.std.proofs.lemmas.Bool.{false≢true, eqb-true, eq-eqb, ne_eqb}
use Rattle.std.specs.List.{list_any}
use Rattle.xti_base.specs.Kinds.{same_state}
use Rattle.xti_base.specs.declared.kinds.State.TheVariants.{T_IDLE, T_INCON, T_OUTCON}
use Rattle.xti_model.specs.Endpoint.{Endpoint, Indication, find_number, without_number, disconnected}
use Rattle.xti_model.specs.Links.{taken_back}
use Rattle.xti_model.specs.Events.{is_state}
use Rattle.xti_model.specs.Calls.Connect as Connect
use Rattle.xti_model.specs.Calls.Listen as Listen
use Rattle.xti_model.specs.Calls.Disconnect as Disconnect
use Rattle.xti_laws.specs.Requests.{is_connected, indications_with, disconnects_with, SoundRequests, Stands}
use Rattle.xti_model.specs.Calls.Disconnect.{is_asked}
use Rattle.xti_laws.proofs.StepWays.{some-is, none-is, not-both}
use Rattle.xti_laws.proofs.IndicationNumbers.{found-once, count-append, cut-append, find-none, find-some, find-left, find-right, find-without, count-taken, count-smaller}
use Rattle.xti_laws.proofs.EndpointUpdates.{Idle, only-idle, good-plain, asks-not, target-none}
use Rattle.xti_laws.proofs.ListenerUpdates.{asked-hears}

-- Taken back: where it is pending it goes, and where it is outstanding a disconnect waits.
module _ (e : Endpoint) (g : SoundRequests e) (n c reason : ℕ) (udata : List ℕ) (s : Stands e n c) where
  abbrev gone : Endpoint
  gone = record e { pending = without_number n e.pending }

  abbrev told_of : Endpoint
  told_of = disconnected reason n udata e

  gone-good : SoundRequests gone
  gone-good = record {
    asking = g.asking;
    unlinked = g.unlinked;
    empty = g.empty;
    outstanding = g.outstanding;
    once = λ m. (let a : indications_with m (without_number n e.pending) ≤ indications_with m e.pending = count-smaller m n e.pending in let b : indications_with m e.pending + indications_with m e.outstanding ≤ 1 = g.once m in omega arith);
    below = λ m l. (let a : indications_with m (without_number n e.pending) ≤ indications_with m e.pending = count-smaller m n e.pending in let b : indications_with m e.pending + indications_with m e.outstanding ≡ 0 = g.below m l in omega arith);
    known = g.known;
  }

  outstanding-other : (i : Indication) → find_number n e.pending ≡ Some i → (m : ℕ) (j : Indication) → find_number m e.outstanding ≡ Some j → eqb m n ≡ false
  outstanding-other i p m j f = found-once n m e.pending e.outstanding i j (g.once n) p f

  pending-gone : (i : Indication) → find_number n e.pending ≡ Some i → (m : ℕ) (j : Indication) → find_number m (without_number n e.pending) ≡ Some j → eqb m n ≡ false
  pending-gone i p m j f = go (eqb m n) refl
    where
      go : (b : Bool) → eqb m n ≡ b → b ≡ false
      go false q = refl
      go true q =
          let a : 1 ≤ indications_with n (without_number n e.pending) = (find-some n (without_number n e.pending) j (ap (λ z. find_number z (without_number n e.pending)) (sym (eqb-true m n q)) ∙ f)).0 in
          let b : indications_with n (without_number n e.pending) + 1 ≡ indications_with n e.pending = count-taken n e.pending i p in
          let u : indications_with n e.pending + indications_with n e.outstanding ≤ 1 = g.once n in absurd (omega arith)

  gone-fewer : (i : Indication) → find_number n e.pending ≡ Some i → (m d : ℕ) → Stands gone m d → Stands e m d × (eqb m n ≡ false)
  gone-fewer i p m d t = go t.is_found
    where
      go : ((find_number m (without_number n e.pending) ≡ Some t.i) ⊎ ((find_number m e.outstanding ≡ Some t.i) × (disconnects_with m e.disconnects ≡ 0))) → Stands e m d × (eqb m n ≡ false)
      go (inl f) = (let q = pending-gone i p m t.i f in (record { i = t.i; is_caller = t.is_caller; is_found = inl (sym (find-without m n q e.pending) ∙ f) }, q))
      go (inr f) = (record { i = t.i; is_caller = t.is_caller; is_found = inr f }, outstanding-other i p m t.i f.0)

  gone-rest : (m d : ℕ) → eqb m n ≡ false → Stands e m d → Stands gone m d
  gone-rest m d q t = record { i = t.i; is_caller = t.is_caller; is_found = go t.is_found }
    where
      go : ((find_number m e.pending ≡ Some t.i) ⊎ ((find_number m e.outstanding ≡ Some t.i) × (disconnects_with m e.disconnects ≡ 0))) → ((find_number m (without_number n e.pending) ≡ Some t.i) ⊎ ((find_number m e.outstanding ≡ Some t.i) × (disconnects_with m e.disconnects ≡ 0)))
      go (inl f) = inl (find-without m n q e.pending ∙ f)
      go (inr f) = inr f

  cut-one : (m : ℕ) → disconnects_with m told_of.disconnects ≡ disconnects_with m e.disconnects + cond (eqb n m) 1 0
  cut-one m = let a : disconnects_with m told_of.disconnects ≡ disconnects_with m e.disconnects + (cond (eqb n m) 1 0 + 0) = cut-append m e.disconnects (record { reason = reason; number = n; udata = udata } ∷ []) in omega arith

  is-listening : (i : Indication) → find_number n e.outstanding ≡ Some i → is_asked e ≡ true
  is-listening i f = go (is_asked e) refl
    where
      go : (b : Bool) → is_asked e ≡ b → b ≡ true
      go true j = refl
      go false j = absurd (none-is i (sym (ap (find_number n) (g.outstanding j)) ∙ f))

  told-good : (i : Indication) → find_number n e.outstanding ≡ Some i → disconnects_with n e.disconnects ≡ 0 → SoundRequests told_of
  told-good i f z = record {
    asking = asks-not e.target (target-none e g (asked-hears e.state (is-listening i f)).not_out);
    unlinked = g.unlinked;
    empty = g.empty;
    outstanding = g.outstanding;
    once = g.once;
    below = g.below;
    known = λ t m. subst (λ y. y ≤ indications_with m e.outstanding) (sym (cut-one m)) (by m t (eqb n m) refl);
  }
    where
      by : (m : ℕ) → is_asked e ≡ true → (b : Bool) → eqb n m ≡ b → disconnects_with m e.disconnects + cond b 1 0 ≤ indications_with m e.outstanding
      by m t true q = subst (λ y. disconnects_with y e.disconnects + 1 ≤ indications_with y e.outstanding) (eqb-true n m q) (let a : 1 ≤ indications_with n e.outstanding = (find-some n e.outstanding i f).0 in omega arith)
      by m t false q = (let k : disconnects_with m e.disconnects ≤ indications_with m e.outstanding = g.known t m in omega arith)

  told-fewer : (i : Indication) → find_number n e.outstanding ≡ Some i → (m d : ℕ) → Stands told_of m d → Stands e m d × (eqb m n ≡ false)
  told-fewer i f m d t = go t.is_found (eqb n m) refl
    where
      pending_other : (j : Indication) → find_number m e.pending ≡ Some j → eqb n m ≡ true → ⊥
      pending_other j p q =
          let a : 1 ≤ indications_with n e.pending = (find-some n e.pending j (ap (λ z. find_number z e.pending) (eqb-true n m q) ∙ p)).0 in
          let b : 1 ≤ indications_with n e.outstanding = (find-some n e.outstanding i f).0 in
          let u : indications_with n e.pending + indications_with n e.outstanding ≤ 1 = g.once n in omega arith

      flip : eqb n m ≡ false → eqb m n ≡ false
      flip k = ne_eqb m n (λ v. not-both (eqb n m) k (eq-eqb n m (sym v)))

      go : ((find_number m e.pending ≡ Some t.i) ⊎ ((find_number m e.outstanding ≡ Some t.i) × (disconnects_with m told_of.disconnects ≡ 0))) → (b : Bool) → eqb n m ≡ b → Stands e m d × (eqb m n ≡ false)
      go (inl p) true q = absurd (pending_other t.i p q)
      go (inl p) false q = (record { i = t.i; is_caller = t.is_caller; is_found = inl p }, flip q)
      go (inr p) true q = absurd (let a : disconnects_with m told_of.disconnects ≡ disconnects_with m e.disconnects + 1 = cut-one m ∙ ap (λ z. disconnects_with m e.disconnects + cond z 1 0) q in let b : disconnects_with m told_of.disconnects ≡ 0 = p.1 in omega arith)
      go (inr p) false q = (record { i = t.i; is_caller = t.is_caller; is_found = inr (p.0, let a : disconnects_with m told_of.disconnects ≡ disconnects_with m e.disconnects + 0 = cut-one m ∙ ap (λ z. disconnects_with m e.disconnects + cond z 1 0) q in let b : disconnects_with m told_of.disconnects ≡ 0 = p.1 in omega arith) }, flip q)

  told-rest : (m d : ℕ) → eqb m n ≡ false → Stands e m d → Stands told_of m d
  told-rest m d q t = record { i = t.i; is_caller = t.is_caller; is_found = go t.is_found }
    where
      flip : eqb n m ≡ false
      flip = ne_eqb n m (λ v. not-both (eqb m n) q (eq-eqb m n (sym v)))

      go : ((find_number m e.pending ≡ Some t.i) ⊎ ((find_number m e.outstanding ≡ Some t.i) × (disconnects_with m e.disconnects ≡ 0))) → ((find_number m e.pending ≡ Some t.i) ⊎ ((find_number m e.outstanding ≡ Some t.i) × (disconnects_with m told_of.disconnects ≡ 0)))
      go (inl p) = inl p
      go (inr p) = inr (p.0, cut-one m ∙ (ap (λ z. disconnects_with m e.disconnects + cond z 1 0) flip ∙ (let b : disconnects_with m e.disconnects ≡ 0 = p.1 in omega arith)))

  -- all of it
  pub record TakenBack (e' : Endpoint) : Type 0 where
    pub good : SoundRequests e'
    pub target : e'.target ≡ e.target
    pub prov : e'.prov ≡ e.prov
    pub fewer : (m d : ℕ) → Stands e' m d → Stands e m d × (eqb m n ≡ false)
    pub rest : (m d : ℕ) → eqb m n ≡ false → Stands e m d → Stands e' m d

  as-gone : (i : Indication) → find_number n e.pending ≡ Some i → TakenBack gone
  as-gone i p = record { good = gone-good; target = refl; prov = refl; fewer = gone-fewer i p; rest = gone-rest }

  as-told : (i : Indication) → find_number n e.outstanding ≡ Some i → disconnects_with n e.disconnects ≡ 0 → TakenBack told_of
  as-told i f z = record { good = told-good i f z; target = refl; prov = refl; fewer = told-fewer i f; rest = told-rest }

  pub is-taken_back : TakenBack (taken_back n reason udata e)
  is-taken_back = go s.is_found
    where
      pending : (b : Bool) → b ≡ true → TakenBack gone → TakenBack (cond b gone (cond (is_some (find_number n e.outstanding)) told_of e))
      pending true j q = q
      pending false j q = absurd (false≢true j)

      waits : (b d : Bool) → b ≡ false → d ≡ true → TakenBack told_of → TakenBack (cond b gone (cond d told_of e))
      waits true d j k q = absurd (false≢true (sym j))
      waits false true j k q = q
      waits false false j k q = absurd (false≢true k)

      not-pending : find_number n e.outstanding ≡ Some s.i → find_number n e.pending ≡ None
      not-pending f = find-none n e.pending (let b : 1 ≤ indications_with n e.outstanding = (find-some n e.outstanding s.i f).0 in let u : indications_with n e.pending + indications_with n e.outstanding ≤ 1 = g.once n in omega arith)

      go : ((find_number n e.pending ≡ Some s.i) ⊎ ((find_number n e.outstanding ≡ Some s.i) × (disconnects_with n e.disconnects ≡ 0))) → TakenBack (taken_back n reason udata e)
      go (inl p) = pending (is_some (find_number n e.pending)) (ap is_some p) (as-gone s.i p)
      go (inr f) = waits (is_some (find_number n e.pending)) (is_some (find_number n e.outstanding)) (ap is_some (not-pending f.0)) (ap is_some f.0) (as-told s.i f.0 f.1)

-- with nothing outstanding before and after, what stands is pending
pub move-stands : (a b : Endpoint) → a.pending ≡ b.pending → a.outstanding ≡ [] → (n c : ℕ) → Stands a n c → Stands b n c
move-stands a b p o n c s = record { i = s.i; is_caller = s.is_caller; is_found = go s.is_found }
  where
    go : ((find_number n a.pending ≡ Some s.i) ⊎ ((find_number n a.outstanding ≡ Some s.i) × (disconnects_with n a.disconnects ≡ 0))) → ((find_number n b.pending ≡ Some s.i) ⊎ ((find_number n b.outstanding ≡ Some s.i) × (disconnects_with n b.disconnects ≡ 0)))
    go (inl f) = inl (ap (find_number n) (sym p) ∙ f)
    go (inr f) = absurd (none-is s.i (ap (find_number n) (sym o) ∙ f.0))

-- A caller that asks is answered: accepted or rejected.
module _ (e : Endpoint) (g : SoundRequests e) (t : is_some e.target ≡ true) where
  pub asks-out : e.state ≡ T_OUTCON
  asks-out = (g.asking t).0

  pub none-outstanding : e.outstanding ≡ []
  none-outstanding = g.outstanding (ap (λ z. list_any (same_state z) (T_INCON ∷ [])) asks-out)

  pub accepted-good : (resfd : ℕ) (address options udata : List ℕ) → SoundRequests (Listen.accepted resfd address options udata e)
  accepted-good resfd address options udata = good-plain e (Listen.accepted resfd address options udata e) g refl refl refl none-outstanding (ap (λ z. list_any (same_state z) (T_INCON ∷ [])) asks-out)
      (asks-not None refl) (λ q. absurd (false≢true (sym q ∙ ap is_connected asks-out))) (λ q. absurd (none-is resfd (sym q)))

  pub rejected-good : (udata : List ℕ) → SoundRequests (Disconnect.rejected udata e)
  rejected-good udata = good-plain e (Disconnect.rejected udata e) g refl refl refl none-outstanding (ap (λ z. list_any (same_state z) (T_INCON ∷ [])) asks-out) (asks-not None refl) g.unlinked g.empty

-- A request is made.
module _ (l : Endpoint) (g : SoundRequests l) (caller : ℕ) (address options udata : List ℕ) where
  abbrev new_one : Indication
  new_one = record { number = l.last_number + 1; caller = caller; address = address; options = options; udata = udata }

  abbrev asked_now : Endpoint
  asked_now = Connect.asked caller address options udata l

  counted : (m : ℕ) → indications_with m asked_now.pending ≡ indications_with m l.pending + cond (eqb (l.last_number + 1) m) 1 0
  counted m = let a : indications_with m asked_now.pending ≡ indications_with m l.pending + (cond (eqb (l.last_number + 1) m) 1 0 + 0) = count-append m l.pending (new_one ∷ []) in omega arith

  pub asked-good : SoundRequests asked_now
  asked-good = record {
    asking = g.asking;
    unlinked = g.unlinked;
    empty = g.empty;
    outstanding = g.outstanding;
    once = λ m. once m (eqb (l.last_number + 1) m) refl;
    below = λ m k. below m k (eqb (l.last_number + 1) m) refl;
    known = g.known;
  }
    where
      once : (m : ℕ) (b : Bool) → eqb (l.last_number + 1) m ≡ b → indications_with m asked_now.pending + indications_with m l.outstanding ≤ 1
      once m true q =
          let a : indications_with m asked_now.pending ≡ indications_with m l.pending + 1 = counted m ∙ ap (λ z. indications_with m l.pending + cond z 1 0) q in
          let n : l.last_number + 1 ≡ m = eqb-true (l.last_number + 1) m q in
          let z : indications_with m l.pending + indications_with m l.outstanding ≡ 0 = g.below m (omega arith) in omega arith
      once m false q =
          let a : indications_with m asked_now.pending ≡ indications_with m l.pending + 0 = counted m ∙ ap (λ z. indications_with m l.pending + cond z 1 0) q in
          let z : indications_with m l.pending + indications_with m l.outstanding ≤ 1 = g.once m in omega arith

      below : (m : ℕ) → l.last_number + 1 < m → (b : Bool) → eqb (l.last_number + 1) m ≡ b → indications_with m asked_now.pending + indications_with m l.outstanding ≡ 0
      below m k true q = (let n : l.last_number + 1 ≡ m = eqb-true (l.last_number + 1) m q in absurd (omega arith))
      below m k false q =
          let a : indications_with m asked_now.pending ≡ indications_with m l.pending + 0 = counted m ∙ ap (λ z. indications_with m l.pending + cond z 1 0) q in
          let z : indications_with m l.pending + indications_with m l.outstanding ≡ 0 = g.below m (omega arith) in omega arith

  pub asked-on : (m d : ℕ) → Stands l m d → Stands asked_now m d
  asked-on m d s = record { i = s.i; is_caller = s.is_caller; is_found = go s.is_found }
    where
      go : ((find_number m l.pending ≡ Some s.i) ⊎ ((find_number m l.outstanding ≡ Some s.i) × (disconnects_with m l.disconnects ≡ 0))) → ((find_number m asked_now.pending ≡ Some s.i) ⊎ ((find_number m l.outstanding ≡ Some s.i) × (disconnects_with m l.disconnects ≡ 0)))
      go (inl f) = inl (find-left m l.pending (new_one ∷ []) s.i f)
      go (inr f) = inr f

  pub asked-new : Stands asked_now (l.last_number + 1) caller
  asked-new = record {
    i = new_one;
    is_caller = refl;
    is_found = inl (find-right (l.last_number + 1) l.pending (new_one ∷ []) (find-none (l.last_number + 1) l.pending (let z : indications_with (l.last_number + 1) l.pending + indications_with (l.last_number + 1) l.outstanding ≡ 0 = g.below (l.last_number + 1) (omega arith) in omega arith)) ∙ ap (λ z. cond z (Some new_one) None) (eq-eqb (l.last_number + 1) (l.last_number + 1) refl));
  }

  pub asked-back : (m d : ℕ) → Stands asked_now m d → Stands l m d ⊎ ((m ≡ l.last_number + 1) × (d ≡ caller))
  asked-back m d s = go s.is_found
    where
      last : find_number m l.pending ≡ None → find_number m asked_now.pending ≡ Some s.i → (m ≡ l.last_number + 1) × (d ≡ caller)
      last n f = by (eqb (l.last_number + 1) m) refl (sym (find-right m l.pending (new_one ∷ []) n) ∙ f)
        where
          by : (b : Bool) → eqb (l.last_number + 1) m ≡ b → cond b (Some new_one) None ≡ Some s.i → (m ≡ l.last_number + 1) × (d ≡ caller)
          by true q k = (sym (eqb-true (l.last_number + 1) m q), sym s.is_caller ∙ ap (λ i. i.caller) (sym (some-is new_one s.i k)))
          by false q k = absurd (none-is s.i k)

      either : (o : Option Indication) → find_number m l.pending ≡ o → find_number m asked_now.pending ≡ Some s.i → Stands l m d ⊎ ((m ≡ l.last_number + 1) × (d ≡ caller))
      either (Some i) q f = inl (record { i = s.i; is_caller = s.is_caller; is_found = inl (q ∙ (sym (find-left m l.pending (new_one ∷ []) i q) ∙ f)) })
      either None q f = inr (last q f)

      go : ((find_number m asked_now.pending ≡ Some s.i) ⊎ ((find_number m l.outstanding ≡ Some s.i) × (disconnects_with m l.disconnects ≡ 0))) → Stands l m d ⊎ ((m ≡ l.last_number + 1) × (d ≡ caller))
      go (inl f) = either (find_number m l.pending) refl f
      go (inr f) = inl (record { i = s.i; is_caller = s.is_caller; is_found = inr f })

pub asking-good : (e : Endpoint) → SoundRequests e → is_state (T_IDLE ∷ []) e ≡ true → e.disconnects ≡ [] → (l n : ℕ) → SoundRequests (Connect.asking l n e)
asking-good e g h none l n = (let s : Idle e.state = only-idle e.state h in
    good-plain e (Connect.asking l n e) g refl refl refl (g.outstanding s.not_in) refl (λ q. (refl, g.unlinked s.not_connected, none)) (λ q. g.unlinked s.not_connected) g.empty)
