-- The updates of a listener's requests.
use Rattle.std.proofs.Common.{ℕ, Bool, true, false, List, [], ◌∷◌, ◌++◌, ◌+◌, ◌≤◌, ◌≡◌, ◌⊎◌, inl, inr, refl, sym, ap, ◌∙◌, subst, cond, eqb, length, drop, slice_get, Option, Some, None, arith}
use Rattle.std.proofs.lemmas.Bool.{false≢true, eqb-true, eq-eqb, ne_eqb}
use Rattle.std.specs.List.{list_any}
use Rattle.xti_base.specs.Kinds.{same_state}
use Rattle.xti_base.specs.declared.kinds.State.{State}
use Rattle.xti_base.specs.declared.kinds.State.TheVariants.{T_UNINIT, T_UNBND, T_IDLE, T_INCON, T_OUTCON, T_DATAXFER, T_OUTREL, T_INREL}
use Rattle.xti_model.specs.Endpoint.{Endpoint, Indication, Disconnect, has_number, find_number, without_number, ocnt}
use Rattle.xti_model.specs.Events.{is_state, some_wait}
use Rattle.xti_model.specs.Calls.Listen as Listen
use Rattle.xti_laws.specs.Requests.{is_connected, indications_with, disconnects_with, SoundRequests, Stands}
use Rattle.xti_model.specs.Calls.Disconnect.{is_asked}
use Rattle.xti_laws.proofs.StepWays.{some-is, none-is, not-both}
use Rattle.xti_laws.proofs.IndicationNumbers.{found-once, count-append, find-none, find-some, none-count, find-left, find-right, find-without, count-without, count-taken, length-taken, count-smaller, count-cons}
use Rattle.xti_laws.proofs.OneChange.{Alike}
use Rattle.xti_laws.proofs.EndpointUpdates.{Both, asks-not, target-none}

-- a listener is in no connection and asks nobody
pub record Hears (s : State) : Type 0 where
  pub not_connected : is_connected s ≡ false
  pub not_out : (s ≡ T_OUTCON) → ⊥

pub hears : (s : State) → list_any (same_state s) (T_IDLE ∷ T_INCON ∷ []) ≡ true → Hears s
hears T_UNINIT h = absurd (false≢true h)
hears T_UNBND h = absurd (false≢true h)
hears T_IDLE h = record { not_connected = refl; not_out = λ j. absurd (false≢true (ap (λ z. list_any (same_state z) (T_OUTCON ∷ [])) j)) }
hears T_INCON h = record { not_connected = refl; not_out = λ j. absurd (false≢true (ap (λ z. list_any (same_state z) (T_OUTCON ∷ [])) j)) }
hears T_OUTCON h = absurd (false≢true h)
hears T_DATAXFER h = absurd (false≢true h)
hears T_OUTREL h = absurd (false≢true h)
hears T_INREL h = absurd (false≢true h)

pub asked-hears : (s : State) → list_any (same_state s) (T_INCON ∷ []) ≡ true → Hears s
asked-hears T_UNINIT h = absurd (false≢true h)
asked-hears T_UNBND h = absurd (false≢true h)
asked-hears T_IDLE h = absurd (false≢true h)
asked-hears T_INCON h = record { not_connected = refl; not_out = λ j. absurd (false≢true (ap (λ z. list_any (same_state z) (T_OUTCON ∷ [])) j)) }
asked-hears T_OUTCON h = absurd (false≢true h)
asked-hears T_DATAXFER h = absurd (false≢true h)
asked-hears T_OUTREL h = absurd (false≢true h)
asked-hears T_INREL h = absurd (false≢true h)

one-found : (n : ℕ) (o : Indication) (i : Indication) → find_number n (o ∷ []) ≡ Some i → (has_number n o ≡ true) × (o ≡ i)
one-found n o i h = go (has_number n o) refl h
  where
    go : (b : Bool) → has_number n o ≡ b → cond b (Some o) None ≡ Some i → (has_number n o ≡ true) × (o ≡ i)
    go true j h = (j, some-is o i h)
    go false j h = absurd (none-is i h)

-- Listen: the oldest pending request is outstanding.
module _ (e : Endpoint) (g : SoundRequests e) (o : Indication) (ps : List Indication) (pending : e.pending ≡ o ∷ ps) (none : e.disconnects ≡ []) (h : Hears e.state) where
  abbrev heard : Endpoint
  heard = record e { pending = ps; outstanding = e.outstanding ++ o ∷ []; state = T_INCON }

  counted : (n : ℕ) → indications_with n ps + indications_with n (e.outstanding ++ o ∷ []) ≡ indications_with n e.pending + indications_with n e.outstanding
  counted n = let a : indications_with n (e.outstanding ++ o ∷ []) ≡ indications_with n e.outstanding + indications_with n (o ∷ []) = count-append n e.outstanding (o ∷ []) in
      let b : indications_with n e.pending ≡ cond (has_number n o) 1 0 + indications_with n ps = ap (indications_with n) pending in omega arith

  heard-good : SoundRequests heard
  heard-good = record {
    asking = asks-not e.target (target-none e g h.not_out);
    unlinked = λ t. g.unlinked h.not_connected;
    empty = g.empty;
    outstanding = λ t. absurd (false≢true (sym t));
    once = λ n. subst (λ z. z ≤ 1) (sym (counted n)) (g.once n);
    below = λ n l. (counted n ∙ g.below n l);
    known = λ t n. (let c : disconnects_with n e.disconnects ≡ 0 = ap (disconnects_with n) none in omega arith);
  }

  to-heard : (n : ℕ) (i : Indication) → ((find_number n e.pending ≡ Some i) ⊎ ((find_number n e.outstanding ≡ Some i) × (disconnects_with n e.disconnects ≡ 0))) → ((find_number n ps ≡ Some i) ⊎ ((find_number n (e.outstanding ++ o ∷ []) ≡ Some i) × (disconnects_with n e.disconnects ≡ 0)))
  to-heard n i (inr f) = inr (find-left n e.outstanding (o ∷ []) i f.0, f.1)
  to-heard n i (inl f) = go (has_number n o) refl (sym (ap (find_number n) pending) ∙ f)
    where
      go : (b : Bool) → has_number n o ≡ b → cond b (Some o) (find_number n ps) ≡ Some i → (find_number n ps ≡ Some i) ⊎ ((find_number n (e.outstanding ++ o ∷ []) ≡ Some i) × (disconnects_with n e.disconnects ≡ 0))
      go false j k = inl k
      go true j k =
          let b : indications_with n e.pending ≡ 1 + indications_with n ps = ap (indications_with n) pending ∙ count-cons n o true j ps in
          let u : indications_with n e.pending + indications_with n e.outstanding ≤ 1 = g.once n in
          inr (find-right n e.outstanding (o ∷ []) (find-none n e.outstanding (omega arith)) ∙ (ap (λ z. cond z (Some o) None) j ∙ k), ap (disconnects_with n) none)

  from-heard : (n : ℕ) (i : Indication) → ((find_number n ps ≡ Some i) ⊎ ((find_number n (e.outstanding ++ o ∷ []) ≡ Some i) × (disconnects_with n e.disconnects ≡ 0))) → ((find_number n e.pending ≡ Some i) ⊎ ((find_number n e.outstanding ≡ Some i) × (disconnects_with n e.disconnects ≡ 0)))
  from-heard n i (inl f) = inl (ap (find_number n) pending ∙ go (has_number n o) refl)
    where
      go : (b : Bool) → has_number n o ≡ b → cond b (Some o) (find_number n ps) ≡ Some i
      go false j = f
      go true j =
          let b : indications_with n e.pending ≡ 1 + indications_with n ps = ap (indications_with n) pending ∙ count-cons n o true j ps in
          let u : indications_with n e.pending + indications_with n e.outstanding ≤ 1 = g.once n in
          let v : 1 ≤ indications_with n ps = (find-some n ps i f).0 in absurd (omega arith)
  from-heard n i (inr f) = go (find_number n e.outstanding) refl
    where
      go : (z : Option Indication) → find_number n e.outstanding ≡ z → (find_number n e.pending ≡ Some i) ⊎ ((find_number n e.outstanding ≡ Some i) × (disconnects_with n e.disconnects ≡ 0))
      go (Some j) q = inr (q ∙ (sym (find-left n e.outstanding (o ∷ []) j q) ∙ f.0), f.1)
      go None q = (let k : (has_number n o ≡ true) × (o ≡ i) = one-found n o i (sym (find-right n e.outstanding (o ∷ []) q) ∙ f.0) in
          inl (ap (find_number n) pending ∙ (ap (λ z. cond z (Some o) (find_number n ps)) k.0 ∙ ap Some k.1)))

  heard-alike : Alike e heard
  heard-alike = record {
    target = refl;
    prov = refl;
    stands = λ n c s. record { i = s.i; is_caller = s.is_caller; is_found = to-heard n s.i s.is_found };
    back = λ n c s. record { i = s.i; is_caller = s.is_caller; is_found = from-heard n s.i s.is_found };
  }

pub both-listened : (e : Endpoint) → SoundRequests e → some_wait e.pending ≡ true → e.disconnects ≡ [] → is_state (T_IDLE ∷ T_INCON ∷ []) e ≡ true → Both Listen.listened e
both-listened e g w n s = go e.pending refl w
  where
    go : (ps : List Indication) → e.pending ≡ ps → some_wait ps ≡ true → Both Listen.listened e
    go [] i w = absurd (false≢true w)
    go (o ∷ ps) i w =
        let same : Listen.listened e ≡ heard e g o ps i n (hears e.state s) = ap (λ z. record e { pending = drop 1 z; outstanding = e.outstanding ++ Listen.indication_or (slice_get z 0) ∷ []; state = T_INCON }) i in
        subst (λ z. SoundRequests z × Alike e z) (sym same) (heard-good e g o ps i n (hears e.state s), heard-alike e g o ps i n (hears e.state s))

-- A request is taken out of those that are outstanding, with these disconnects left.
module _ (e : Endpoint) (g : SoundRequests e) (n : ℕ) (i : Indication) (found : find_number n e.outstanding ≡ Some i) (asked : is_asked e ≡ true) where
  abbrev out_with : List Disconnect → Endpoint
  out_with ds = record (Listen.taken_out n e) { disconnects = ds }

  empty-list : (xs : List Indication) → length xs ≡ 0 → xs ≡ []
  empty-list [] h = refl
  empty-list (x ∷ xs) h = absurd (omega arith)

  last-out : (b : Bool) → eqb (ocnt e) 1 ≡ b → list_any (same_state (cond b T_IDLE e.state)) (T_INCON ∷ []) ≡ false → without_number n e.outstanding ≡ []
  last-out true j t = empty-list (without_number n e.outstanding) (let a : length (without_number n e.outstanding) + 1 ≡ length e.outstanding = length-taken n e.outstanding i found in let b : length e.outstanding ≡ 1 = eqb-true (ocnt e) 1 j in omega arith)
  last-out false j t = absurd (not-both (is_asked e) t asked)

  not-out : (b : Bool) → is_connected (cond b T_IDLE e.state) ≡ false
  not-out true = refl
  not-out false = (asked-hears e.state asked).not_connected

  fewer-count : (m : ℕ) → indications_with m e.pending + indications_with m (without_number n e.outstanding) ≤ indications_with m e.pending + indications_with m e.outstanding
  fewer-count m = let a : indications_with m (without_number n e.outstanding) ≤ indications_with m e.outstanding = count-smaller m n e.outstanding in omega arith

  pub out-good : (ds : List Disconnect) → ((m : ℕ) → disconnects_with m ds ≤ indications_with m (without_number n e.outstanding)) → SoundRequests (out_with ds)
  out-good ds k = record {
    asking = asks-not e.target (target-none e g (asked-hears e.state asked).not_out);
    unlinked = λ t. g.unlinked (asked-hears e.state asked).not_connected;
    empty = g.empty;
    outstanding = last-out (eqb (ocnt e) 1) refl;
    once = λ m. (let a = fewer-count m in let b = g.once m in omega arith);
    below = λ m l. (let a : indications_with m e.pending + indications_with m (without_number n e.outstanding) ≤ indications_with m e.pending + indications_with m e.outstanding = fewer-count m in let b : indications_with m e.pending + indications_with m e.outstanding ≡ 0 = g.below m l in omega arith);
    known = λ t m. k m;
  }

  pub out-gone : find_number n (without_number n e.outstanding) ≡ None
  out-gone = find-none n (without_number n e.outstanding) (let a : indications_with n (without_number n e.outstanding) + 1 ≡ indications_with n e.outstanding = count-taken n e.outstanding i found in let b : indications_with n e.pending + indications_with n e.outstanding ≤ 1 = g.once n in omega arith)

  pub pending-other : (m : ℕ) (j : Indication) → find_number m e.pending ≡ Some j → eqb m n ≡ false
  pending-other m j f = found-once n m e.outstanding e.pending i j (omega (arith, g.once n)) found f

  pub left-other : (m : ℕ) (j : Indication) → find_number m (without_number n e.outstanding) ≡ Some j → eqb m n ≡ false
  left-other m j f = go (eqb m n) refl
    where
      go : (b : Bool) → eqb m n ≡ b → b ≡ false
      go false q = refl
      go true q = absurd (none-is j (sym out-gone ∙ (ap (λ z. find_number z (without_number n e.outstanding)) (sym (eqb-true m n q)) ∙ f)))

  -- where no disconnect waits, the request no longer stands, and all others do
  pub out-fewer : e.disconnects ≡ [] → (m d : ℕ) → Stands (out_with e.disconnects) m d → Stands e m d × (eqb m n ≡ false)
  out-fewer none m d s = go s.is_found
    where
      go : ((find_number m e.pending ≡ Some s.i) ⊎ ((find_number m (without_number n e.outstanding) ≡ Some s.i) × (disconnects_with m e.disconnects ≡ 0))) → Stands e m d × (eqb m n ≡ false)
      go (inl f) = (record { i = s.i; is_caller = s.is_caller; is_found = inl f }, pending-other m s.i f)
      go (inr f) = (let q = left-other m s.i f.0 in (record { i = s.i; is_caller = s.is_caller; is_found = inr (sym (find-without m n q e.outstanding) ∙ f.0, f.1) }, q))

  pub out-rest : (m d : ℕ) → eqb m n ≡ false → Stands e m d → Stands (out_with e.disconnects) m d
  out-rest m d q s = record { i = s.i; is_caller = s.is_caller; is_found = go s.is_found }
    where
      go : ((find_number m e.pending ≡ Some s.i) ⊎ ((find_number m e.outstanding ≡ Some s.i) × (disconnects_with m e.disconnects ≡ 0))) → ((find_number m e.pending ≡ Some s.i) ⊎ ((find_number m (without_number n e.outstanding) ≡ Some s.i) × (disconnects_with m e.disconnects ≡ 0)))
      go (inl f) = inl f
      go (inr f) = inr (find-without m n q e.outstanding ∙ f.0, f.1)

pub taken_out-good : (e : Endpoint) → SoundRequests e → (n : ℕ) (i : Indication) → find_number n e.outstanding ≡ Some i → is_asked e ≡ true → e.disconnects ≡ [] → SoundRequests (Listen.taken_out n e)
taken_out-good e g n i f a none = out-good e g n i f a e.disconnects (λ m. (let c : disconnects_with m e.disconnects ≡ 0 = ap (disconnects_with m) none in omega arith))

-- A listener receives a disconnect: the request had been taken back, and all that stand do still.
cut-cons : (m : ℕ) (d : Disconnect) (b : Bool) → eqb d.number m ≡ b → (ds : List Disconnect) → disconnects_with m (d ∷ ds) ≡ cond b 1 0 + disconnects_with m ds
cut-cons m d b h ds = ap (λ z. cond z 1 0 + disconnects_with m ds) h

pub both-cut : (e : Endpoint) (d : Disconnect) (ds : List Disconnect) → SoundRequests e → is_asked e ≡ true → e.disconnects ≡ d ∷ ds → SoundRequests (record (Listen.taken_out d.number e) { disconnects = ds }) × Alike e (record (Listen.taken_out d.number e) { disconnects = ds })
both-cut e d ds g a h = go (find_number d.number e.outstanding) refl
  where
    known : (m : ℕ) → disconnects_with m (d ∷ ds) ≤ indications_with m e.outstanding
    known m = subst (λ z. disconnects_with m z ≤ indications_with m e.outstanding) h (g.known a m)

    go : (o : Option Indication) → find_number d.number e.outstanding ≡ o → SoundRequests (record (Listen.taken_out d.number e) { disconnects = ds }) × Alike e (record (Listen.taken_out d.number e) { disconnects = ds })
    go None f =
        let c : disconnects_with d.number (d ∷ ds) ≡ 1 + disconnects_with d.number ds = cut-cons d.number d true (eq-eqb d.number d.number refl) ds in
        let k : disconnects_with d.number (d ∷ ds) ≤ indications_with d.number e.outstanding = known d.number in
        let z : indications_with d.number e.outstanding ≡ 0 = none-count d.number e.outstanding f in absurd (omega arith)
    go (Some i) f = (out-good e g d.number i f a ds left, record { target = refl; prov = refl; stands = λ m c s. record { i = s.i; is_caller = s.is_caller; is_found = on m s.i s.is_found }; back = λ m c s. record { i = s.i; is_caller = s.is_caller; is_found = back m s.i s.is_found } })
      where
        left : (m : ℕ) → disconnects_with m ds ≤ indications_with m (without_number d.number e.outstanding)
        left m = by (eqb m d.number) refl
          where
            by : (b : Bool) → eqb m d.number ≡ b → disconnects_with m ds ≤ indications_with m (without_number d.number e.outstanding)
            by true q = subst (λ z. disconnects_with z ds ≤ indications_with z (without_number d.number e.outstanding)) (sym (eqb-true m d.number q))
                (let c : disconnects_with d.number (d ∷ ds) ≡ 1 + disconnects_with d.number ds = cut-cons d.number d true (eq-eqb d.number d.number refl) ds in
                let k : disconnects_with d.number (d ∷ ds) ≤ indications_with d.number e.outstanding = known d.number in
                let t : indications_with d.number (without_number d.number e.outstanding) + 1 ≡ indications_with d.number e.outstanding = count-taken d.number e.outstanding i f in omega arith)
            by false q = subst (λ z. disconnects_with m ds ≤ z) (sym (count-without m d.number q e.outstanding))
                (let k : disconnects_with m (d ∷ ds) ≤ indications_with m e.outstanding = known m in omega arith)

        on : (m : ℕ) (j : Indication) → ((find_number m e.pending ≡ Some j) ⊎ ((find_number m e.outstanding ≡ Some j) × (disconnects_with m e.disconnects ≡ 0))) → ((find_number m e.pending ≡ Some j) ⊎ ((find_number m (without_number d.number e.outstanding) ≡ Some j) × (disconnects_with m ds ≡ 0)))
        on m j (inl q) = inl q
        on m j (inr q) = by (eqb d.number m) refl
          where
            zero_cut : disconnects_with m (d ∷ ds) ≡ 0
            zero_cut = sym (ap (disconnects_with m) h) ∙ q.1

            by : (b : Bool) → eqb d.number m ≡ b → (find_number m e.pending ≡ Some j) ⊎ ((find_number m (without_number d.number e.outstanding) ≡ Some j) × (disconnects_with m ds ≡ 0))
            by true k = absurd (let c : disconnects_with m (d ∷ ds) ≡ 1 + disconnects_with m ds = cut-cons m d true k ds in let z = zero_cut in omega arith)
            by false k = inr (find-without m d.number (flip k) e.outstanding ∙ q.0, let z = zero_cut in omega arith)
              where
                flip : eqb d.number m ≡ false → eqb m d.number ≡ false
                flip k = ne_eqb m d.number (λ e. not-both (eqb d.number m) k (eq-eqb d.number m (sym e)))

        back : (m : ℕ) (j : Indication) → ((find_number m e.pending ≡ Some j) ⊎ ((find_number m (without_number d.number e.outstanding) ≡ Some j) × (disconnects_with m ds ≡ 0))) → ((find_number m e.pending ≡ Some j) ⊎ ((find_number m e.outstanding ≡ Some j) × (disconnects_with m e.disconnects ≡ 0)))
        back m j (inl q) = inl q
        back m j (inr q) =
            let n = left-other e g d.number i f a m j q.0 in
            inr (sym (find-without m d.number n e.outstanding) ∙ q.0, ap (disconnects_with m) h ∙ (cut-cons m d false (ne_eqb d.number m (λ e. not-both (eqb m d.number) n (eq-eqb m d.number (sym e)))) ds ∙ (let z : disconnects_with m ds ≡ 0 = q.1 in omega arith)))
