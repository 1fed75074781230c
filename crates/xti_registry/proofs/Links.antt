-- Links between entries, as an entry comes into a chain and goes out of it.
use Rattle.std.proofs.Common.{◌≡◌, ◌≢◌, ◌⊎◌, ◌↔◌, ◌∙◌, ℕ, Bool, true, false, not, cond, eqb, List, [], ◌∷◌, Option, Some, None, filter, refl, sym, ap, inl, inr, arith}
use Rattle.std.proofs.lemmas.Bool.{cases_eq, eq-eqb}
use Rattle.std.proofs.lemmas.Bool.Decides.{nat_tests}
use Rattle.xti_registry.specs.Chains.{Leads}
use Rattle.xti_registry.specs.declared.addresses.Link.{Link}
use Rattle.xti_registry.specs.declared.addresses.Link.TheVariants.{Head, After}

pub same_link : (v w : Link) → (v ≡ w) ⊎ (v ≢ w)
same_link (Head m) (Head n) = elim (cases_eq m n) [ inl e ↦ inl (ap Head e) | inr e ↦ inr (λ h. e (cc)) ]
same_link (After m) (After n) = elim (cases_eq m n) [ inl e ↦ inl (ap After e) | inr e ↦ inr (λ h. e (cc)) ]
same_link (Head m) (After n) = inr (λ h. cc)
same_link (After m) (Head n) = inr (λ h. cc)

pub leads_to : (o : Option ℕ) (k : ℕ) → (o ≡ Some k) ⊎ (o ≢ Some k)
leads_to None k = inr (λ h. cc)
leads_to (Some j) k = elim (cases_eq j k) [ inl e ↦ inl (ap (λ (n : ℕ). Some n) e) | inr e ↦ inr (λ h. e (cc)) ]

-- a link leads to a key just where the key says so
abbrev pub Agree : (Link → Option ℕ) → (ℕ → Option Link) → Type 0
Agree link from = (w : Link) (k : ℕ) → (link w ≡ Some k) ↔ (from k ≡ Some w)

-- the first link leads to a new key, and from there on to where it led before
pub record Comes (link link' : Link → Option ℕ) (from from' : ℕ → Option Link) (first : Link) (new : ℕ) : Type 0 where
  pub vacant : from new ≡ None
  pub vacant_link : link (After new) ≡ None
  pub first' : link' first ≡ Some new
  pub after : link' (After new) ≡ link first
  pub other_links : (w : Link) → w ≢ first → w ≢ After new → link' w ≡ link w
  pub new_from : from' new ≡ Some first
  pub next_from : (k : ℕ) → link first ≡ Some k → from' k ≡ Some (After new)
  pub other_from : (k : ℕ) → k ≢ new → link first ≢ Some k → from' k ≡ from k

-- what led to a key leads to where that led, and the key is gone
pub record Goes (link link' : Link → Option ℕ) (from from' : ℕ → Option Link) (before : Link) (gone : ℕ) : Type 0 where
  pub was : from gone ≡ Some before
  pub after : link' (After gone) ≡ None
  pub before' : before ≢ After gone → link' before ≡ link (After gone)
  pub other_links : (w : Link) → w ≢ before → w ≢ After gone → link' w ≡ link w
  pub gone_from : from' gone ≡ None
  pub next_from : (k : ℕ) → k ≢ gone → link (After gone) ≡ Some k → from' k ≡ Some before
  pub other_from : (k : ℕ) → k ≢ gone → link (After gone) ≢ Some k → from' k ≡ from k

module _ (link link' : Link → Option ℕ) (from from' : ℕ → Option Link) (agree : Agree link from) where
  -- one link leads to a key
  one_leads : (v w : Link) (k : ℕ) → link v ≡ Some k → link w ≡ Some k → v ≡ w
  one_leads v w k e f = let a = (agree v k).0 e in let b = (agree w k).0 f in cc

  one_led : (w : Link) (j k : ℕ) → from j ≡ Some w → from k ≡ Some w → j ≡ k
  one_led w j k e f = let a = (agree w j).1 e in let b = (agree w k).1 f in cc

  module _ (first : Link) (new : ℕ) (c : Comes link link' from from' first new) where
    pub comes_agree : Agree link' from'
    comes_agree w k = (forth, back)
      where
        forth : link' w ≡ Some k → from' k ≡ Some w
        forth e = elim (same_link w first) [
          | inl f ↦ (let a = c.first' in let b = c.new_from in cc)
          | inr f ↦ elim (same_link w (After new)) [
            | inl g ↦ (let a = c.after in let b : link first ≡ Some k = cc in let d = c.next_from k b in cc)
            | inr g ↦
                let a : link w ≡ Some k = sym (c.other_links w f g) ∙ e in
                let b = (agree w k).0 a in
                c.other_from k (λ i. let v = c.vacant in cc) (λ i. f (one_leads w first k a i)) ∙ b
          ]
        ]

        back : from' k ≡ Some w → link' w ≡ Some k
        back e = elim (cases_eq k new) [
          | inl f ↦ (let a = c.new_from in let b = c.first' in cc)
          | inr f ↦ elim (leads_to (link first) k) [
            | inl g ↦ (let a = c.next_from k g in let b = c.after in cc)
            | inr g ↦
                let a : from k ≡ Some w = sym (c.other_from k f g) ∙ e in
                let b = (agree w k).1 a in
                c.other_links w (λ i. g (cc)) (λ i. let d = c.vacant_link in cc) ∙ b
          ]
        ]

    -- what follows a link stays
    pub comes_leads : ((k : ℕ) → After k ≢ first) → (w : Link) (keys : List ℕ) → Leads link (link w) keys → Leads link' (link w) keys
    comes_leads head w [] h = h
    comes_leads head w (k ∷ keys) h =
        let other : k ≢ new = λ e. let a = (agree w k).0 h.0 in let b = c.vacant in cc in
        let same : link' (After k) ≡ link (After k) = c.other_links (After k) (head k) (λ i. other (cc)) in
        (h.0, rw same (comes_leads head (After k) keys h.1))

  module _ (before : Link) (gone : ℕ) (g : Goes link link' from from' before gone) where
    pub goes_agree : Agree link' from'
    goes_agree w k = (forth, back)
      where
        leads : link before ≡ Some gone
        leads = (agree before gone).1 g.was

        forth : link' w ≡ Some k → from' k ≡ Some w
        forth e = elim (same_link w (After gone)) [
          | inl f ↦ (let a = g.after in cc)
          | inr f ↦ elim (same_link w before) [
            | inl h ↦
                let a : link (After gone) ≡ Some k = sym (g.before' (λ i. f (h ∙ i))) ∙ (ap link' (sym h) ∙ e) in
                g.next_from k (λ i. let b = (agree (After gone) k).0 a in let d = g.was in f (cc)) a ∙ ap (λ (l : Link). Some l) (sym h)
            | inr h ↦
                let a : link w ≡ Some k = sym (g.other_links w h f) ∙ e in
                let b = (agree w k).0 a in
                g.other_from k (λ i. let d = g.was in h (cc)) (λ i. f (one_leads w (After gone) k a i)) ∙ b
          ]
        ]

        back : from' k ≡ Some w → link' w ≡ Some k
        back e = elim (cases_eq k gone) [
          | inl f ↦ (let a = g.gone_from in cc)
          | inr f ↦ elim (leads_to (link (After gone)) k) [
            | inl h ↦
                let a : before ≡ w = (let b = g.next_from k f h in cc) in
                ap link' (sym a) ∙ (g.before' (λ i. let b = leads in f (cc)) ∙ h)
            | inr h ↦
                let a : from k ≡ Some w = sym (g.other_from k f h) ∙ e in
                let b = (agree w k).1 a in
                g.other_links w (λ i. let d = leads in f (cc)) (λ i. h (cc)) ∙ b
          ]
        ]

    -- what led to the key leads on, and other links stay
    abbrev pub passed : Option ℕ → Option ℕ
    passed None = None
    passed (Some k) = cond (eqb k gone) (link (After gone)) (Some k)

    pub link_passed : (w : Link) → w ≢ After gone → link' w ≡ passed (link w)
    link_passed w h = by_leads (link w) refl
      where
        by_leads : (o : Option ℕ) → link w ≡ o → link' w ≡ passed o
        by_leads None e = g.other_links w (λ i. let a = (agree before gone).1 g.was in cc) h ∙ e
        by_leads (Some k) e = by_test (eqb k gone) refl
          where
            by_test : (t : Bool) → eqb k gone ≡ t → link' w ≡ cond t (link (After gone)) (Some k)
            by_test true f =
                let same : k ≡ gone = grind (arith, nat_tests) in
                let here : w ≡ before = one_leads w before gone (e ∙ ap (λ (n : ℕ). Some n) same) ((agree before gone).1 g.was) in
                ap link' here ∙ g.before' (λ i. h (here ∙ i))
            by_test false f =
                g.other_links w (λ i. let a = (agree before gone).1 g.was in let b : k ≡ gone = cc in let t = eq-eqb k gone b in cc) h ∙ e

    passed_same : passed (link (After gone)) ≡ link (After gone)
    passed_same = by_leads (link (After gone)) refl
      where
        by_leads : (o : Option ℕ) → link (After gone) ≡ o → passed o ≡ o
        by_leads None e = refl
        by_leads (Some k) e = by_test (eqb k gone) e
          where
            by_test : (t : Bool) → link (After gone) ≡ Some k → cond t (link (After gone)) (Some k) ≡ Some k
            by_test true e = e
            by_test false e = refl

    -- a chain without the key
    pub goes_leads : (o : Option ℕ) (keys : List ℕ) → Leads link o keys → Leads link' (passed o) (filter (λ k. not (eqb k gone)) keys)
    goes_leads o [] h = ap passed h
    goes_leads o (k ∷ keys) h = rw h.0 (by_test (eqb k gone) refl (λ p l. goes_leads p keys l))
      where
        by_test : (t : Bool) → eqb k gone ≡ t → ((p : Option ℕ) → Leads link p keys → Leads link' (passed p) (filter (λ j. not (eqb j gone)) keys)) → Leads link' (cond t (link (After gone)) (Some k)) (cond (not t) (k ∷ filter (λ j. not (eqb j gone)) keys) (filter (λ j. not (eqb j gone)) keys))
        by_test true e rest =
            let same : k ≡ gone = grind (arith, nat_tests) in
            rw passed_same at (rest (link (After gone)) (rw same at h.1))
        by_test false e rest =
            let other : After k ≢ After gone = λ i. let a : k ≡ gone = cc in let t = eq-eqb k gone a in cc in
            (refl, rw (link_passed (After k) other) (rest (link (After k)) h.1))
