-- Cells that are lent and taken back, by their numbers.
use Rattle.std.proofs.Common.{◌≡◌, ◌≢◌, ℕ, zero, suc, ◌+◌, ◌<◌, ◌≤◌, Bool, true, false, cond, eqb, List, [], ◌∷◌, ◌++◌, length, map, Option, Some, None, refl, sym, ap, ◌∙◌, subst, arith, length-append, ◌⊎◌, inl, inr}
use Rattle.std.specs.Prelude.{Box, is_some, option_map}
use Rattle.std.specs.declared.alloc.Global.{Global}
use Rattle.std.specs.List.{AllByRecursion}
use Rattle.std.proofs.lemmas.Bool.{eq-eqb, ne_eqb, eqb-true}
use Rattle.xti_model.specs.declared.profile.Providers.{Providers}
use Rattle.xti_model.specs.Profile.{valid}
use Rattle.xti_model.specs.World.{Cell, switch_cell, is_among, places, switch_number}
use Rattle.xti_registry.specs.Known.{Known}
use Rattle.xti_end.specs.Held.{Held, cell}
use Rattle.xti_lent.specs.Lending.{Lending, held_in, held_at, cell_lent, is_lent, numbers_without, held_without, without_place, lending}
use Rattle.xti_lent.specs.Kept.{Distinct, IsPlace}
use Rattle.xti_lent.specs.Fit.{place_of_held, SameCells}
use Rattle.xti_lent.proofs.Lookups.{not-held, distinct-push, places-push, or-parts}
use Rattle.xti_lent.proofs.Lendings.{cell-is, lent-switch}
use Rattle.xti_lent.proofs.Named.{all-among}
use Rattle.xti_lent.proofs.Places.{not-switch, place-cell, switch-cell}
use Rattle.xti_lent.proofs.Open.{own-place}
use Rattle.xti_lent.proofs.Removals.{distinct-less, places-less, paired-less}
use Rattle.xti_core.specs.Standing.{IsLoan}
use Rattle.xti_core.proofs.Fitting.{held-among}
use Rattle.xti_gather.specs.declared.cell.Cell.TheVariants as rust
use Rattle.xti_gather.specs.Cells.{StandsFor}

none_some : {A : Type 0} (m : A) → None ≡ Some m → ⊥
none_some m e = absurd (cc)

-- a lent endpoint has a place
pub held-place : (l : Lending) (n : ℕ) (h : Held) → IsLoan l → held_at l n ≡ Some h → n < places l.providers
held-place l n h loan e = all-among (IsPlace l.providers) l.numbers n loan.kept.places (held-among l.numbers l.held n h e)

-- where a lent cell is: the switch's table, or an endpoint
pub data Where (l : Lending) (n : ℕ) (m : Cell) : Type 0 where
  table : (k : Known) → n ≡ switch_number l.providers → l.registry ≡ Some k → m ≡ switch_cell k.switch → Where l n m
  endpoint : (h : Held) → held_at l n ≡ Some h → m ≡ cell h → Where l n m

pub where-lent : (l : Lending) (n : ℕ) (m : Cell) → cell_lent l n ≡ Some m → Where l n m
where-lent l n m e = go (eqb n (switch_number l.providers)) refl l.registry refl (held_at l n) refl e
  where
    go : (b : Bool) → eqb n (switch_number l.providers) ≡ b → (r : Option Known) → l.registry ≡ r → (o : Option Held) → held_at l n ≡ o → cond b (option_map (λ (k : Known). switch_cell k.switch) r) (option_map cell o) ≡ Some m → Where l n m
    go true i None j o k f = absurd (none_some m f)
    go true i (Some t) j o k f = table t (eqb-true n (switch_number l.providers) i) j (cc)
    go false i r j None k f = absurd (none_some m f)
    go false i r j (Some h) k f = endpoint h k (cc)

-- what is lent has the number of a cell
pub lent-cell : (l : Lending) (n : ℕ) (m : Cell) → IsLoan l → cell_lent l n ≡ Some m → n < places l.providers + 1
lent-cell l n m loan e = go (where-lent l n m e)
  where
    go : Where l n m → n < places l.providers + 1
    go (table k i j f) = subst (λ z. z < places l.providers + 1) (sym i) (switch-cell l.providers)
    go (endpoint h j f) = place-cell l.providers n (held-place l n h loan j)

-- a number that is lent has a cell there
pub there : (l : Lending) (n : ℕ) → is_lent l n ≡ true → (m : Cell) × (cell_lent l n ≡ Some m)
there l n e = go (cell_lent l n) refl e
  where
    go : (o : Option Cell) → cell_lent l n ≡ o → is_some o ≡ true → (m : Cell) × (cell_lent l n ≡ Some m)
    go None i j = absurd (cc)
    go (Some m) i j = (m, i)

pub lent-number : (l : Lending) (n : ℕ) → IsLoan l → is_lent l n ≡ true → n < places l.providers + 1
lent-number l n loan e = let t = there l n e in lent-cell l n t.0 loan t.1

-- an endpoint is lent under each of the numbers
pub place-lent : (l : Lending) (n : ℕ) → IsLoan l → is_among l.numbers n ≡ true → is_lent l n ≡ true
place-lent l n loan e = go (held_at l n) refl
  where
    go : (o : Option Held) → held_at l n ≡ o → is_lent l n ≡ true
    go None i = absurd (let f = not-held n l.numbers l.held loan.kept.paired i in cc)
    go (Some h) i = ap is_some (cell-is l n h (held-place l n h loan i) i)

-- what is lent is the switch's table, or one of the numbers
pub lent-either : (l : Lending) (n : ℕ) → is_lent l n ≡ true → (n ≡ switch_number l.providers) ⊎ (is_among l.numbers n ≡ true)
lent-either l n e = let t = there l n e in go t.0 (where-lent l n t.0 t.1)
  where
    go : (m : Cell) → Where l n m → (n ≡ switch_number l.providers) ⊎ (is_among l.numbers n ≡ true)
    go m (table k i j f) = inl i
    go m (endpoint h j f) = inr (held-among l.numbers l.held n h j)

-- a place under which nothing is lent
pub held-none : (l : Lending) (n : ℕ) → n < places l.providers → cell_lent l n ≡ None → held_at l n ≡ None
held-none l n lt e = go (held_at l n) refl (rw (not-switch l.providers n lt) at e)
  where
    go : (o : Option Held) → held_at l n ≡ o → option_map cell (held_at l n) ≡ None → held_at l n ≡ None
    go None i j = i
    go (Some h) i j = absurd (none_some (cell h) (sym j ∙ ap (option_map cell) i))

pub registry-none : (l : Lending) → cell_lent l (switch_number l.providers) ≡ None → l.registry ≡ None
registry-none l e = go l.registry refl
  where
    go : (o : Option Known) → l.registry ≡ o → l.registry ≡ None
    go None i = i
    go (Some k) i = absurd (none_some (switch_cell k.switch) (sym e ∙ (lent-switch l ∙ ap (option_map (λ (k : Known). switch_cell k.switch)) i)))

-- At most as many endpoints are lent as there are places.
abbrev Below : ℕ → List ℕ → Type 0
Below b ms = AllByRecursion (λ m. m < b) ms

absent-below : (b : ℕ) (ms : List ℕ) → Below (suc b) ms → is_among ms b ≡ false → Below b ms
absent-below b [] a n = tt
absent-below b (m ∷ ms) a n =
    let s = or-parts (eqb m b) (is_among ms b) n in
    let ne : m ≢ b = λ e. (let t = eq-eqb m b e in let u = s.0 in absurd (cc)) in
    (let lt = a.0 in omega (arith, lt, ne), absent-below b ms a.1 s.1)

less-below : (b n : ℕ) (ms : List ℕ) → Below b ms → Below b (numbers_without ms n)
less-below b n [] a = tt
less-below b n (m ∷ ms) a = go (eqb m n) (less-below b n ms a.1)
  where
    go : (c : Bool) → Below b (numbers_without ms n) → Below b (cond c ms (m ∷ numbers_without ms n))
    go true i = a.1
    go false i = (a.0, i)

less-gone : (n : ℕ) (ms : List ℕ) → Distinct ms → is_among (numbers_without ms n) n ≡ false
less-gone n [] d = refl
less-gone n (m ∷ ms) d = go (eqb m n) refl (less-gone n ms d.1)
  where
    go : (c : Bool) → eqb m n ≡ c → is_among (numbers_without ms n) n ≡ false → is_among (cond c ms (m ∷ numbers_without ms n)) n ≡ false
    go true e i = subst (λ z. is_among ms z ≡ false) (eqb-true m n e) d.0
    go false e i = rw (e, i) refl

one-less : (n : ℕ) (ms : List ℕ) → length ms ≤ length (numbers_without ms n) + 1
one-less n [] = omega arith
one-less n (m ∷ ms) = go (eqb m n) (one-less n ms)
  where
    go : (c : Bool) → length ms ≤ length (numbers_without ms n) + 1 → suc (length ms) ≤ length (cond c ms (m ∷ numbers_without ms n)) + 1
    go true i = omega arith
    go false i = omega (arith, i)

few : (b : ℕ) (ms : List ℕ) → Distinct ms → Below b ms → length ms ≤ b
few zero [] d a = omega arith
few zero (m ∷ ms) d a = absurd (let lt = a.0 in omega (arith, lt))
few (suc b) ms d a =
    let i = few b (numbers_without ms b) (distinct-less b ms d) (absent-below b (numbers_without ms b) (less-below (suc b) b ms a) (less-gone b ms d)) in
    omega (arith, i, one-less b ms)

-- there is room for one more
pub has-room : (l : Lending) (n : ℕ) → IsLoan l → n < places l.providers → held_at l n ≡ None → length l.numbers < places l.providers
has-room l n loan lt e =
    let a = not-held n l.numbers l.held loan.kept.paired e in
    let f = few (places l.providers) (n ∷ l.numbers) (a, loan.kept.distinct) (lt, loan.kept.places) in
    omega (arith, f)

-- An endpoint is lent.
push-here : (n : ℕ) (ms : List ℕ) (hs : List Held) (h : Held) → length hs ≡ length ms → held_in ms hs n ≡ None → held_in (ms ++ n ∷ []) (hs ++ h ∷ []) n ≡ Some h
push-here n [] [] h e i = rw (eq-eqb n n refl) refl
push-here n [] (x ∷ hs) h e i = absurd (omega arith)
push-here n (m ∷ ms) [] h e i = absurd (omega arith)
push-here n (m ∷ ms) (x ∷ hs) h e i = go (eqb m n) i (push-here n ms hs h (omega arith))
  where
    go : (b : Bool) → cond b (Some x) (held_in ms hs n) ≡ None → (held_in ms hs n ≡ None → held_in (ms ++ n ∷ []) (hs ++ h ∷ []) n ≡ Some h) → cond b (Some x) (held_in (ms ++ n ∷ []) (hs ++ h ∷ []) n) ≡ Some h
    go true j k = absurd (none_some x (sym j))
    go false j k = k j

push-other : (n k : ℕ) (ms : List ℕ) (hs : List Held) (h : Held) → length hs ≡ length ms → eqb n k ≡ false → held_in (ms ++ n ∷ []) (hs ++ h ∷ []) k ≡ held_in ms hs k
push-other n k [] [] h e i = rw i refl
push-other n k [] (x ∷ hs) h e i = absurd (omega arith)
push-other n k (m ∷ ms) [] h e i = absurd (omega arith)
push-other n k (m ∷ ms) (x ∷ hs) h e i = ap (λ (o : Option Held). cond (eqb m k) (Some x) o) (push-other n k ms hs h (omega arith) i)

map-push : (hs : List Held) (h : Held) → map place_of_held (hs ++ h ∷ []) ≡ map place_of_held hs ++ h.place ∷ []
map-push [] h = refl
map-push (x ∷ hs) h = ap (λ z. x.place ∷ z) (map-push hs h)

pub push-loan : (l : Lending) (n : ℕ) (h : Held) → IsLoan l → n < places l.providers → h.place ≡ n → held_at l n ≡ None → IsLoan (lending l n h)
push-loan l n h loan lt own e = record {
  kept = record {
    valid_providers = loan.kept.valid_providers;
    places = places-push l.providers n l.numbers lt loan.kept.places;
    distinct = distinct-push n l.numbers (not-held n l.numbers l.held loan.kept.paired e) loan.kept.distinct;
    paired = let a = length-append l.held (h ∷ []) in let b = length-append l.numbers (n ∷ []) in let c = loan.kept.paired in omega (arith, a, b, c);
  };
  own = map-push l.held h ∙ (λ i. loan.own i ++ own i ∷ []);
}

pub push-cell : (l : Lending) (n : ℕ) (h : Held) → IsLoan l → n < places l.providers → held_at l n ≡ None → cell_lent (lending l n h) n ≡ Some (cell h)
push-cell l n h loan lt e = cell-is (lending l n h) n h lt (push-here n l.numbers l.held h loan.kept.paired e)

pub push-others : (l : Lending) (n : ℕ) (h : Held) → IsLoan l → (k : ℕ) → k ≢ n → cell_lent (lending l n h) k ≡ cell_lent l k
push-others l n h loan k ne =
    ap (λ (o : Option Held). cond (eqb k (switch_number l.providers)) (option_map (λ (k : Known). switch_cell k.switch) l.registry) (option_map cell o)) (push-other n k l.numbers l.held h loan.kept.paired (ne_eqb n k (λ e. ne (sym e))))

-- An endpoint is taken back.
pub back-loan : (l : Lending) (n : ℕ) → IsLoan l → IsLoan (without_place l n)
back-loan l n loan = record {
  kept = record {
    valid_providers = loan.kept.valid_providers;
    places = places-less l.providers n l.numbers loan.kept.places;
    distinct = distinct-less n l.numbers loan.kept.distinct;
    paired = paired-less n l.numbers l.held loan.kept.paired;
  };
  own = own-left n l.numbers l.held loan.own;
}
  where
    own-left : (n : ℕ) (ms : List ℕ) (hs : List Held) → map place_of_held hs ≡ ms → map place_of_held (held_without ms hs n) ≡ numbers_without ms n
    own-left n [] [] e = refl
    own-left n [] (h ∷ hs) e = cc
    own-left n (m ∷ ms) [] e = cc
    own-left n (m ∷ ms) (h ∷ hs) e = go (eqb m n) (ap (tail_of) e) (ap (head_or m) e) (own-left n ms hs)
      where
        tail_of : List ℕ → List ℕ
        tail_of [] = []
        tail_of (x ∷ xs) = xs

        head_or : ℕ → List ℕ → ℕ
        head_or d [] = d
        head_or d (x ∷ xs) = x

        go : (b : Bool) → map place_of_held hs ≡ ms → h.place ≡ m → (map place_of_held hs ≡ ms → map place_of_held (held_without ms hs n) ≡ numbers_without ms n) → map place_of_held (cond b hs (h ∷ held_without ms hs n)) ≡ cond b ms (m ∷ numbers_without ms n)
        go true t p k = t
        go false t p k = λ i. p i ∷ k t i

gone-here : (n : ℕ) (ms : List ℕ) (hs : List Held) → Distinct ms → held_in (numbers_without ms n) (held_without ms hs n) n ≡ None
gone-here n [] hs d = refl
gone-here n (m ∷ ms) [] d = go (eqb m n)
  where
    go : (b : Bool) → held_in (cond b ms (m ∷ numbers_without ms n)) [] n ≡ None
    go true = no-held ms
      where
        no-held : (ms : List ℕ) → held_in ms [] n ≡ None
        no-held [] = refl
        no-held (m ∷ ms) = refl
    go false = refl
gone-here n (m ∷ ms) (h ∷ hs) d = go (eqb m n) refl (gone-here n ms hs d.1)
  where
    not-there : (ms : List ℕ) (hs : List Held) → is_among ms n ≡ false → held_in ms hs n ≡ None
    not-there [] hs a = refl
    not-there (m ∷ ms) [] a = refl
    not-there (m ∷ ms) (h ∷ hs) a = let s = or-parts (eqb m n) (is_among ms n) a in rw (s.0, not-there ms hs s.1) refl

    go : (b : Bool) → eqb m n ≡ b → held_in (numbers_without ms n) (held_without ms hs n) n ≡ None → held_in (cond b ms (m ∷ numbers_without ms n)) (cond b hs (h ∷ held_without ms hs n)) n ≡ None
    go true i k = not-there ms hs (subst (λ z. is_among ms z ≡ false) (eqb-true m n i) d.0)
    go false i k = rw (i, k) refl

gone-other : (n k : ℕ) (ms : List ℕ) (hs : List Held) → eqb n k ≡ false → held_in (numbers_without ms n) (held_without ms hs n) k ≡ held_in ms hs k
gone-other n k [] hs e = refl
gone-other n k (m ∷ ms) [] e = go (eqb m n)
  where
    no-held : (ms : List ℕ) → held_in ms [] k ≡ None
    no-held [] = refl
    no-held (m ∷ ms) = refl

    go : (b : Bool) → held_in (cond b ms (m ∷ numbers_without ms n)) [] k ≡ None
    go true = no-held ms
    go false = refl
gone-other n k (m ∷ ms) (h ∷ hs) e = go (eqb m n) refl (gone-other n k ms hs e)
  where
    go : (b : Bool) → eqb m n ≡ b → held_in (numbers_without ms n) (held_without ms hs n) k ≡ held_in ms hs k → held_in (cond b ms (m ∷ numbers_without ms n)) (cond b hs (h ∷ held_without ms hs n)) k ≡ cond (eqb m k) (Some h) (held_in ms hs k)
    go true i j = let f : eqb m k ≡ false = ap (λ z. eqb z k) (eqb-true m n i) ∙ e in rw f refl
    go false i j = ap (λ (o : Option Held). cond (eqb m k) (Some h) o) j

pub back-here : (l : Lending) (n : ℕ) → IsLoan l → n ≢ switch_number l.providers → cell_lent (without_place l n) n ≡ None
back-here l n loan ne = rw (ne_eqb n (switch_number l.providers) ne, gone-here n l.numbers l.held loan.kept.distinct) refl

pub back-others : (l : Lending) (n k : ℕ) → k ≢ n → cell_lent (without_place l n) k ≡ cell_lent l k
back-others l n k ne =
    ap (λ (o : Option Held). cond (eqb k (switch_number l.providers)) (option_map (λ (k : Known). switch_cell k.switch) l.registry) (option_map cell o)) (gone-other n k l.numbers l.held (ne_eqb n k (λ e. ne (sym e))))

pub back-cell : (l : Lending) (n : ℕ) (b : Box Held Global) → IsLoan l → Some b.value ≡ held_at l n → (cell_lent l n ≡ Some (cell b.value)) × StandsFor l.providers (rust.End b) ((n, cell b.value) ∷ [])
back-cell l n b loan e =
    let h : Held = b.value in
    let lt = held-place l n h loan (sym e) in
    let own : h.place ≡ n = own-place l.numbers l.held n h loan.own (sym e) in
    (cell-is l n h lt (sym e), (subst (λ z. z < places l.providers) (sym own) lt, (λ i. (sym own i, cell h) ∷ [])))

pub switch-back : (l : Lending) (b : Box Known Global) → Some b.value ≡ l.registry → (cell_lent l (switch_number l.providers) ≡ Some (switch_cell b.value.switch)) × StandsFor l.providers (rust.Switch b) ((switch_number l.providers, switch_cell b.value.switch) ∷ [])
switch-back l b e = (lent-switch l ∙ ap (option_map (λ (k : Known). switch_cell k.switch)) (sym e), refl)

-- one pair of a list of one
abbrev number_in : ℕ → List (ℕ × Cell) → ℕ
number_in d [] = d
number_in d (x ∷ xs) = x.0

abbrev cell_in : Cell → List (ℕ × Cell) → Cell
cell_in d [] = d
cell_in d (x ∷ xs) = x.1

pub end-is : (p : Providers) (b : Box Held Global) (n : ℕ) (m : Cell) → StandsFor p (rust.End b) ((n, m) ∷ []) → (n < places p) × (b.value.place ≡ n) × (m ≡ cell b.value)
end-is p b n m s = let e : n ≡ b.value.place = ap (number_in 0) s.1 in (subst (λ z. z < places p) (sym e) s.0, sym e, ap (cell_in m) s.1)

-- The same cells are lent after a step.
length-places : (hs : List Held) → length (map place_of_held hs) ≡ length hs
length-places [] = refl
length-places (h ∷ hs) = ap (λ k. suc k) (length-places hs)

pub loan-after : (l m : Lending) → IsLoan l → SameCells l m → IsLoan m
loan-after l m loan same =
    let n : map place_of_held m.held ≡ m.numbers = same.places ∙ (loan.own ∙ sym same.numbers) in
    record {
      kept = record {
        valid_providers = ap valid same.providers ∙ loan.kept.valid_providers;
        places = subst (λ (p : Providers). AllByRecursion (IsPlace p) m.numbers) (sym same.providers) (subst (λ ns. AllByRecursion (IsPlace l.providers) ns) (sym same.numbers) loan.kept.places);
        distinct = subst Distinct (sym same.numbers) loan.kept.distinct;
        paired = sym (length-places m.held) ∙ ap length n;
      };
      own = n;
    }
