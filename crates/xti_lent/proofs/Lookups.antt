-- The endpoint under a number, by the place of the number in its list.
use Rattle.std.proofs.Common.{◌≡◌, ℕ, zero, suc, ◌+◌, ◌<◌, Bool, true, false, not, ◌||◌, cond, eqb, ltb, List, [], ◌∷◌, ◌++◌, length, get_or, set, Option, Some, None, refl, sym, ap, ◌∙◌, subst, arith}
use Rattle.std.specs.Prelude.{is_some, option_map, ◌==◌}
use Rattle.std.specs.List.{position, position_or_len, AllByRecursion}
use Rattle.std.proofs.lemmas.Bool.{eq-eqb, eqb-true}
use Rattle.std.proofs.lemmas.Bool.Decides.{nat_tests}
use Rattle.xti_model.specs.declared.profile.Providers.{Providers}
use Rattle.xti_model.specs.World.{places, is_among}
use Rattle.xti_end.specs.Held.{Held}
use Rattle.xti_lent.specs.Lending.{held_in, put_in}
use Rattle.xti_lent.specs.Kept.{Distinct, IsPlace}

abbrev pub index : ℕ → List ℕ → ℕ
index n ms = position_or_len (λ m. eqb m n) ms

pub one-more : (i : ℕ) → 1 + i ≡ suc i
one-more i = omega arith

has-step : (b : Bool) (i l : ℕ) (h : Held) (o : Option Held) → ltb i l ≡ is_some o → ltb (cond (not b) (1 + i) 0) (suc l) ≡ is_some (cond b (Some h) o)
has-step true i l h o k = let t : ltb 0 (suc l) ≡ true = grind (arith, nat_tests) in t
has-step false i l h o k = rw (one-more i) (let t : ltb (suc i) (suc l) ≡ ltb i l = grind (arith, nat_tests) in t ∙ k)

pub has-same : (n : ℕ) (ms : List ℕ) (hs : List Held) → length hs ≡ length ms → ltb (index n ms) (length ms) ≡ is_some (held_in ms hs n)
has-same n [] hs e = refl
has-same n (m ∷ ms) [] e = absurd (omega arith)
has-same n (m ∷ ms) (h ∷ hs) e = has-step (eqb m n) (index n ms) (length ms) h (held_in ms hs n) (has-same n ms hs (omega arith))

at-step : (b : Bool) (i : ℕ) (h d : Held) (hs : List Held) (o : Option Held) → (b ≡ false → o ≡ Some (get_or hs i d)) → cond b (Some h) o ≡ Some (get_or (h ∷ hs) (cond (not b) (1 + i) 0) d)
at-step true i h d hs o k = refl
at-step false i h d hs o k = rw (one-more i) (k refl)

pub within : (b : Bool) (i l : ℕ) → b ≡ false → cond (not b) (1 + i) 0 < suc l → i < l
within true i l e lt = cc
within false i l e lt = omega arith

pub held-at : (n : ℕ) (ms : List ℕ) (hs : List Held) (d : Held) → length hs ≡ length ms → index n ms < length ms → held_in ms hs n ≡ Some (get_or hs (index n ms) d)
held-at n [] hs d e lt = absurd (omega arith)
held-at n (m ∷ ms) [] d e lt = absurd (omega arith)
held-at n (m ∷ ms) (h ∷ hs) d e lt = at-step (eqb m n) (index n ms) h d hs (held_in ms hs n) (λ b. held-at n ms hs d (omega arith) (within (eqb m n) (index n ms) (length ms) b lt))

put-step : (b : Bool) (i : ℕ) (x h : Held) (hs rest : List Held) → (b ≡ false → rest ≡ set hs i h) → cond b (h ∷ hs) (x ∷ rest) ≡ set (x ∷ hs) (cond (not b) (1 + i) 0) h
put-step true i x h hs rest k = refl
put-step false i x h hs rest k = rw (one-more i) (ap (λ (r : List Held). x ∷ r) (k refl))

pub put-at : (n : ℕ) (ms : List ℕ) (hs : List Held) (h : Held) → length hs ≡ length ms → index n ms < length ms → put_in ms hs n h ≡ set hs (index n ms) h
put-at n [] hs h e lt = absurd (omega arith)
put-at n (m ∷ ms) [] h e lt = absurd (omega arith)
put-at n (m ∷ ms) (x ∷ hs) h e lt = put-step (eqb m n) (index n ms) x h hs (put_in ms hs n h) (λ b. put-at n ms hs h (omega arith) (within (eqb m n) (index n ms) (length ms) b lt))

abbrev pub place_among : ℕ → List ℕ → Option ℕ
place_among n ms = position (λ m. m == n) ms

-- where a search for the number ends
pub record Found (n i : ℕ) (ms : List ℕ) (hs : List Held) : Type 0 where
  pub here : (d : Held) → held_in ms hs n ≡ Some (get_or hs i d)
  pub put : (h : Held) → put_in ms hs n h ≡ set hs i h
  pub inside : i < length hs

pub some_index : (b : Bool) (i j : ℕ) → Some i ≡ cond b (Some j) None → (b ≡ true) × (i ≡ j)
some_index true i j e = (refl, cc)
some_index false i j e = cc

pub found : (n i : ℕ) (ms : List ℕ) (hs : List Held) → length hs ≡ length ms → Some i ≡ place_among n ms → Found n i ms hs
found n i ms hs e s =
    let t = some_index (ltb (index n ms) (length ms)) i (index n ms) s in
    let lt : index n ms < length ms = grind (arith, nat_tests) in
    record {
      here = λ d. rw t.1 (held-at n ms hs d e lt);
      put = λ h. rw t.1 (put-at n ms hs h e lt);
      inside = omega (arith, t.1);
    }

some_test : (b : Bool) (j : ℕ) → is_some (cond b (Some j) None) ≡ b
some_test true j = refl
some_test false j = refl

pub has-is : (n : ℕ) (ms : List ℕ) (hs : List Held) → length hs ≡ length ms → is_some (place_among n ms) ≡ is_some (held_in ms hs n)
has-is n ms hs e = some_test (ltb (index n ms) (length ms)) (index n ms) ∙ has-same n ms hs e

-- a number under which nothing is held is none of the numbers
some-step : (b : Bool) (h : Held) (o : Option Held) → cond b (Some h) o ≡ None → (b ≡ false) × (o ≡ None)
some-step true h o e = cc
some-step false h o e = (refl, e)

pub not-held : (n : ℕ) (ms : List ℕ) (hs : List Held) → length hs ≡ length ms → held_in ms hs n ≡ None → is_among ms n ≡ false
not-held n [] hs e k = refl
not-held n (m ∷ ms) [] e k = absurd (omega arith)
not-held n (m ∷ ms) (h ∷ hs) e k =
    let s = some-step (eqb m n) h (held_in ms hs n) k in
    let r = not-held n ms hs (omega arith) s.1 in
    rw (s.0, r) refl

pub or-parts : (a b : Bool) → (a || b) ≡ false → (a ≡ false) × (b ≡ false)
or-parts true b e = cc
or-parts false b e = (refl, e)

among-push : (n m : ℕ) (ms : List ℕ) → is_among ms m ≡ false → eqb n m ≡ false → is_among (ms ++ n ∷ []) m ≡ false
among-push n m [] a e = rw e refl
among-push n m (k ∷ ms) a e =
    let s = or-parts (eqb k m) (is_among ms m) a in
    rw (s.0, among-push n m ms s.1 e) refl

flipped : (n m : ℕ) → eqb n m ≡ false → eqb m n ≡ false
flipped n m e = grind (arith, nat_tests)

pub distinct-push : (n : ℕ) (ms : List ℕ) → is_among ms n ≡ false → Distinct ms → Distinct (ms ++ n ∷ [])
distinct-push n [] a d = (refl, tt)
distinct-push n (m ∷ ms) a d =
    let s = or-parts (eqb m n) (is_among ms n) a in
    (among-push n m ms d.0 (flipped m n s.0), distinct-push n ms s.1 d.1)

pub places-push : (p : Providers) (n : ℕ) (ms : List ℕ) → n < places p → AllByRecursion (IsPlace p) ms → AllByRecursion (IsPlace p) (ms ++ n ∷ [])
places-push p n [] lt a = (lt, tt)
places-push p n (m ∷ ms) lt a = (a.0, places-push p n ms lt a.1)

pub some-map : {A B : Type 0} (f : A → B) (o : Option A) → is_some (option_map f o) ≡ is_some o
some-map f None = refl
some-map f (Some x) = refl

none-of : {A : Type 0} (o : Option A) → is_some o ≡ false → o ≡ None
none-of None e = refl
none-of (Some x) e = cc

pub nowhere : (n : ℕ) (ms : List ℕ) (hs : List Held) → length hs ≡ length ms → None ≡ place_among n ms → None ≡ held_in ms hs n
nowhere n ms hs e s = sym (none-of (held_in ms hs n) (sym (has-is n ms hs e) ∙ sym (ap is_some s)))

or-true : (b : Bool) → (b || true) ≡ true
or-true true = refl
or-true false = refl

-- where no number stands twice, a number that stands at a place is found there
among-at : (ms : List ℕ) (i n d : ℕ) → i < length ms → get_or ms i d ≡ n → is_among ms n ≡ true
among-at [] i n d lt e = absurd (omega arith)
among-at (m ∷ ms) zero n d lt e = rw (eq-eqb m n e) refl
among-at (m ∷ ms) (suc i) n d lt e = rw (among-at ms i n d (omega arith) e) (or-true (eqb m n))

index-at : (ms : List ℕ) (i n d : ℕ) → Distinct ms → i < length ms → get_or ms i d ≡ n → index n ms ≡ i
index-at [] i n d u lt e = absurd (omega arith)
index-at (m ∷ ms) zero n d u lt e = rw (eq-eqb m n e) refl
index-at (m ∷ ms) (suc i) n d u lt e = go (eqb m n) refl (index-at ms i n d u.1 (omega arith) e)
  where
    go : (b : Bool) → eqb m n ≡ b → index n ms ≡ i → cond (not b) (1 + index n ms) 0 ≡ suc i
    go true j k =
        let s : m ≡ n = eqb-true m n j in
        let a : is_among ms n ≡ true = among-at ms i n d (omega arith) e in
        let v : is_among ms m ≡ false = u.0 in
        absurd (let w = subst (λ z. is_among ms z ≡ false) s v in cc)
    go false j k = omega (arith, k)

pub found-at : (ms : List ℕ) (i n d : ℕ) → Distinct ms → i < length ms → get_or ms i d ≡ n → Some i ≡ place_among n ms
found-at ms i n d u lt e =
    let k : index n ms ≡ i = index-at ms i n d u lt e in
    let t : ltb (index n ms) (length ms) ≡ true = grind (arith, nat_tests) in
    rw (t, k) refl
