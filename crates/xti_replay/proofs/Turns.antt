-- The order of turns, with finished workers left out.
use Rattle.std.proofs.Common.{◌≡◌, ℕ, zero, suc, ◌+◌, ◌-◌, ◌<◌, ◌⊎◌, inl, inr, Bool, true, false, List, [], ◌∷◌, ◌++◌, Option, Some, None, refl, sym, ap, ◌∙◌, subst, arith}
use Rattle.std.specs.Prelude.{if◌then◌else◌}
use Rattle.std.specs.List.{AllByRecursion}
use Rattle.std.proofs.lemmas.List.{append_assoc}
use Rattle.xti_base.specs.declared.limits.TheConstants.{WORKERS, LAST_WORKER}
use Rattle.xti_model.specs.declared.entry.Entry.{Entry}
use Rattle.xti_model.specs.declared.script.Line.{Line}
use Rattle.xti_model.specs.Robin.{is_through, numbers, order_after, Turn, first_turn}
use Rattle.xti_replay.specs.Turns.{LeavesOutFinished}

-- Parts of a list of numbers.

pub split-append : (xs ys before after : List ℕ) (k : ℕ) → xs ++ ys ≡ before ++ k ∷ after
    → ((rest : List ℕ) × (xs ≡ before ++ k ∷ rest) × (after ≡ rest ++ ys)) ⊎ ((rest : List ℕ) × (before ≡ xs ++ rest) × (ys ≡ rest ++ k ∷ after))
split-append [] ys before after k e = inr (before, refl, e)
split-append (x ∷ xs) ys [] after k e =
    let head : x ≡ k = ap (first_or_0 x) e in
    let tail : xs ++ ys ≡ after = ap rest_of e in
    inl (xs, ap (λ (n : ℕ). n ∷ xs) head, sym tail)
  where
    first_or_0 : ℕ → List ℕ → ℕ
    first_or_0 d [] = d
    first_or_0 d (y ∷ l) = y

    rest_of : List ℕ → List ℕ
    rest_of [] = []
    rest_of (y ∷ l) = l
split-append (x ∷ xs) ys (b ∷ before) after k e = more (split-append xs ys before after k (ap rest_of e))
  where
    first_or_0 : List ℕ → ℕ
    first_or_0 [] = x
    first_or_0 (y ∷ l) = y

    rest_of : List ℕ → List ℕ
    rest_of [] = []
    rest_of (y ∷ l) = l

    head : x ≡ b
    head = ap first_or_0 e

    more : ((rest : List ℕ) × (xs ≡ before ++ k ∷ rest) × (after ≡ rest ++ ys)) ⊎ ((rest : List ℕ) × (before ≡ xs ++ rest) × (ys ≡ rest ++ k ∷ after))
        → ((rest : List ℕ) × (x ∷ xs ≡ b ∷ before ++ k ∷ rest) × (after ≡ rest ++ ys)) ⊎ ((rest : List ℕ) × (b ∷ before ≡ x ∷ xs ++ rest) × (ys ≡ rest ++ k ∷ after))
    more (inl h) = inl (h.0, ap (λ (n : ℕ). n ∷ xs) head ∙ ap (λ (l : List ℕ). b ∷ l) h.1, h.2)
    more (inr h) = inr (h.0, ap (λ (n : ℕ). n ∷ before) (sym head) ∙ ap (λ (l : List ℕ). x ∷ l) h.1, h.2)

-- a number among so many from the first on, and those before and after it
pub record IsAmong (from n : ℕ) (before : List ℕ) (k : ℕ) (after : List ℕ) : Type 0 where
  pub front : ℕ
  pub is : k ≡ from + front
  pub low : front < n
  pub before_it : before ≡ numbers from front
  pub after_it : after ≡ numbers (k + 1) (n - (front + 1))

pub split-numbers : (from n : ℕ) (before after : List ℕ) (k : ℕ) → numbers from n ≡ before ++ k ∷ after → IsAmong from n before k after
split-numbers from zero [] after k e = absurd cc
split-numbers from zero (b ∷ before) after k e = absurd cc
split-numbers from (suc n) [] after k e =
    let head : from ≡ k = ap first_or_0 e in
    let tail : numbers (from + 1) n ≡ after = ap rest_of e in
    record { front = 0; is = omega (arith, head); low = omega arith; before_it = refl; after_it = sym tail ∙ ap (λ (m : ℕ). numbers (m + 1) n) head ∙ ap (numbers (k + 1)) (let m : n ≡ suc n - (0 + 1) = omega arith in m) }
  where
    first_or_0 : List ℕ → ℕ
    first_or_0 [] = from
    first_or_0 (y ∷ l) = y

    rest_of : List ℕ → List ℕ
    rest_of [] = []
    rest_of (y ∷ l) = l
split-numbers from (suc n) (b ∷ before) after k e =
    let head : from ≡ b = ap first_or_0 e in
    let h = split-numbers (from + 1) n before after k (ap rest_of e) in
    record {
      front = suc h.front;
      is = omega (arith, h.is);
      low = omega (arith, h.low);
      before_it = ap (λ (m : ℕ). m ∷ before) (sym head) ∙ ap (λ (l : List ℕ). from ∷ l) h.before_it;
      after_it = h.after_it ∙ ap (numbers (k + 1)) (let m : n - (h.front + 1) ≡ suc n - (suc h.front + 1) = omega arith in m);
    }
  where
    first_or_0 : List ℕ → ℕ
    first_or_0 [] = from
    first_or_0 (y ∷ l) = y

    rest_of : List ℕ → List ℕ
    rest_of [] = []
    rest_of (y ∷ l) = l

numbers-append : (from a b : ℕ) → numbers from (a + b) ≡ numbers from a ++ numbers (from + a) b
numbers-append from zero b =
    let none : 0 + b ≡ b = omega arith in
    let same : from + 0 ≡ from = omega arith in
    ap (numbers from) none ∙ ap (λ (n : ℕ). numbers n b) (sym same)
numbers-append from (suc a) b =
    let same : from + 1 + a ≡ from + suc a = omega arith in
    let more : suc a + b ≡ suc (a + b) = omega arith in
    ap (numbers from) more ∙ ap (λ (l : List ℕ). from ∷ l) (numbers-append (from + 1) a b ∙ ap (λ (n : ℕ). numbers (from + 1) a ++ numbers n b) same)

pub numbers-last : (from a : ℕ) → numbers from (a + 1) ≡ numbers from a ++ (from + a) ∷ []
numbers-last from a = numbers-append from a 1

-- The turns after a worker's turn are those after it, those before it, and then it.
pub order-turned : (last k : ℕ) (before after : List ℕ) → last < WORKERS → order_after last ≡ before ++ k ∷ after → (order_after k ≡ after ++ (before ++ k ∷ [])) × (0 < k) × (k < WORKERS)
order-turned last k before after small e = by (split-append (numbers (last + 1) (LAST_WORKER - last)) (numbers 1 last) before after k e)
  where
    Goal : Type 0
    Goal = (order_after k ≡ after ++ (before ++ k ∷ [])) × (0 < k) × (k < WORKERS)

    high : (rest : List ℕ) → after ≡ rest ++ numbers 1 last → IsAmong (last + 1) (LAST_WORKER - last) before k rest → Goal
    high rest tail h =
        let front : numbers (k + 1) (LAST_WORKER - k) ≡ rest = ap (numbers (k + 1)) (let n : LAST_WORKER - k ≡ LAST_WORKER - last - (h.front + 1) = omega (arith, h.is, h.low) in n) ∙ sym h.after_it in
        let many : k ≡ last + h.front + 1 = omega (arith, h.is) in
        let back : numbers 1 k ≡ (numbers 1 last ++ before) ++ k ∷ [] =
        ap (numbers 1) many ∙ numbers-last 1 (last + h.front)
        ∙ ap (λ (l : List ℕ). l ++ (1 + (last + h.front)) ∷ []) (numbers-append 1 last h.front ∙ ap (λ (n : ℕ). numbers 1 last ++ numbers n h.front) (let n : 1 + last ≡ last + 1 = omega arith in n) ∙ ap (λ (l : List ℕ). numbers 1 last ++ l) (sym h.before_it))
        ∙ ap (λ (n : ℕ). (numbers 1 last ++ before) ++ n ∷ []) (let n : 1 + (last + h.front) ≡ k = omega (arith, h.is) in n) in (
          ap (λ (l : List ℕ). l ++ numbers 1 k) front ∙ ap (λ (l : List ℕ). rest ++ l) (back ∙ append_assoc (numbers 1 last) before (k ∷ [])) ∙ sym (append_assoc rest (numbers 1 last) (before ++ k ∷ [])) ∙ ap (λ (l : List ℕ). l ++ (before ++ k ∷ [])) (sym tail),
          omega (arith, h.is),
          omega (arith, h.is, h.low),
        )

    low : (rest : List ℕ) → before ≡ numbers (last + 1) (LAST_WORKER - last) ++ rest → IsAmong 1 last rest k after → Goal
    low rest head h =
        let many : LAST_WORKER - k ≡ last - (h.front + 1) + (LAST_WORKER - last) = omega (arith, h.is, h.low, small) in
        let at : k + 1 + (last - (h.front + 1)) ≡ last + 1 = omega (arith, h.is, h.low) in
        let front : numbers (k + 1) (LAST_WORKER - k) ≡ after ++ numbers (last + 1) (LAST_WORKER - last) =
        ap (numbers (k + 1)) many ∙ numbers-append (k + 1) (last - (h.front + 1)) (LAST_WORKER - last) ∙ ap (λ (n : ℕ). numbers (k + 1) (last - (h.front + 1)) ++ numbers n (LAST_WORKER - last)) at ∙ ap (λ (l : List ℕ). l ++ numbers (last + 1) (LAST_WORKER - last)) (sym h.after_it) in
        let back : numbers 1 k ≡ rest ++ k ∷ [] =
        ap (numbers 1) (let n : k ≡ h.front + 1 = omega (arith, h.is) in n) ∙ numbers-last 1 h.front ∙ ap (λ (l : List ℕ). l ++ (1 + h.front) ∷ []) (sym h.before_it) ∙ ap (λ (n : ℕ). rest ++ n ∷ []) (sym h.is) in (
          ap (λ (l : List ℕ). l ++ numbers 1 k) front ∙ ap (λ (l : List ℕ). (after ++ numbers (last + 1) (LAST_WORKER - last)) ++ l) back ∙ append_assoc after (numbers (last + 1) (LAST_WORKER - last)) (rest ++ k ∷ [])
              ∙ ap (λ (l : List ℕ). after ++ l) (sym (append_assoc (numbers (last + 1) (LAST_WORKER - last)) rest (k ∷ [])) ∙ ap (λ (l : List ℕ). l ++ k ∷ []) (sym head)),
          omega (arith, h.is),
          omega (arith, h.is, h.low, small),
        )

    by : ((rest : List ℕ) × (numbers (last + 1) (LAST_WORKER - last) ≡ before ++ k ∷ rest) × (after ≡ rest ++ numbers 1 last)) ⊎ ((rest : List ℕ) × (before ≡ numbers (last + 1) (LAST_WORKER - last) ++ rest) × (numbers 1 last ≡ rest ++ k ∷ after)) → Goal
    by (inl h) = high h.0 h.2 (split-numbers (last + 1) (LAST_WORKER - last) before h.0 k h.1)
    by (inr h) = low h.0 h.1 (split-numbers 1 last h.0 after k h.2)

-- Finished workers left out.

pub leaves-append : (lines : List Line) (past : List Entry) (xs ys some more : List ℕ) → LeavesOutFinished lines past xs some → LeavesOutFinished lines past ys more → LeavesOutFinished lines past (xs ++ ys) (some ++ more)
leaves-append lines past [] ys some more h k = subst (λ (l : List ℕ). LeavesOutFinished lines past ys (l ++ more)) (sym h) k
leaves-append lines past (x ∷ xs) ys some more (inl h) k = inl (h.0, leaves-append lines past xs ys some more h.1 k)
leaves-append lines past (x ∷ xs) ys some more (inr h) k = inr (h.0 ++ more, ap (λ (l : List ℕ). l ++ more) h.1, leaves-append lines past xs ys h.0 more h.2 k)

pub leaves-one : (lines : List Line) (past : List Entry) (k : ℕ) → LeavesOutFinished lines past (k ∷ []) (if is_through lines past k then [] else k ∷ [])
leaves-one lines past k = by (is_through lines past k) refl
  where
    by : (b : Bool) → is_through lines past k ≡ b → LeavesOutFinished lines past (k ∷ []) (if b then [] else k ∷ [])
    by true e = inl (e, refl)
    by false e = inr ([], refl, refl)

-- who is finished stays so
pub leaves-later : (lines : List Line) (past later : List Entry) (xs some : List ℕ) → ((k : ℕ) → is_through lines past k ≡ true → is_through lines later k ≡ true) → LeavesOutFinished lines past xs some → LeavesOutFinished lines later xs some
leaves-later lines past later [] some stay h = h
leaves-later lines past later (x ∷ xs) some stay (inl h) = inl (stay x h.0, leaves-later lines past later xs some stay h.1)
leaves-later lines past later (x ∷ xs) some stay (inr h) = inr (h.0, h.1, leaves-later lines past later xs h.0 stay h.2)

-- the first of them stands after some that are finished
pub record IsFirst (lines : List Line) (past : List Entry) (xs : List ℕ) (k : ℕ) (rest : List ℕ) : Type 0 where
  pub before : List ℕ
  pub after : List ℕ
  pub is : xs ≡ before ++ k ∷ after
  pub finished : LeavesOutFinished lines past before []
  pub others : LeavesOutFinished lines past after rest

rest_of : List ℕ → List ℕ
rest_of [] = []
rest_of (y ∷ l) = l

head_of : ℕ → List ℕ → ℕ
head_of d [] = d
head_of d (y ∷ l) = y

pub leaves-first : (lines : List Line) (past : List Entry) (xs : List ℕ) (k : ℕ) (rest : List ℕ) → LeavesOutFinished lines past xs (k ∷ rest) → IsFirst lines past xs k rest
unfolding rest_of head_of
leaves-first lines past [] k rest h = absurd cc
leaves-first lines past (x ∷ xs) k rest (inl h) =
    let f = leaves-first lines past xs k rest h.1 in
    record { before = x ∷ f.before; after = f.after; is = ap (λ (l : List ℕ). x ∷ l) f.is; finished = inl (h.0, f.finished); others = f.others }
leaves-first lines past (x ∷ xs) k rest (inr h) =
    let same : k ≡ x = ap (head_of k) h.1 in
    let tail : rest ≡ h.0 = ap rest_of h.1 in
    record { before = []; after = xs; is = ap (λ (n : ℕ). n ∷ xs) (sym same); finished = refl; others = subst (LeavesOutFinished lines past xs) (sym tail) h.2 }

-- each of them is one of the list
pub leaves-all : (lines : List Line) (past : List Entry) (P : ℕ → Type 0) (xs some : List ℕ) → AllByRecursion P xs → LeavesOutFinished lines past xs some → AllByRecursion P some
leaves-all lines past P [] some all h = subst (AllByRecursion P) (sym h) tt
leaves-all lines past P (x ∷ xs) some all (inl h) = leaves-all lines past P xs some all.1 h.1
leaves-all lines past P (x ∷ xs) some all (inr h) = subst (AllByRecursion P) (sym h.1) (all.0, leaves-all lines past P xs h.0 all.1 h.2)

-- The first turn.

pub first-cons : (f : ℕ → Option Turn) (v : ℕ) (vs : List ℕ) → (f v ≡ None → first_turn f (v ∷ vs) ≡ first_turn f vs) × ((t : Turn) → f v ≡ Some t → first_turn f (v ∷ vs) ≡ Some t)
first-cons f v vs = (λ e. by (f v) e, λ t e. some (f v) t e)
  where
    by : (o : Option Turn) → o ≡ None → ◌≡◌ {A = Option Turn} (elim o [ None ↦ first_turn f vs | Some t ↦ Some t ]) (first_turn f vs)
    by None e = refl
    by (Some t) e = absurd cc

    some : (o : Option Turn) (t : Turn) → o ≡ Some t → ◌≡◌ {A = Option Turn} (elim o [ None ↦ first_turn f vs | Some t ↦ Some t ]) (Some t)
    some None t e = absurd cc
    some (Some u) t e = e

-- finished workers have no turn
pub first-finished : (lines : List Line) (past : List Entry) (f : ℕ → Option Turn) (xs ys : List ℕ) → ((k : ℕ) → is_through lines past k ≡ true → f k ≡ None) → LeavesOutFinished lines past xs [] → first_turn f (xs ++ ys) ≡ first_turn f ys
first-finished lines past f [] ys idle h = refl
first-finished lines past f (x ∷ xs) ys idle (inl h) = (first-cons f x (xs ++ ys)).0 (idle x h.0) ∙ first-finished lines past f xs ys idle h.1
first-finished lines past f (x ∷ xs) ys idle (inr h) = absurd (let no : [] ≡ x ∷ h.0 = h.1 in cc)
