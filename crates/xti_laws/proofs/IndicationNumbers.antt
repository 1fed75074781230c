-- Numbers of indications: counted, found and taken out.
use Rattle.std.proofs.Common.{ℕ, Bool, true, false, List, [], ◌∷◌, ◌++◌, ◌+◌, ◌≤◌, ◌≡◌, refl, sym, ap, ◌∙◌, cond, eqb, length, Some, None, arith}
use Rattle.std.proofs.lemmas.Bool.{false≢true, eqb-true, eq-eqb}
use Rattle.xti_model.specs.Endpoint.{Indication, Disconnect, has_number, find_number, without_number}
use Rattle.xti_laws.specs.Requests.{indications_with, disconnects_with}
use Rattle.xti_laws.proofs.StepWays.{some-is, none-is}

pub count-append : (n : ℕ) (xs ys : List Indication) → indications_with n (xs ++ ys) ≡ indications_with n xs + indications_with n ys
count-append n [] ys = omega arith
count-append n (i ∷ xs) ys = let h : indications_with n (xs ++ ys) ≡ indications_with n xs + indications_with n ys = count-append n xs ys in omega arith

pub cut-append : (n : ℕ) (xs ys : List Disconnect) → disconnects_with n (xs ++ ys) ≡ disconnects_with n xs + disconnects_with n ys
cut-append n [] ys = omega arith
cut-append n (i ∷ xs) ys = let h : disconnects_with n (xs ++ ys) ≡ disconnects_with n xs + disconnects_with n ys = cut-append n xs ys in omega arith

-- the first of a list, counted
pub count-cons : (n : ℕ) (i : Indication) (b : Bool) → has_number n i ≡ b → (xs : List Indication) → indications_with n (i ∷ xs) ≡ cond b 1 0 + indications_with n xs
count-cons n i b h xs = ap (λ z. cond z 1 0 + indications_with n xs) h

pub find-none : (n : ℕ) (xs : List Indication) → indications_with n xs ≡ 0 → find_number n xs ≡ None
find-none n [] h = refl
find-none n (i ∷ xs) h = go (has_number n i) h (find-none n xs)
  where
    go : (b : Bool) → cond b 1 0 + indications_with n xs ≡ 0 → (indications_with n xs ≡ 0 → find_number n xs ≡ None) → cond b (Some i) (find_number n xs) ≡ None
    go true h k = absurd (omega arith)
    go false h k = k (omega arith)

pub find-some : (n : ℕ) (xs : List Indication) (i : Indication) → find_number n xs ≡ Some i → (1 ≤ indications_with n xs) × (i.number ≡ n)
find-some n [] i h = absurd (none-is i h)
find-some n (x ∷ xs) i h = go (has_number n x) refl h (find-some n xs i)
  where
    go : (b : Bool) → has_number n x ≡ b → cond b (Some x) (find_number n xs) ≡ Some i → (find_number n xs ≡ Some i → (1 ≤ indications_with n xs) × (i.number ≡ n)) → (1 ≤ cond b 1 0 + indications_with n xs) × (i.number ≡ n)
    go true j h k = (omega arith, ap (λ z. z.number) (sym (some-is x i h)) ∙ eqb-true x.number n j)
    go false j h k = let q : (1 ≤ indications_with n xs) × (i.number ≡ n) = k h in let l : 1 ≤ indications_with n xs = q.0 in (omega arith, q.1)

pub none-count : (n : ℕ) (xs : List Indication) → find_number n xs ≡ None → indications_with n xs ≡ 0
none-count n [] h = refl
none-count n (i ∷ xs) h = go (has_number n i) h (none-count n xs)
  where
    go : (b : Bool) → cond b (Some i) (find_number n xs) ≡ None → (find_number n xs ≡ None → indications_with n xs ≡ 0) → cond b 1 0 + indications_with n xs ≡ 0
    go true h k = absurd (none-is i (sym h))
    go false h k = let q : indications_with n xs ≡ 0 = k h in omega arith

pub find-left : (n : ℕ) (xs ys : List Indication) (i : Indication) → find_number n xs ≡ Some i → find_number n (xs ++ ys) ≡ Some i
find-left n [] ys i h = absurd (none-is i h)
find-left n (x ∷ xs) ys i h = go (has_number n x) h (find-left n xs ys i)
  where
    go : (b : Bool) → cond b (Some x) (find_number n xs) ≡ Some i → (find_number n xs ≡ Some i → find_number n (xs ++ ys) ≡ Some i) → cond b (Some x) (find_number n (xs ++ ys)) ≡ Some i
    go true h k = h
    go false h k = k h

pub find-right : (n : ℕ) (xs ys : List Indication) → find_number n xs ≡ None → find_number n (xs ++ ys) ≡ find_number n ys
find-right n [] ys h = refl
find-right n (x ∷ xs) ys h = go (has_number n x) h (find-right n xs ys)
  where
    go : (b : Bool) → cond b (Some x) (find_number n xs) ≡ None → (find_number n xs ≡ None → find_number n (xs ++ ys) ≡ find_number n ys) → cond b (Some x) (find_number n (xs ++ ys)) ≡ find_number n ys
    go true h k = absurd (none-is x (sym h))
    go false h k = k h

pub differ : (x n m : ℕ) → eqb x n ≡ true → eqb m n ≡ false → eqb x m ≡ false
differ x n m h k = go (eqb x m) refl
  where
    go : (b : Bool) → eqb x m ≡ b → b ≡ false
    go false j = refl
    go true j = absurd (false≢true (sym k ∙ eq-eqb m n (sym (eqb-true x m j) ∙ eqb-true x n h)))

-- taking out one with a number leaves those with another
pub find-without : (m n : ℕ) → eqb m n ≡ false → (xs : List Indication) → find_number m (without_number n xs) ≡ find_number m xs
find-without m n d [] = refl
find-without m n d (x ∷ xs) = go (eqb x.number n) refl (find-without m n d xs)
  where
    go : (b : Bool) → eqb x.number n ≡ b → find_number m (without_number n xs) ≡ find_number m xs → find_number m (cond b xs (x ∷ without_number n xs)) ≡ find_number m (x ∷ xs)
    go true j h = sym (ap (λ z. cond z (Some x) (find_number m xs)) (differ x.number n m j d))
    go false j h = ap (cond (eqb x.number m) (Some x)) h

pub count-without : (m n : ℕ) → eqb m n ≡ false → (xs : List Indication) → indications_with m (without_number n xs) ≡ indications_with m xs
count-without m n d [] = refl
count-without m n d (x ∷ xs) = go (eqb x.number n) refl (count-without m n d xs)
  where
    go : (b : Bool) → eqb x.number n ≡ b → indications_with m (without_number n xs) ≡ indications_with m xs → indications_with m (cond b xs (x ∷ without_number n xs)) ≡ indications_with m (x ∷ xs)
    go true j h = let q : indications_with m (x ∷ xs) ≡ 0 + indications_with m xs = count-cons m x false (differ x.number n m j d) xs in omega arith
    go false j h = ap (λ z. cond (eqb x.number m) 1 0 + z) h

pub count-taken : (n : ℕ) (xs : List Indication) (i : Indication) → find_number n xs ≡ Some i → indications_with n (without_number n xs) + 1 ≡ indications_with n xs
count-taken n [] i h = absurd (none-is i h)
count-taken n (x ∷ xs) i h = go (eqb x.number n) refl h (count-taken n xs i)
  where
    go : (b : Bool) → eqb x.number n ≡ b → cond b (Some x) (find_number n xs) ≡ Some i → (find_number n xs ≡ Some i → indications_with n (without_number n xs) + 1 ≡ indications_with n xs) → indications_with n (cond b xs (x ∷ without_number n xs)) + 1 ≡ indications_with n (x ∷ xs)
    go true j h k = let q : indications_with n (x ∷ xs) ≡ 1 + indications_with n xs = count-cons n x true j xs in omega arith
    go false j h k = let a : indications_with n (x ∷ xs) ≡ 0 + indications_with n xs = count-cons n x false j xs in let b : indications_with n (x ∷ without_number n xs) ≡ 0 + indications_with n (without_number n xs) = count-cons n x false j (without_number n xs) in let q : indications_with n (without_number n xs) + 1 ≡ indications_with n xs = k h in omega arith

pub length-taken : (n : ℕ) (xs : List Indication) (i : Indication) → find_number n xs ≡ Some i → length (without_number n xs) + 1 ≡ length xs
length-taken n [] i h = absurd (none-is i h)
length-taken n (x ∷ xs) i h = go (eqb x.number n) h (length-taken n xs i)
  where
    go : (b : Bool) → cond b (Some x) (find_number n xs) ≡ Some i → (find_number n xs ≡ Some i → length (without_number n xs) + 1 ≡ length xs) → length (cond b xs (x ∷ without_number n xs)) + 1 ≡ length (x ∷ xs)
    go true h k = omega arith
    go false h k = let q : length (without_number n xs) + 1 ≡ length xs = k h in omega arith

pub count-smaller : (m n : ℕ) (xs : List Indication) → indications_with m (without_number n xs) ≤ indications_with m xs
count-smaller m n [] = omega arith
count-smaller m n (x ∷ xs) = go (eqb x.number n) (count-smaller m n xs)
  where
    go : (b : Bool) → indications_with m (without_number n xs) ≤ indications_with m xs → indications_with m (cond b xs (x ∷ without_number n xs)) ≤ indications_with m (x ∷ xs)
    go true h = omega arith
    go false h = omega arith

-- no number is found in two lists that have each number at most once together
pub found-once : (n m : ℕ) (xs ys : List Indication) (i j : Indication) → indications_with n xs + indications_with n ys ≤ 1 → find_number n xs ≡ Some i → find_number m ys ≡ Some j → eqb m n ≡ false
found-once n m xs ys i j u p f = go (eqb m n) refl
  where
    go : (b : Bool) → eqb m n ≡ b → b ≡ false
    go false q = refl
    go true q =
        let a : 1 ≤ indications_with n ys = (find-some n ys j (ap (λ z. find_number z ys) (sym (eqb-true m n q)) ∙ f)).0 in
        let b : 1 ≤ indications_with n xs = (find-some n xs i p).0 in
        absurd (omega arith)
