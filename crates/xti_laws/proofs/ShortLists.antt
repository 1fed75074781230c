-- Lists of requests and of symbols: what is shorter, and what stays short.
use Rattle.std.proofs.Common.{ℕ, Bool, true, false, List, [], ◌∷◌, ◌++◌, ◌+◌, ◌≤◌, ◌≡◌, refl, sym, ap, subst, cond, eqb, length, drop, take, Option, Some, None, arith}
use Rattle.std.proofs.lemmas.Bool.{eqb-true, eq-eqb}
use Rattle.std.proofs.lemmas.List.Elements.{All-cons, All-tail, All-head}
use Rattle.std.proofs.lemmas.List.Sums.{count_by-le-length, sum_by-append, sum_by-take-drop}
use Rattle.std.specs.List.{All, count_by}
use Rattle.xti_model.specs.Endpoint.{Indication, Disconnect, has_number, find_number, without_number}
use Rattle.xti_model.specs.Symbols.{is_byte, bytes_waiting, rest, front, ended, piece}
use Rattle.xti_laws.specs.Requests.{indications_with, disconnects_with}
use Rattle.xti_laws.proofs.StepWays.{some-is, none-is}
use Rattle.xti_laws.proofs.IndicationNumbers.{none-count, length-taken, count-taken, count-without}

-- taking one out
pub without-shorter : (n : ℕ) (xs : List Indication) → length (without_number n xs) ≤ length xs
without-shorter n [] = omega arith
without-shorter n (x ∷ xs) = go (has_number n x) (without-shorter n xs)
  where
    go : (b : Bool) → length (without_number n xs) ≤ length xs → length (cond b xs (x ∷ without_number n xs)) ≤ length (x ∷ xs)
    go true h = omega arith
    go false h = omega arith

-- by one at most
pub without-one : (n : ℕ) (xs : List Indication) → length xs ≤ length (without_number n xs) + 1
without-one n [] = omega arith
without-one n (x ∷ xs) = go (has_number n x) (without-one n xs)
  where
    go : (b : Bool) → length xs ≤ length (without_number n xs) + 1 → length (x ∷ xs) ≤ length (cond b xs (x ∷ without_number n xs)) + 1
    go true h = omega arith
    go false h = omega arith

pub All-without : (P : Indication → Type 0) (n : ℕ) (xs : List Indication) → All P xs → All P (without_number n xs)
All-without P n [] a = a
All-without P n (x ∷ xs) a = go (has_number n x) (All-without P n xs (All-tail P x xs a))
  where
    go : (b : Bool) → All P (without_number n xs) → All P (cond b xs (x ∷ without_number n xs))
    go true h = All-tail P x xs a
    go false h = All-cons P x (without_number n xs) (All-head P x xs a) h

pub All-find : (P : Indication → Type 0) (n : ℕ) (xs : List Indication) (i : Indication) → All P xs → find_number n xs ≡ Some i → P i
All-find P n [] i a h = absurd (none-is i h)
All-find P n (x ∷ xs) i a h = go (has_number n x) h (All-find P n xs i (All-tail P x xs a))
  where
    go : (b : Bool) → cond b (Some x) (find_number n xs) ≡ Some i → (find_number n xs ≡ Some i → P i) → P i
    go true j k = subst P (some-is x i j) (All-head P x xs a)
    go false j k = k j

-- where each number is at most as often among the disconnects as among the requests, there are at most as many
pub cuts-few : (ds : List Disconnect) (xs : List Indication) → ((n : ℕ) → disconnects_with n ds ≤ indications_with n xs) → length ds ≤ length xs
cuts-few [] xs h = omega arith
cuts-few (d ∷ ds) xs h = go (find_number d.number xs) refl (cuts-few ds (without_number d.number xs))
  where
    here : disconnects_with d.number (d ∷ ds) ≡ 1 + disconnects_with d.number ds
    here = ap (λ z. cond z 1 0 + disconnects_with d.number ds) (eq-eqb d.number d.number refl)

    go : (o : Option Indication) → find_number d.number xs ≡ o → (((n : ℕ) → disconnects_with n ds ≤ indications_with n (without_number d.number xs)) → length ds ≤ length (without_number d.number xs)) → length (d ∷ ds) ≤ length xs
    go None f ih =
        let a : disconnects_with d.number (d ∷ ds) ≤ indications_with d.number xs = h d.number in
        let b : indications_with d.number xs ≡ 0 = none-count d.number xs f in
        let c : disconnects_with d.number (d ∷ ds) ≡ 1 + disconnects_with d.number ds = here in absurd (omega arith)
    go (Some i) f ih =
        let l : length (without_number d.number xs) + 1 ≡ length xs = length-taken d.number xs i f in
        let r : length ds ≤ length (without_number d.number xs) = ih left in omega arith
      where
        left : (m : ℕ) → disconnects_with m ds ≤ indications_with m (without_number d.number xs)
        left m = by (eqb m d.number) refl
          where
            by : (b : Bool) → eqb m d.number ≡ b → disconnects_with m ds ≤ indications_with m (without_number d.number xs)
            by true q = subst (λ z. disconnects_with z ds ≤ indications_with z (without_number d.number xs)) (sym (eqb-true m d.number q))
                (let a : disconnects_with d.number (d ∷ ds) ≤ indications_with d.number xs = h d.number in
                let c : disconnects_with d.number (d ∷ ds) ≡ 1 + disconnects_with d.number ds = here in
                let t : indications_with d.number (without_number d.number xs) + 1 ≡ indications_with d.number xs = count-taken d.number xs i f in omega arith)
            by false q = subst (λ z. disconnects_with m ds ≤ z) (sym (count-without m d.number q xs)) (more (eqb d.number m) (h m))
              where
                more : (b : Bool) → cond b 1 0 + disconnects_with m ds ≤ indications_with m xs → disconnects_with m ds ≤ indications_with m xs
                more true k = omega arith
                more false k = omega arith

-- symbols that pass a test
pub counted-append : (test : ℕ → Bool) (xs ys : List ℕ) → count_by test (xs ++ ys) ≡ count_by test xs + count_by test ys
counted-append test xs ys = sum_by-append (λ x. cond (test x) 1 0) xs ys

pub counted-drop : (test : ℕ → Bool) (n : ℕ) (xs : List ℕ) → count_by test (drop n xs) ≤ count_by test xs
counted-drop test n xs = (let h : count_by test (take n xs) + count_by test (drop n xs) ≡ count_by test xs = sum_by-take-drop (λ x. cond (test x) 1 0) xs n in omega arith)

pub rest-fewer : (max : ℕ) (xs : List ℕ) → bytes_waiting (rest max xs) ≤ bytes_waiting xs
rest-fewer max xs = counted-drop is_byte (length (front max xs) + cond (ended max xs) 1 0) xs

pub piece-few : (bytes : List ℕ) (closes : Bool) (n : ℕ) → length bytes ≤ n → bytes_waiting (piece bytes closes) ≤ n
piece-few bytes false n h = (let a : bytes_waiting bytes ≤ length bytes = count_by-le-length is_byte bytes in omega arith)
piece-few bytes true n h = (let a : bytes_waiting bytes ≤ length bytes = count_by-le-length is_byte bytes in let b : bytes_waiting (bytes ++ 256 ∷ []) ≡ bytes_waiting bytes + 0 = counted-append is_byte bytes (256 ∷ []) in omega arith)
