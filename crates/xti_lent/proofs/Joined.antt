-- Sums of parts that don't wrap, and parts joined one after another.
use Rattle.std.proofs.Common.{◌≡◌, ◌≤◌, ◌<◌, ◌+◌, ◌-◌, ◌^◌, ℕ, zero, suc, List, [], ◌∷◌, ◌++◌, length, take, get_or, sym, ap, arith, add-one}
use Rattle.std.specs.Prelude.{min}
use Rattle.std.specs.List.{concat}
use Rattle.std.proofs.lemmas.Bool.Decides.{nat_tests}
use Rattle.std.proofs.lemmas.List.{length-append, append-nil, append_assoc}

abbrev pub most : ℕ
most = 2 ^ 64 - 1

pub capped-sum : (a b : ℕ) → min (min a most + b) most ≡ min (a + b) most
capped-sum a b = grind (arith, nat_tests)

take-parts : (xs : List (List ℕ)) (i : ℕ) (x : List ℕ) → i < length xs → x ≡ get_or xs i x → concat (take (suc i) xs) ≡ concat (take i xs) ++ x
take-parts [] i x lt e = absurd (omega arith)
take-parts (y ∷ ys) zero x lt e = rw (append-nil y) (sym e)
take-parts (y ∷ ys) (suc i) x lt e = rw (take-parts ys i x (omega arith) e) (sym (append_assoc y (concat (take i ys)) x))

-- one more part
pub longer : (parts : List (List ℕ)) (i : ℕ) (x : List ℕ) → i < length parts → x ≡ get_or parts i x → concat (take (i + 1) parts) ≡ concat (take i parts) ++ x
longer parts i x lt e = rw add-one (take-parts parts i x lt e)

pub part-fits : (parts : List (List ℕ)) (i : ℕ) (x : List ℕ) → i < length parts → x ≡ get_or parts i x → length (concat (take i parts)) + length x ≤ length (concat parts)
part-fits [] i x lt e = absurd (omega arith)
part-fits (y ∷ ys) zero x lt e = let s : length x ≡ length y = ap length e in omega (arith, length-append y (concat ys))
part-fits (y ∷ ys) (suc i) x lt e =
    let h = part-fits ys i x (omega arith) e in
    omega (arith, h, length-append y (concat (take i ys)), length-append y (concat ys))
