-- Workers, their jobs and their seats, in the order of their numbers.
use Rattle.std.specs.Prelude.{ℕ, suc, ◌+◌, ◌<◌, ◌≤◌, ◌≡◌, List, [], ◌∷◌, ◌++◌, length, slice_index_or}
use Rattle.std.proofs.Common.{subst, arith}
use Rattle.xti_threads.specs.Starting.{EachFrom}

pub from_snoc : {X : Type 0} (P : ℕ → X → Type 0) (n m : ℕ) (xs : List X) (x : X) → EachFrom P n xs → m ≡ n + length xs → P m x → EachFrom P n (xs ++ x ∷ [])
from_snoc P n m [] x h e p = (subst (λ k. P k x) (omega (arith, e)) p, tt)
from_snoc P n m (y ∷ xs) x h e p = (h.0, from_snoc P (n + 1) m xs x h.1 (omega (arith, e)) p)

pub from_map : {X : Type 0} (P Q : ℕ → X → Type 0) (n : ℕ) (xs : List X) → ((k : ℕ) (x : X) → n ≤ k → P k x → Q k x) → EachFrom P n xs → EachFrom Q n xs
from_map P Q n [] f h = tt
from_map P Q n (x ∷ xs) f h = (f n x (omega arith) h.0, from_map P Q (n + 1) xs (λ k y le. f k y (omega (arith, le))) h.1)

-- what holds of each member by its index
pub from_index : {X : Type 0} (P : ℕ → X → Type 0) (n : ℕ) (xs : List X) → ((k : ℕ) (d : X) → k < length xs → P (n + k) (slice_index_or xs k d)) → EachFrom P n xs
from_index P n [] h = tt
from_index P n (x ∷ xs) h = (
  subst (λ k. P k x) (let e : n + 0 ≡ n = omega arith in e) (h 0 x (omega arith)),
  from_index P (n + 1) xs (λ k d lt. subst (λ m. P m (slice_index_or xs k d)) (let e : n + suc k ≡ n + 1 + k = omega arith in e) (h (suc k) d (omega (arith, lt)))),
)
