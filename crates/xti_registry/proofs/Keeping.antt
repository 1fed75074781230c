-- What a filter keeps.
use Rattle.std.proofs.Common.{◌≤◌, Bool, true, false, cond, List, [], ◌∷◌, length, filter, arith}

pub filter_le : {X : Type 0} (p : X → Bool) (xs : List X) → length (filter p xs) ≤ length xs
filter_le p [] = omega arith
filter_le p (x ∷ xs) = by_first (p x) (filter_le p xs)
  where
    by_first : (t : Bool) → length (filter p xs) ≤ length xs → length (cond t (x ∷ filter p xs) (filter p xs)) ≤ length (x ∷ xs)
    by_first true h = omega arith
    by_first false h = omega arith
