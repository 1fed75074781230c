-- The lengths of parts that are joined, and sums as far as 64 bits hold them.
use Rattle.std.proofs.Common.{◌≡◌, ℕ, ◌+◌, ◌<◌, List, [], ◌∷◌, ◌++◌, length, take, get_or, sym, ap, ◌∙◌, append_assoc, arith}
use Rattle.std.specs.Prelude.{min}
use Rattle.std.specs.List.{concat}
use Rattle.std.proofs.lemmas.List.{append-nil, take_more, length-append}

pub capped-add : (top n k : ℕ) → min (min n top + k) top ≡ min (n + k) top
capped-add top n k = omega arith

pub capped-both : (top n k : ℕ) → min (min n top + min k top) top ≡ min (n + k) top
capped-both top n k = omega arith

concat-push : (xs : List (List ℕ)) (x : List ℕ) → concat (xs ++ x ∷ []) ≡ concat xs ++ x
concat-push [] x = append-nil x
concat-push (y ∷ ys) x = ap (λ (rest : List ℕ). y ++ rest) (concat-push ys x) ∙ sym (append_assoc y (concat ys) x)

pub concat-more : (parts : List (List ℕ)) (i : ℕ) (x : List ℕ) → i < length parts → x ≡ get_or parts i x → length (concat (take (i + 1) parts)) ≡ length (concat (take i parts)) + length x
concat-more parts i x lt e =
    ap (λ (xs : List (List ℕ)). length (concat xs)) (take_more parts i x lt ∙ ap (λ (y : List ℕ). take i parts ++ y ∷ []) (sym e))
    ∙ ap length (concat-push (take i parts) x) ∙ length-append (concat (take i parts)) x
