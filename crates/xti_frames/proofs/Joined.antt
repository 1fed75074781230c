-- Texts that are appended one after the other.
use Rattle.std.proofs.Common.{◌≡◌, ◌++◌, ◌∙◌, List, ℕ, ap, OnOk}
use Rattle.std.specs.Prelude.{Result, Ok, Err}
use Rattle.std.specs.Result.{result_and}
use Rattle.std.proofs.lemmas.List.{append_assoc}

pub joined : (old next last a b : List ℕ) → next ≡ old ++ a → last ≡ next ++ b → last ≡ old ++ (a ++ b)
joined old next last a b h k = k ∙ ap (λ xs. xs ++ b) h ∙ append_assoc old a b

pub joined_ok : {T E : Type 0} (r : Result T E) (old next last a b : List ℕ) → next ≡ old ++ a → OnOk r (last ≡ next ++ b) → OnOk r (last ≡ old ++ (a ++ b))
joined_ok (Ok x) old next last a b h k = joined old next last a b h k
joined_ok (Err e) old next last a b h k = k

both_ok : {T E : Type 0} (r s : Result T E) (old next last a b : List ℕ) → OnOk r (next ≡ old ++ a) → OnOk s (last ≡ next ++ b) → OnOk (result_and r s) (last ≡ old ++ (a ++ b))
both_ok (Ok x) s old next last a b h k = joined_ok s old next last a b h k
both_ok (Err e) s old next last a b h k = h

-- two appends of which the second is made also where the first failed
pub joined_and : {T E : Type 0} (r s both : Result T E) (old next last a b : List ℕ) → both ≡ result_and r s → OnOk r (next ≡ old ++ a) → OnOk s (last ≡ next ++ b) → OnOk both (last ≡ old ++ (a ++ b))
joined_and r s both old next last a b p h k = rw p (both_ok r s old next last a b h k)
