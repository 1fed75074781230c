-- A space before the words of a call.
use Rattle.std.proofs.Common.{◌≡◌, ℕ, List, [], ◌∷◌, ◌++◌, append_assoc, OnOk}
use Rattle.std.specs.Prelude.{Result, Ok, Err}
use Rattle.std.specs.Result.{result_and}
use Rattle.std.proofs.lemmas.Result.{on_ok_weaker}

pub space_first : (front word rest : List ℕ) → (front ++ 32 ∷ word) ++ rest ≡ (front ++ 32 ∷ []) ++ (word ++ rest)
space_first front word rest = simp append_assoc

-- what holds where both succeed
pub on_ok_and : {T E P Q R : Type 0} (r s both : Result T E) → both ≡ result_and r s → (P → Q → R) → OnOk r P → OnOk s Q → OnOk both R
on_ok_and (Ok x) s both p f h k = rw p (on_ok_weaker s (f h) k)
on_ok_and (Err e) s both p f h k = rw p h
