-- What a return says of lent cells.
use Rattle.std.proofs.Common.{◌≡◌, ℕ, Bool, true, false, ◌&&◌, Some, None, Result, Ok, Err, refl, sym, ◌∙◌}
use Rattle.std.specs.Result.{IsErr, OnErr, OnOk}
use Rattle.xti_model.specs.declared.entry.Applied.{Applied}
use Rattle.xti_model.specs.Step.{Step}
use Rattle.xti_model.specs.declared.profile.Providers.{Providers}
use Rattle.xti_end.specs.Held.{Held, is_open, is_open_as}
use Rattle.xti_end.specs.Taken.{taken}
use Rattle.xti_lent.specs.Fit.{SameCells}
use Rattle.xti_lent.specs.Lending.{Lending, cells}

pub same-cells : (l : Lending) → SameCells l l
same-cells l = record { providers = refl; numbers = refl; places = refl }

-- where a result is an error, what holds of errors does
pub on-any-err : {T E P : Type 0} (r : Result T E) → P → OnErr r P
on-any-err (Ok x) p = tt
on-any-err (Err x) p = p

-- what holds where there is no error holds of errors
pub on-no-ok : {T E : Type 0} (r : Result T E) (P : Type 0) → IsErr r → OnOk r P
on-no-ok (Ok x) P e = let no : false ≡ true = e in cc no
on-no-ok (Err x) P e = tt

-- a step that is made is not blocked
pub not-blocked : (old new : Lending) (a : Applied) (s : Step) → taken a (cells new) ≡ Some s → taken a (cells new) ≡ None → new ≡ old
not-blocked old new a s e none = let no : Some s ≡ None = sym e ∙ none in cc no

-- what is open with a descriptor is open
first-of-three : (a b c : Bool) → ((a && b) && c) ≡ true → a ≡ true
first-of-three true b c e = refl
first-of-three false b c e = e

pub open-as : (p : Providers) (fd : ℕ) (h : Held) → is_open_as p fd h ≡ true → is_open h ≡ true
open-as p fd h e = first-of-three (is_open h) _ _ e
