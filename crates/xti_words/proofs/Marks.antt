-- Words that begin with a mark of two bytes, as `t:` and `o:`.
use Rattle.std.proofs.Common.{◌≡◌, ℕ, ◌-◌, ◌≤◌, Bool, List, [], ◌∷◌, length, take, drop, Result, nat_eq, sym, ap, subst, ◌∙◌, arith}
use Rattle.std.specs.List.{starts_with}
use Rattle.std.specs.Result.{IfOk}
use Rattle.std.proofs.lemmas.List.{take_all, length-drop}

-- what stands past the mark
pub past_mark : (word : List ℕ) → take (length word - 2) (drop 2 word) ≡ drop 2 word
past_mark word = take_all (length word - 2) (drop 2 word) (omega (arith, length-drop 2 word))

-- whether the word begins with it
pub marked : (word mark prefix : List ℕ) (b t : Bool) → mark ≡ prefix → b ≡ starts_with nat_eq word mark → b ≡ t → starts_with nat_eq word prefix ≡ t
marked word mark prefix b t m e h = ap (starts_with nat_eq word) (sym m) ∙ (sym e ∙ h)

pub holds-mark : (word mark : List ℕ) (x y : ℕ) → mark ≡ x ∷ y ∷ [] → length mark ≤ length word → 2 ≤ length word
holds-mark word mark x y e h = subst (λ (m : List ℕ). length m ≤ length word) e h

-- the value, if there is one, is also this one
pub told : {T E : Type 0} (r : Result T E) (x y : T) → x ≡ y → IfOk r (λ v. v ≡ x) → IfOk r (λ v. v ≡ y)
told r x y e h = subst (λ z. IfOk r (λ v. v ≡ z)) e h
