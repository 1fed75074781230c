-- Whether two answers are the same.
use Rattle.std.specs.Prelude.{◌≡◌, Bool, true, false, List, [], ◌∷◌}
use Rattle.xti_base.specs.declared.limit.Limit.{Limit}
use Rattle.xti_base.specs.declared.limit.Info.{Info}

-- a test that says whether the two are one
abbrev pub Tells : {A : Type 0} → Bool → A → A → Type 0
Tells true a b = a ≡ b
Tells false a b = a ≡ b → ⊥

abbrev pub limits_of : Info → List Limit
limits_of info = info.addr ∷ info.options ∷ info.tsdu ∷ info.etsdu ∷ info.connect ∷ info.discon ∷ []
