-- The values of fields.
use Rattle.std.specs.Prelude.{ℕ, Bool, List, Option}
use Rattle.xti_base.specs.declared.kinds.Prov.{Prov}

pub data Value : Type 0 where
  Bytes : List ℕ → Value
  Number : ℕ → Value
  Parts : List (List ℕ) → Value
  Sizes : List ℕ → Value
  Name : List ℕ → Value
  NameOrNone : Option (List ℕ) → Value
  Provider : Prov → Value
  Mode : Bool → Value
