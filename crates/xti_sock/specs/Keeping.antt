-- What contracts see of the numbers that a listener keeps.
use Rattle.std.specs.Prelude.{ℕ, ◌==◌, not, List, filter, slice_get, Option}
use Rattle.xti_base.specs.declared.kinds.Seq.{Seq}

-- numbers of requests, oldest first, and for how many more there is spare room
pub record Keeping : Type 0 where
  pub numbers : List Seq
  pub spare : ℕ

-- the oldest of them, where there is one
abbrev pub oldest : List Seq → Option Seq
oldest kept = slice_get kept 0

abbrev pub without : Seq → List Seq → List Seq
without number kept = filter (λ (k : Seq). not (k.0 == number.0)) kept
