-- A list that takes more members with no memory.
use Rattle.std.specs.Prelude.{ℕ, List}

-- the members, and how many more are added with no memory
pub record WaitingList (T : Type 0) : Type 0 where
  pub items : List T
  pub spare : ℕ
