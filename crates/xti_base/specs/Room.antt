-- What contracts see of a list of bytes that has spare room.
use Rattle.std.specs.Prelude.{ℕ, List}

pub record Roomy : Type 0 where
  pub bytes : List ℕ
  pub spare : ℕ
