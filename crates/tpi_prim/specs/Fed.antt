-- What a reader of frames knows of the bytes that it was fed.
use Rattle.std.specs.Prelude.{ℕ, List, Option}

-- how many bytes stand before the rest, up to 2^64 - 1; the rest; and the place of the first wrong byte, once one was met
pub record Fed : Type 0 where
  pub passed : ℕ
  pub rest : List ℕ
  pub wrong : Option ℕ
