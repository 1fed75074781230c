-- A sink that keeps as many bytes as it has room for.
use Rattle.std.specs.Prelude.{ℕ, ◌+◌, List, [], ◌++◌, length, take, Option, Some, None, Bool, true, ◌&&◌, nat_le, if◌then◌else◌}

pub record Kept : Type 0 where
  pub bytes : List ℕ
  pub room : ℕ
  -- whether these are all bytes that were written
  pub whole : Bool

abbrev pub empty : ℕ → Kept
empty room = record { bytes = []; room = room; whole = true }

-- after these bytes more
abbrev pub keeping : Kept → List ℕ → Kept
keeping k piece = record {
  bytes = take k.room (k.bytes ++ piece);
  room = k.room;
  whole = k.whole && nat_le (length k.bytes + length piece) k.room;
}

-- what the sink tells
abbrev pub told : Kept → Option (List ℕ)
told k = if k.whole then Some k.bytes else None
