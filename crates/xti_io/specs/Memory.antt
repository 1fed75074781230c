-- A source and a sink in memory that move a few bytes at a time and fail at chosen calls.
use Rattle.std.specs.Prelude.{ℕ, List, length, take, drop, min, if◌then◌else◌}
use Rattle.xti_io.specs.Sure.{Kept, empty, keeping}
use Rattle.xti_io.specs.Turns.{Turns, first_turn, fails_now, next_turn}

pub record Giving : Type 0 where
  pub left : List ℕ
  -- the most bytes that a read gives
  pub piece : ℕ
  pub turns : Turns

abbrev pub giving : List ℕ → ℕ → List ℕ → Giving
giving bytes piece fails = record { left = bytes; piece = piece; turns = first_turn fails }

-- how many bytes a read into a buffer of this length gives
abbrev pub read_count : Giving → ℕ → ℕ
read_count s space = min s.piece (min space (length s.left))

abbrev pub after_read : Giving → ℕ → Giving
after_read s space = record s {
  left = (if fails_now s.turns then s.left else drop (read_count s space) s.left);
  turns = next_turn s.turns;
}

pub record Taking : Type 0 where
  pub kept : Kept
  -- the most bytes that a write takes
  pub piece : ℕ
  pub turns : Turns

abbrev pub taking : ℕ → ℕ → List ℕ → Taking
taking room piece fails = record { kept = empty room; piece = piece; turns = first_turn fails }

-- how many bytes a write of these takes
abbrev pub write_count : Taking → List ℕ → ℕ
write_count s bytes = min s.piece (length bytes)

abbrev pub after_write : Taking → List ℕ → Taking
after_write s bytes = record s {
  kept = (if fails_now s.turns then s.kept else keeping s.kept (take (write_count s bytes) bytes));
  turns = next_turn s.turns;
}
