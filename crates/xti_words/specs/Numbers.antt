-- Reading digits from left to right.
use Rattle.std.specs.Prelude.{ℕ, ◌+◌, ◌-◌, ◌*◌, ◌==◌, Bool, true, false, not, ◌&&◌, nat_lt, List, [], ◌∷◌, Option, Some, None, if◌then◌else◌}
use Rattle.xti_words.specs.Texts.{is_digit}

-- the number with one more digit, where it fits 32 bits
abbrev pub with_digit : ℕ → ℕ → Option ℕ
with_digit n c = if is_digit c && nat_lt (n * 10 + (c - 48)) 4294967296 then Some (n * 10 + (c - 48)) else None

abbrev pub digits_behind : Option ℕ → List ℕ → Option ℕ
digits_behind None cs = None
digits_behind (Some n) [] = Some n
digits_behind (Some n) (c ∷ cs) = digits_behind (with_digit n c) cs

-- not empty, and no zero before other bytes
abbrev pub can_begin : List ℕ → Bool
can_begin [] = false
can_begin (c ∷ []) = true
can_begin (c ∷ d ∷ cs) = not (c == 48)
