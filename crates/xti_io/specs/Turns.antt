-- Calls that are counted from 0, some of which fail.
use Rattle.std.specs.Prelude.{◌≡◌, ◌≤◌, ◌<◌, ℕ, ◌+◌, ◌-◌, ◌^◌, ◌==◌, List, length, min, Bool, false, nat_le, if◌then◌else◌, count_by}
use Rattle.std.specs.List.{list_any}

abbrev pub is_listed : ℕ → List ℕ → Bool
is_listed n numbers = list_any (λ m. m == n) numbers

-- how many of the numbers are not below n
abbrev pub count_from : ℕ → List ℕ → ℕ
count_from n numbers = count_by (λ m. nat_le n m) numbers

pub record Turns : Type 0 where
  -- the numbers of the calls that fail
  pub fails : List ℕ
  -- the number of the next call
  pub number : ℕ
  -- how many calls failed
  pub faults : ℕ

abbrev pub first_turn : List ℕ → Turns
first_turn fails = record { fails = fails; number = 0; faults = 0 }

abbrev pub fails_now : Turns → Bool
fails_now t = is_listed t.number t.fails

-- after one call more; the number of a call stays at the end of its type
abbrev pub next_turn : Turns → Turns
next_turn t = record t {
  number = min (t.number + 1) (2 ^ 64 - 1);
  faults = (if fails_now t then t.faults + 1 else t.faults);
}

-- only listed calls failed, each once, and not the last of all
pub record IsCounted (t : Turns) : Type 0 where
  pub within : t.number ≤ 2 ^ 64 - 1
  pub passed : t.faults + count_from t.number t.fails ≤ length t.fails
  pub few : length t.fails < 2 ^ 64 - 1
  pub end : is_listed (2 ^ 64 - 1) t.fails ≡ false
