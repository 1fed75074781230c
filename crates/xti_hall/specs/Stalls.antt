-- When each seat that is out rests, or waits for what is blocked.
use Rattle.std.specs.Prelude.{◌≡◌, ◌+◌, ◌<◌, ◌≤◌, take, ◌==◌, ℕ, Bool, true, false, length, count_by}
use Rattle.std.specs.List.{list_all}
use Rattle.xti_hall_rule.specs.declared.view.Mark.{Mark}
use Rattle.xti_hall_rule.specs.declared.view.Mark.TheVariants.{Absent, Free, Waiting, Resting}
use Rattle.xti_hall_rule.specs.declared.view.View.{View}
use Rattle.xti_wants.specs.declared.want.Want.{Want}
use Rattle.xti_hall.specs.declared.stall.Stall.{Stall}
use Rattle.xti_hall.specs.declared.stall.Sight.{Sight}
use Rattle.xti_hall.specs.declared.stall.Sight.TheVariants.{Again, Parks, Alone, Stalls}
use Rattle.xti_hall.specs.declared.stall.Waited.{Waited}
use Rattle.xti_hall.specs.declared.stall.Waited.TheVariants as waited
use Rattle.xti_hall_rule.specs.Histories.{Blocked}
use Rattle.xti_hall_rule.specs.Rule.{mark_of}

-- nobody has the number, or its seat rests, or it waits in the history of this length
abbrev pub is_settled : ℕ → Mark → Bool
is_settled at Absent = true
is_settled at Free = false
is_settled at (Waiting want len) = len == at
is_settled at Resting = true

abbrev pub waits : Mark → Bool
waits (Waiting want len) = true
waits other = false

abbrev pub rests : Mark → Bool
rests Resting = true
rests other = false

-- a seat with the number is out
abbrev pub is_out : Mark → Bool
is_out Absent = false
is_out other = true

-- In the history of this length, which the seat has seen, each seat that is out rests, or waits on a want that is blocked
-- there; the marks are those that the seat found, its own among them, which was waiting on this want. The seats that wait and
-- those that rest are all that are out.
pub record IsStall (v : View) (want : Want) (s : Stall) : Type 0 where
  pub at : s.at ≡ length v.seen
  pub here : mark_of v.marks v.number ≡ Waiting want s.at
  pub settled : list_all (is_settled s.at) v.marks ≡ true
  pub waiting : s.waiting ≡ count_by waits v.marks
  pub resting : s.resting ≡ count_by rests v.marks
  pub out : s.waiting + s.resting ≡ count_by is_out v.marks
  pub blocked : (k : ℕ) (other : Want) (len : ℕ)
      → mark_of v.marks k ≡ Waiting other len → Blocked v.setting v.seen other

-- the want is blocked after the first `at` entries that the seat has seen
abbrev pub WasBlocked : View → ℕ → Want → Type 0
WasBlocked v at want = (at ≤ length v.seen) × Blocked v.setting (take at v.seen) want

-- what one look of a waiter tells
abbrev pub Sees : View → Want → ℕ → Sight → Type 0
Sees v want at Again = (at < length v.seen) × (v.mark ≡ Free)
Sees v want at (Parks bell) = (at ≡ length v.seen) × (v.mark ≡ Waiting want at)
Sees v want at Alone = (at ≡ length v.seen) × (v.mark ≡ Waiting want at)
Sees v want at (Stalls s) = IsStall v want s × (s.at ≡ at) × (v.mark ≡ Resting)

-- what a wait tells; after it the seat's mark is free, or at a stall resting
abbrev pub WaitedFor : View → Want → ℕ → Waited → Type 0
WaitedFor v want at waited.Again = (at < length v.seen) × (v.mark ≡ Free)
WaitedFor v want at (waited.Stalled s) = IsStall v want s × (s.at ≡ at) × (v.mark ≡ Resting)
