-- What one step of a call tells its seat.
use Rattle.std.specs.Prelude.{◌≡◌, ◌⊎◌, ℕ, ◌+◌, List, [], ◌∷◌, ◌++◌, length, Some, None, true, false}
use mathlib.Core.List.{IsPrefix}
use Rattle.xti_base.specs.declared.kinds.State.{State}
use Rattle.xti_model.specs.declared.call.Call.{Call}
use Rattle.xti_model.specs.declared.entry.Go.{Go}
use Rattle.xti_model.specs.declared.entry.Entry.{Entry}
use Rattle.xti_model.specs.declared.entry.Outcome.{Outcome}
use Rattle.xti_model.specs.declared.entry.Applied.{Applied}
use Rattle.xti_model.specs.declared.entry.Applied.TheVariants as applied
use Rattle.xti_model.specs.History.{made_by, unfinished_from, Fits}
use Rattle.xti_model.specs.Robin.{act_of}
use Rattle.xti_model.specs.SentBytes.{SendsBytes}
use Rattle.xti_model.specs.Step.{step}
use Rattle.xti_lent.specs.Lending.{Lending, cell_lent}
use Rattle.xti_gather.specs.Lends.{Lends, Just}
use Rattle.xti_hall_rule.specs.declared.view.Mark.TheVariants.{Free}
use Rattle.xti_hall_rule.specs.declared.view.View.{View}
use Rattle.xti_hall_rule.specs.Histories.{after}
use Rattle.xti_hall_rule.specs.Steps.{Holds, with_pen}
use Rattle.xti_hall.specs.Pens.{PenView}
use Rattle.xti_hall.specs.Seats.{HoldsNone, bare, entry_of}

-- a seat between two calls holds neither a cell nor the journal
abbrev pub HoldsNothing : View → Type 0
HoldsNothing v = (v.journal ≡ false) × HoldsNone v

-- the seat's mark is as before, or free
abbrev pub KeepsOrFreesMark : View → View → Type 0
KeepsOrFreesMark v v' = (v'.mark ≡ v.mark) ⊎ (v'.mark ≡ Free)

-- the same seat later: what was seen before is a prefix of what is seen now
pub record Later (v v' : View) : Type 0 where
  pub setting : v'.setting ≡ v.setting
  pub number : v'.number ≡ v.number
  pub next : v'.next ≡ v.next
  pub seen : IsPrefix v.seen v'.seen

-- the call begins where the seat has none unfinished, or it is the unfinished one with so many bytes taken
abbrev pub MayGo : View → Call → Go → Type 0
MayGo v c g = made_by (unfinished_from None None v.mine) (act_of g c) ≡ Some (record { call = c; so_far = g })

-- the seat is ready for a step of the call: it lends just the cells that the call touches, and holds the journal
pub record IsReady (v v' : View) (l : Lending) (c : Call) (p : PenView) : Type 0 where
  pub gathered : View
  pub rest : bare gathered ≡ bare v
  pub lends : Lends gathered l
  pub just : Just l.providers (cell_lent l) c
  pub pen : v' ≡ with_pen gathered p.history p.marks
  pub holds : Holds v'
  pub numbered : v'.numbered ≡ true
  pub sends : SendsBytes c

-- the entry is that of the definition's step after this history
abbrev pub IsStepAfter : View → List Entry → Call → Go → Entry → Type 0
IsStepAfter v before c g e = Fits (step v.setting.providers (after v.setting before) c g) e

-- the step's entry is one more of the seat's own, and the last that it has seen, after all that it had seen
pub record Made (v : View) (c : Call) (g : Go) (outcome : Outcome) (state : State) (v' : View) : Type 0 where
  pub before : List Entry
  pub seen : IsPrefix v.seen before
  pub right : IsStepAfter v before c g (entry_of v c g outcome state)
  pub ends : v'.seen ≡ before ++ entry_of v c g outcome state ∷ []
  pub mine : v'.mine ≡ v.mine ++ entry_of v c g outcome state ∷ []

-- no entry was made, and the step is blocked after what was seen
pub record Waits (v : View) (c : Call) (g : Go) (v' : View) : Type 0 where
  pub mine : v'.mine ≡ v.mine
  pub blocked : step v'.setting.providers (after v'.setting v'.seen) c g ≡ None

-- what a step's answer tells
abbrev pub Tells : View → Call → Go → View → Applied → Type 0
Tells v c g v' (applied.Step outcome state) = Made v c g outcome state v'
Tells v c g v' applied.Blocked = Waits v c g v'

-- the step saw so much of the history: all but its own entry
abbrev pub SeenAt : Applied → ℕ → View → Type 0
SeenAt (applied.Step outcome state) n v = length v.seen ≡ n + 1
SeenAt applied.Blocked n v = length v.seen ≡ n
