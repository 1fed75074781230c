-- What contracts see of a seat, and what its calls tell it.
use Rattle.std.specs.Prelude.{◌≡◌, ◌≢◌, ◌<◌, ◌≤◌, ℕ, Bool, true, false, MatchBool, Result, MatchResult, set, List, [], ◌∷◌, ◌++◌, length, Option, Some, None, option_map, if◌then◌else◌}
use mathlib.Core.List.{IsPrefix}
use mathlib.Core.Option.{some}
use lib.ListN.{get_elem?}
use Rattle.atomic_table.specs.Seated.{TableId}
use Rattle.atomic_table.specs.Table.{rest}
use Rattle.xti_model.specs.declared.entry.Entry.{Entry}
use Rattle.xti_base.specs.declared.kinds.State.{State}
use Rattle.xti_model.specs.declared.call.Call.{Call}
use Rattle.xti_model.specs.declared.entry.Go.{Go}
use Rattle.xti_model.specs.declared.entry.Outcome.{Outcome}
use Rattle.xti_model.specs.Robin.{act_of}
use Rattle.xti_model.specs.SentBytes.{AllSendBytes}
use Rattle.xti_model.specs.declared.entry.Outcome.TheVariants.{Done, Part}
use Rattle.xti_model.specs.History.{unfinished_from}
use Rattle.xti_model.specs.History.{taken_before}
use Rattle.xti_model.specs.World.{Cell as MCell}
use Rattle.xti_hall_rule.specs.Histories.{Legal, own, part, opening}
use Rattle.xti_hall_rule.specs.declared.setting.Setting.{Setting}
use Rattle.xti_hall_rule.specs.declared.view.View.{View}
use Rattle.xti_hall_rule.specs.declared.view.Held.TheVariants.{Journal as InJournal}
use Rattle.xti_hall_rule.specs.declared.view.Journal.{Journal}
use Rattle.xti_hall_rule.specs.declared.view.Mark.{Mark}
use Rattle.xti_hall_rule.specs.declared.view.Mark.TheVariants.{Free}
use Rattle.xti_hall_rule.specs.Rule.{Boxed, Slot, HasLog, mark_of}
use Rattle.xti_hall_rule.specs.Steps.{Seated, Fresh, Took, Began, Looked, giver, committed, Marked, at, refused_at, with_held, with_pen, with_seen, without_pen, without_pen_unseen, Holds}
use Rattle.xti_hall.specs.declared.made_step.MadeStep.{MadeStep}

-- which hall made the seat, which of the hall's seats it is, and what it knows
pub record SeatView : Type 0 where
  pub hall : TableId
  pub id : ℕ
  pub view : View

-- the slots that a seat has open between two calls: the journal's, while it holds it
abbrev pub hand : {C : Type 0} → View → List (ℕ × Slot C)
hand v = if v.journal then (v.setting.cells, None) ∷ [] else []

-- a seat between two steps on a cell
pub record Sits (v : View) : Type 0 where
  pub live : v.live ≡ true
  pub numbered : v.numbered ≡ true
  pub shut : v.opened ≡ 0
  pub small : v.number < 33

-- What is true of every seat: it has a number, below its spare ones; what it has seen is a legal history, in which what is sent
-- on connections is bytes; its own entries are its own part of that, and its spare numbers and those over 32 have none.
pub record IsStanding (v : View) : Type 0 where
  pub numbered : v.numbered ≡ true
  pub below : v.number < v.next
  pub legal : Legal v.setting v.seen
  pub bytes : AllSendBytes v.seen
  pub mine : own v.number v.seen ≡ v.mine
  pub spare : (k : ℕ) → v.next ≤ k → own k v.seen ≡ []

-- how many bytes were taken of the call that these entries of one worker leave unfinished
abbrev pub unfinished_bytes : List Entry → Option ℕ
unfinished_bytes mine = option_map (λ g. taken_before g.so_far) (unfinished_from None None mine)

-- the fields of a seat are what the table's seat knows
abbrev pub FitsSeat : {C : Type 0} → Seated C → ℕ → ℕ → ℕ → Option ℕ → Type 0
FitsSeat m number next steps unfinished =
    (m.1 ≡ hand m.0) × Sits m.0 × (number ≡ m.0.number) × (next ≡ m.0.next) × (steps ≡ length m.0.mine)
    × (unfinished ≡ unfinished_bytes m.0.mine) × IsStanding m.0

-- the slot that a seat of the table opened last is this one, and has this
abbrev pub HasOpen : {C : Type 0} → Seated C → ℕ → Slot C → Type 0
HasOpen m i x = m.1 ≡ (i, x) ∷ rest m.1

-- the same seat, whose slot that was opened last is this one, and has this
abbrev pub with_open : {C : Type 0} → Seated C → ℕ → Slot C → Seated C
with_open m i x = (m.0, (i, x) ∷ rest m.1)

-- the slot that a seat of the table opened last is this one, and has this journal
abbrev pub HasBook : {C : Type 0} → Seated C → ℕ → Boxed → Type 0
HasBook m i b = HasOpen m i (Some (InJournal b))

-- the same seat, whose slot that was opened last is this one, and has this journal
abbrev pub with_book : {C : Type 0} → Seated C → ℕ → Boxed → Seated C
with_book m i b = with_open m i (Some (InJournal b))

-- a try at the journal's turn, whose slot has this number: whether it was taken
abbrev pub TriesPen : {C : Type 0} → Seated C → ℕ → Bool → Seated C → Type 0
TriesPen m n taken m' = MatchBool taken (Began m n m') (m' ≡ m)

-- a try at the turn of the cell i: whether it was taken
abbrev pub TriesCell : {C : Type 0} → (Setting → C → List (ℕ × MCell) → Type 0) → Seated C → ℕ → Bool → Seated C → Type 0
TriesCell stands m i taken m' = MatchBool taken (Took stands m i m') (m' ≡ m)

-- the same, where a turn that is held is recorded
abbrev pub TriesOnce : {C : Type 0} → (Setting → C → List (ℕ × MCell) → Type 0) → Seated C → ℕ → Bool → Seated C → Type 0
TriesOnce stands m i taken m' = MatchBool taken (Took stands m i m') (m' ≡ (refused_at m.0 i, m.1))

-- the value stands for what is recorded for the cell i, whose turn is held
abbrev pub StandsForHeld : {C : Type 0} → (Setting → C → List (ℕ × MCell) → Type 0) → Setting → View → ℕ → C → Type 0
StandsForHeld stands p v i x = (m : MCell) × (get_elem? v.held i ≡ some (Some m)) × stands p x ((i, m) ∷ [])

-- the cell i is held no more
abbrev pub without_cell : View → ℕ → View
without_cell v i = with_held v (set v.held i None) 0

-- the seat's mark in the journal
abbrev pub mark_in : Journal → View → Mark
mark_in j v = mark_of j.marks.items v.number

-- this journal was given back, and the history is seen
abbrev pub gave : {C : Type 0} → Seated C → Journal → Seated C
gave m j = (without_pen m.0 (mark_in j m.0), rest m.1)

-- this journal was given back, and no more is seen
abbrev pub gave_unseen : {C : Type 0} → Seated C → Journal → Seated C
gave_unseen m j = (without_pen_unseen m.0 (mark_in j m.0), rest m.1)

-- the journal is that of the recorded history with this entry more
abbrev pub HasLogWith : View → Journal → Entry → Type 0
HasLogWith v j e = HasLog v.setting j (v.history ++ e ∷ [])

-- the journal was taken, and this was found
abbrev pub TakesJournal : View → Journal → View → Type 0
TakesJournal v j v' = v' ≡ with_pen v v'.history j.marks.items

-- a seat of the table has the journal, and its slot open and empty
abbrev pub HasJournal : {C : Type 0} → ℕ → Seated C → Type 0
HasJournal cells m = (m.0.journal ≡ true) × (m.1 ≡ (cells, None) ∷ rest m.1)

-- the journal is that of the history that the view records, and its marks may go back
abbrev pub MayGoBack : View → Journal → Type 0
MayGoBack v j = HasLog v.setting j v.history × Marked v j.marks.items

-- the seat's entry of a step of the call
abbrev pub entry_of : View → Call → Go → Outcome → State → Entry
entry_of v c g outcome state = record { worker = v.number; act = act_of g c; outcome = outcome; after = state }

-- the seat's view after this entry of its own
abbrev pub wrote_entry : View → Entry → View
wrote_entry v e = committed v (v.history ++ e ∷ [])

-- the seat wrote this entry of its own, and gave the journal back
abbrev pub Writes : View → Entry → View → Type 0
Writes v e v' = v' ≡ without_pen (wrote_entry v e) Free

-- this journal was given back once the entry was written
abbrev pub gave_with : {C : Type 0} → Seated C → Journal → Entry → Seated C
gave_with m j e = (without_pen (wrote_entry m.0 e) (mark_in j m.0), rest m.1)

-- the seat's entry of this step, which isn't kept
abbrev pub entry_of_step : View → MadeStep → Entry
entry_of_step v s = entry_of v s.call.now s.go s.outcome.now s.after

-- how many bytes are taken of a call that goes on after this outcome
abbrev pub taken_in : Outcome → Option ℕ
taken_in (Done reply) = None
taken_in (Part n) = Some n

-- the seat holds no cell
abbrev pub HoldsNone : View → Type 0
HoldsNone v = (i : ℕ) → at v i ≡ None

-- all but the cells held, and the tries that found a turn held
abbrev pub bare : View → View
bare v = record v { held = []; opened = 0; refused = [] }

-- the values stand for the cells of the opening world, in order
abbrev pub StandInOrder : {C : Type 0} → (Setting → C → List (ℕ × MCell) → Type 0) → Setting → List C → Type 0
StandInOrder {C} stands p xs = (i : ℕ) (x : C) → get_elem? xs i ≡ some x → stands p x ((i, part i (opening p)) ∷ [])

-- the cell i was entered, with the value m
pub record Entered (v : View) (i : ℕ) (m : MCell) (v' : View) : Type 0 where
  pub here : at v' i ≡ Some m
  pub others : (j : ℕ) → j ≢ i → at v' j ≡ at v j
  pub rest : bare v' ≡ bare v
  pub refused : v'.refused ≡ v.refused

-- a value that stands for the cell i was entered, and is its part of the world as the other cells that are held are
abbrev pub Enters : {C : Type 0} → (Setting → C → List (ℕ × MCell) → Type 0) → View → ℕ → C → View → Type 0
Enters stands v i x v' = (m : MCell) × Entered v i m v' × stands v.setting x ((i, m) ∷ []) × Fresh v'

-- the value stands for what is recorded for the cell i, which is held
abbrev pub MayLeave : {C : Type 0} → (Setting → C → List (ℕ × MCell) → Type 0) → View → ℕ → C → Type 0
MayLeave stands v i x = (m : MCell) × (at v i ≡ Some m) × stands v.setting x ((i, m) ∷ [])

-- the cell i was left
pub record Left (v : View) (i : ℕ) (v' : View) : Type 0 where
  pub here : at v' i ≡ None
  pub others : (j : ℕ) → j ≢ i → at v' j ≡ at v j
  pub rest : bare v' ≡ bare v
  pub refused : v'.refused ≡ v.refused

-- the journal was taken and given back without an entry
abbrev pub LookedAt : View → View → Type 0
LookedAt v v' =
    (history : List Entry) × (marks : List Mark)
    × (v' ≡ without_pen (with_pen v history marks) Free) × Holds (with_pen v history marks)

-- a seat with the least spare number, that has seen as much, made no call, has no spare number and holds nothing
pub record IsNewcomerOf (v w : View) : Type 0 where
  pub setting : w.setting ≡ v.setting
  pub number : w.number ≡ v.next
  pub next : w.next ≡ 33
  pub seen : w.seen ≡ v.seen
  pub mine : w.mine ≡ []
  pub held : HoldsNone w
  pub journal : w.journal ≡ false
  pub mark : w.mark ≡ Free
  pub refused : w.refused ≡ []

-- a new seat was cut off: where the old one had a spare number, which it then has no more
abbrev pub CutsOff : SeatView → SeatView → SeatView → Type 0
CutsOff old new fresh = (fresh.hall ≡ old.hall) × (new.view ≡ giver old.view) × IsNewcomerOf old.view fresh.view

-- the number is the length of the history at some point, all of which the seat has then seen
abbrev pub SeesLength : View → ℕ → View → Type 0
SeesLength v n v' = (h : List Entry) × (v' ≡ with_seen v h) × Looked v n h

-- none was: it has no spare number, and stays as it was
abbrev pub HasNoneToSpare : SeatView → SeatView → Type 0
HasNoneToSpare old new = (new.view ≡ old.view) × (33 ≤ old.view.next)

-- one was cut off, or there was no spare number
abbrev pub Splits : {E : Type 0} → SeatView → SeatView → Result SeatView E → Type 0
Splits old new r = MatchResult r (CutsOff old new) (λ _. HasNoneToSpare old new)

-- the seat saw the whole history at some point, and made no call
pub record Looks (v v' : View) : Type 0 where
  pub setting : v'.setting ≡ v.setting
  pub number : v'.number ≡ v.number
  pub next : v'.next ≡ v.next
  pub mine : v'.mine ≡ v.mine
  pub held : v'.held ≡ v.held
  pub journal : v'.journal ≡ v.journal
  pub refused : v'.refused ≡ v.refused
  pub seen : IsPrefix v.seen v'.seen

-- the seat has taken the journal out, and has seen all of the history in it, which is this one
pub record HasTaken (v : View) (history : List Entry) : Type 0 where
  pub taken : v.journal ≡ true
  pub found : v.history ≡ history
  pub seen : v.seen ≡ history

-- the same seat, whose journal counts as given back, and which counts as told nothing
abbrev pub shut : SeatView → SeatView
shut s = record s { view = record s.view { journal = false; heard = [] } }

-- one hall made both seats
abbrev pub AreOfOneHall : SeatView → SeatView → Type 0
AreOfOneHall s t = (s.hall ≡ t.hall) × (s.view.setting ≡ t.view.setting)

-- the first seat, which has now seen what both had seen
pub record Meets (v w v' : View) : Type 0 where
  pub setting : v'.setting ≡ v.setting
  pub number : v'.number ≡ v.number
  pub next : v'.next ≡ v.next
  pub mine : v'.mine ≡ v.mine
  pub held : v'.held ≡ v.held
  pub journal : v'.journal ≡ v.journal
  pub mark : v'.mark ≡ v.mark
  pub refused : v'.refused ≡ v.refused
  pub first : IsPrefix v.seen v'.seen
  pub second : IsPrefix w.seen v'.seen
