-- The kinds of step, and what each tells the seat that makes it.
--
-- kind                        word or slot             view that changes
-- make the hall               all                      that of seat 0 (`newcomer`)
-- take a turn                 its word, 0 to 1         the taker holds it (`entered`, `began`); a try that isn't made again
--                                                      and finds it held changes no word, and is recorded (`tried`)
-- put the value in or out     the slot                 which slot is open, and no more (`settled`, `reopened`)
-- give a turn back            its word, 1 to 0         the giver holds it no more (`left`); of the journal, it gets its mark,
--                                                      and has seen the history (`returned`) or no more (`returned_unseen`)
-- commit an entry             word 0, plus 1           the writer's `seen`, `mine` and recorded values (`wrote`)
-- read the length             word 0                   the reader has seen the history (`looked`)
-- cut a seat in two           word 0                   the new one has the least spare number (`giver`, `given`), or none
--                                                      (`note_of`)
-- join a note                 word 0                   the seat was told what the other had seen (`told`); the note is spent
-- ring a bell                 word 2 + n + k, plus 1   none
use Rattle.std.specs.Prelude.{◌≡◌, ◌≢◌, ◌<◌, ◌≤◌, ℕ, ◌+◌, true, false, suc, List, [], ◌∷◌, ◌++◌, length, replicate, set, Option, Some, None}
use mathlib.Core.Option.{some}
use mathlib.Core.List.{IsPrefix}
use lib.ListN.{get_elem?, get_or}
use Rattle.atomic_table.specs.Table.{Me, Step, rest}
use Rattle.xti_model.specs.declared.entry.Entry.{Entry}
use Rattle.xti_model.specs.World.{Cell as MCell}
use Rattle.xti_model.specs.History.{doing}
use Rattle.xti_model.specs.SentBytes.{BeginsBytes, AllSendBytes}
use Rattle.xti_model.specs.Profile.{usual}
use Rattle.xti_hall_rule.specs.Histories.{World, part, own, after, Legal, Right, Touches}
use Rattle.xti_hall_rule.specs.declared.setting.Setting.{Setting}
use Rattle.xti_hall_rule.specs.declared.view.View.{View}
use Rattle.xti_hall_rule.specs.declared.view.Held.TheVariants.{Cell, Journal}
use Rattle.xti_hall_rule.specs.declared.view.Mark.{Mark}
use Rattle.xti_hall_rule.specs.declared.view.Mark.TheVariants.{Absent}
use Rattle.xti_hall_rule.specs.declared.view.Shown.{Shown}
use Rattle.xti_hall_rule.specs.declared.view.Shown.TheVariants.{Whole, Parts}
use Rattle.xti_model.specs.Robin.{act_of}
use Rattle.xti_hall_rule.specs.Rule.{Slot, Boxed, mark_of, MarkFits, HasLog}

-- a seat: its view, and the slots that it has open
abbrev pub Seated : Type 0 → Type 0
Seated C = Me (Slot C) View

-- the value recorded for the cell i, where the seat holds it
abbrev pub at : View → ℕ → Option MCell
at v i = get_or v.held i None

-- other recorded values, and another open slot
abbrev pub with_held : View → List (Option MCell) → ℕ → View
with_held v held o = record v { held = held; opened = o }

-- after one legal history that begins with all that was seen, the recorded values are their parts of the world
abbrev pub Fresh : View → Type 0
Fresh v =
    (h : List Entry) × Legal v.setting h × IsPrefix v.seen h
    × ((i : ℕ) (m : MCell) → get_elem? v.held i ≡ some (Some m) → m ≡ part i (after v.setting h))

-- a try at the turn of the cell i found it held
abbrev pub refused_at : View → ℕ → View
refused_at v i = record v { refused = v.refused ++ record { cell = i; held = v.held } ∷ [] }

module _ {C : Type 0} where
  -- the cell i was taken, with its value
  abbrev pub Took : (Setting → C → List (ℕ × MCell) → Type 0) → Seated C → ℕ → Seated C → Type 0
  Took stands m i m' =
      (x : C) × (c : MCell) × (m' ≡ (with_held m.0 (set m.0.held i (Some c)) (suc i), (i, Some (Cell x)) ∷ m.1))
      × stands m.0.setting x ((i, c) ∷ []) × Fresh m'.0 × (i < length m.0.held)

  -- a try at a cell's turn: taken where the word was 0, and nothing else
  abbrev pub entered : (Setting → C → List (ℕ × MCell) → Type 0) → Step (Slot C) → Seated C → ℕ → Seated C → Type 0
  entered stands st m r m' = (r ≡ 0 → (i : ℕ) → st.word ≡ i + 1 → Took stands m i m') × (r ≢ 0 → m' ≡ m)

  -- a try that isn't made again: where the turn was held, that is recorded
  abbrev pub tried : (Setting → C → List (ℕ × MCell) → Type 0) → Step (Slot C) → Seated C → ℕ → Seated C → Type 0
  tried stands st m r m' =
      (r ≡ 0 → (i : ℕ) → st.word ≡ i + 1 → Took stands m i m')
      × (r ≢ 0 → (i : ℕ) → st.word ≡ i + 1 → m' ≡ (refused_at m.0 i, m.1))

  abbrev pub settled : Seated C → Seated C → Type 0
  settled m m' = m' ≡ (with_held m.0 m.0.held 0, rest m.1)

  abbrev pub reopened : Step (Slot C) → Seated C → Seated C → Type 0
  reopened st m m' = (i : ℕ) → st.word ≡ i + 1 → m' ≡ (with_held m.0 m.0.held (suc i), (i, None) ∷ m.1)

  abbrev pub left : Step (Slot C) → Seated C → Seated C → Type 0
  left st m m' = (i : ℕ) → st.word ≡ i + 1 → m' ≡ (with_held m.0 (set m.0.held i None) 0, rest m.1)

-- with the journal's turn, the history and the marks
abbrev pub with_pen : View → List Entry → List Mark → View
with_pen v history marks = record v { journal = true; history = history; marks = marks }

-- the journal went back, with this mark, and so much is seen
abbrev pub given_back : View → List Entry → Mark → View
given_back v seen mark = record v { journal = false; seen = seen; mark = mark }

-- the same, and the history is seen
abbrev pub without_pen : View → Mark → View
without_pen v mark = given_back v v.history mark

-- the same, and no more is seen
abbrev pub without_pen_unseen : View → Mark → View
without_pen_unseen v mark = given_back v v.seen mark

-- The history that the view records is legal, sends bytes on connections and begins with all that was seen. The seat's own entries in it are `mine`, and
-- its spare numbers and those over 32 have none. Of the marks that it records, its own is that of its number, and each that
-- waits has a want that was blocked. The recorded values of the cells are their parts of the world after that history.
pub record Holds (v : View) : Type 0 where
  pub journal : v.journal ≡ true
  pub legal : Legal v.setting v.history
  pub bytes : AllSendBytes v.history
  pub seen : IsPrefix v.seen v.history
  pub mine : v.numbered ≡ true → own v.number v.history ≡ v.mine
  pub spare : v.numbered ≡ true → (k : ℕ) → v.next ≤ k → own k v.history ≡ []
  pub marked : v.numbered ≡ true → mark_of v.marks v.number ≡ v.mark
  pub many : length v.marks ≡ 33
  pub fits : (k : ℕ) → MarkFits v.setting v.history (mark_of v.marks k)
  pub parts : (i : ℕ) (m : MCell) → get_elem? v.held i ≡ some (Some m) → m ≡ part i (after v.setting v.history)

-- the marks that go back differ from those that were found at the seat's number alone, and its mark fits
pub record Marked (v : View) (marks : List Mark) : Type 0 where
  pub many : length marks ≡ 33
  pub others : (k : ℕ) → k ≢ v.number → mark_of marks k ≡ mark_of v.marks k
  pub fits : MarkFits v.setting v.history (mark_of marks v.number)

module _ {C : Type 0} where
  abbrev pub Began : Seated C → ℕ → Seated C → Type 0
  Began m n m' =
      (b : Boxed) × (h : List Entry) × (m' ≡ (with_pen m.0 h b.value.marks.items, (n, Some (Journal b)) ∷ m.1))
      × HasLog m.0.setting b.value h × Holds m'.0

  -- a try at the journal's turn: taken where the word was 0, and nothing else
  abbrev pub began : Step (Slot C) → Seated C → ℕ → Seated C → Type 0
  began st m r m' = (r ≡ 0 → (n : ℕ) → st.word ≡ n + 1 → Began m n m') × (r ≢ 0 → m' ≡ m)

  -- the journal goes back with the mark that it has at the seat's number, and so much is seen
  abbrev pub gave_back : (View → List Entry) → Seated C → Seated C → Type 0
  gave_back sees m m' = (n : ℕ) (b : Boxed) (more : List (ℕ × Slot C))
      → m.1 ≡ (n, Some (Journal b)) ∷ more → m' ≡ (given_back m.0 (sees m.0) (mark_of b.value.marks.items m.0.number), more)

  abbrev pub returned : Seated C → Seated C → Type 0
  returned m m' = gave_back (λ v. v.history) m m'

  abbrev pub returned_unseen : Seated C → Seated C → Type 0
  returned_unseen m m' = gave_back (λ v. v.seen) m m'

-- the recorded values in another world, from the cell i on
abbrev pub renew_from : ℕ → World → List (Option MCell) → List (Option MCell)
renew_from i w [] = []
renew_from i w (None ∷ hs) = None ∷ renew_from (i + 1) w hs
renew_from i w (Some m ∷ hs) = Some (part i w) ∷ renew_from (i + 1) w hs

abbrev pub renew : World → List (Option MCell) → List (Option MCell)
renew w hs = renew_from 0 w hs

-- after an entry of its own, with which the history is h
abbrev pub committed : View → List Entry → View
committed v h = record v { seen = h; mine = own v.number h; held = renew (after v.setting h) v.held; history = h }

-- the entry is the seat's own, it may follow the recorded history, what it sends on a connection is bytes, and every cell that
-- its step touches is held
pub record Commits (v : View) (e : Entry) : Type 0 where
  pub mine : e.worker ≡ v.number
  pub right : Right v.setting v.history e
  pub bytes : BeginsBytes e.act
  pub covers : (i : ℕ)
      → Touches v.setting (after v.setting v.history) (doing v.history e) i → (m : MCell) × (at v i ≡ Some m)

-- the entry that is shown
abbrev pub shown : Shown → Entry
shown (Whole e) = e.value
shown (Parts worker call go outcome state) = record { worker = worker; act = act_of go call.value; outcome = outcome.value; after = state }

abbrev pub added : Option Shown → List Entry
added None = []
added (Some s) = shown s ∷ []

-- the entry is the one that the journal in the open slot shows
abbrev pub wrote : {C : Type 0} → Seated C → Seated C → Type 0
wrote {C} m m' = (n : ℕ) (b : Boxed) (more : List (ℕ × Slot C))
    → m.1 ≡ (n, Some (Journal b)) ∷ more → m' ≡ (committed m.0 (m.0.history ++ added b.value.last.value), m.1)

abbrev pub with_seen : View → List Entry → View
with_seen v h = record v { seen = h }

-- The number found is the length of a legal history, which sends bytes on connections and begins with all that was seen and
-- heard. The seat's own entries in
-- it are `mine`, its spare numbers and those over 32 have none, and the recorded values are their parts of the world after it.
-- While the seat holds the journal, it is the history that its view records.
pub record Looked (v : View) (n : ℕ) (h : List Entry) : Type 0 where
  pub length_is : n ≡ length h
  pub heard : IsPrefix v.heard h
  pub legal : Legal v.setting h
  pub bytes : AllSendBytes h
  pub seen : IsPrefix v.seen h
  pub mine : v.numbered ≡ true → own v.number h ≡ v.mine
  pub spare : v.numbered ≡ true → (k : ℕ) → v.next ≤ k → own k h ≡ []
  pub parts : (i : ℕ) (m : MCell) → get_elem? v.held i ≡ some (Some m) → m ≡ part i (after v.setting h)
  pub recorded : v.journal ≡ true → h ≡ v.history

abbrev pub looked : {C : Type 0} → Seated C → ℕ → Seated C → Type 0
looked m r m' = (h : List Entry) × (m' ≡ (with_seen m.0 h, m.1)) × Looked m.0 r h

abbrev pub nothing : View → List (Option MCell)
nothing v = replicate v.setting.cells None

-- a seat that gave its least spare number away
abbrev pub giver : View → View
giver v = record v { next = v.next + 1 }

-- the new seat with that number, which is not out yet
abbrev pub given : View → View
given v =
    record v { number = v.next; next = 33; mine = []; held = nothing v; opened = 0; journal = false; mark = Absent; refused = [] }

-- a note of what a seat has seen
abbrev pub note_of : View → View
note_of v = record v { numbered = false; mine = []; held = nothing v; opened = 0; journal = false }

-- a seat that was told what the note has
abbrev pub told : View → View → View
told v w = record v { heard = w.seen }

abbrev pub spent : View
spent = record {
  setting = record { providers = usual; cells = 0; keeps = false };
  live = false;
  numbered = false;
  number = 0;
  next = 0;
  seen = [];
  heard = [];
  mine = [];
  held = [];
  opened = 0;
  journal = false;
  history = [];
  marks = [];
  mark = Absent;
  refused = [];
}
