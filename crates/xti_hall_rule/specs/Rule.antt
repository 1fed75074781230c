-- The rule of a hall of n cells, whose seats step on the words and slots of one table.
--
-- Word 0 has the length of the history, word 1 + i the turn of the cell i, word 1 + n that of the journal, and word 2 + n + k
-- is the bell of the seat with the number k, of which the rule says nothing. The word of a turn is 1 while a seat holds the
-- turn, else 0.
-- Slot i has the value of the cell i, and slot n the journal: the length of the history, its entries where they are kept, and a
-- mark for each number from 0 to 32. The slot of a turn that is held is empty.
-- Each seat has a view, which says what it knows (`View`). The rule speaks of the live views.
use Rattle.std.specs.Prelude.{take, ◌≡◌, Box, ℕ, zero, suc, ◌+◌, ◌<◌, ◌≤◌, true, false, List, [], ◌∷◌, length, replicate, Option, Some, None, option_map, Bool, ◌⊎◌}
use Rattle.std.specs.declared.alloc.Global.{Global}
use mathlib.Core.Option.{some}
use mathlib.Core.Option as maybe
use mathlib.Core.List.{IsPrefix}
use lib.ListN.{get_or, get_elem?}
use Rattle.atomic_table.specs.Table.{State}
use Rattle.xti_model.specs.declared.entry.Entry.{Entry}
use Rattle.xti_model.specs.SentBytes.{AllSendBytes}
use Rattle.xti_model.specs.World.{Cell as MCell}
use Rattle.xti_hall_rule.specs.declared.setting.Setting.{Setting}
use Rattle.xti_hall_rule.specs.Histories.{part, own, after, Legal, Blocked}
use Rattle.xti_hall_rule.specs.declared.view.View.{View}
use Rattle.xti_hall_rule.specs.declared.view.Mark.{Mark}
use Rattle.xti_hall_rule.specs.declared.view.Mark.TheVariants.{Absent, Free, Waiting}
use Rattle.xti_hall_rule.specs.declared.view.Held.{Held}
use Rattle.xti_hall_rule.specs.declared.view.Held.TheVariants.{Cell, Journal}
use Rattle.xti_hall_rule.specs.declared.view.Journal.{Journal as Book}

abbrev pub Slot : Type 0 → Type 0
Slot C = Option (Held C)

-- where a cell's turn is: free; held by a seat, with the slot at home and empty; held by a seat that has the slot open
pub data Turn : Type 0 where
  free : Turn
  kept : ℕ → Turn
  opened : ℕ → Turn

-- the journal as it stands in its slot
abbrev pub Boxed : Type 0
Boxed = Box Book Global

-- the word of the turn
abbrev pub bit : Turn → ℕ
bit free = 0
bit (kept j) = 1
bit (opened j) = 1

-- 0, or 1 more than the seat that holds the turn
abbrev pub by : Turn → ℕ
by free = 0
by (kept j) = suc j
by (opened j) = suc j

-- what is kept of a history
abbrev pub recorded : Bool → List Entry → Option (List Entry)
recorded true h = Some h
recorded false h = None

-- the journal is that of this history: it has its length, and its entries just where they are kept
abbrev pub HasLog : Setting → Book → List Entry → Type 0
HasLog p b h = (b.length ≡ length h) × (option_map (λ v. v.items) b.kept ≡ recorded p.keeps h)

abbrev pub mark_of : List Mark → ℕ → Mark
mark_of marks k = get_or marks k Absent

-- a waiting mark has a want that is blocked after so many first entries
abbrev pub MarkFits : Setting → List Entry → Mark → Type 0
MarkFits p log (Waiting want len) = (len ≤ length log) × Blocked p (take len log) want
MarkFits p log other = Unit {0}

-- the marks before any seat was cut in two
abbrev pub opening_marks : List Mark
opening_marks = Free ∷ replicate 32 Absent

-- the view of the first seat
abbrev pub newcomer : Setting → View
newcomer p = record {
  setting = p;
  live = true;
  numbered = true;
  number = 0;
  next = 1;
  seen = [];
  heard = [];
  mine = [];
  held = replicate p.cells None;
  opened = 0;
  journal = false;
  history = [];
  marks = [];
  mark = Free;
  refused = [];
}

-- the seat j has a recorded value for the cell i
abbrev pub HasCell : List View → ℕ → ℕ → Type 0
HasCell views j i =
    (v : View) × (m : MCell) × (get_elem? views j ≡ some v) × (v.live ≡ true) × (get_elem? v.held i ≡ some (Some m))

-- the seat j holds the journal's turn
abbrev pub HasPen : List View → ℕ → Type 0
HasPen views j = (v : View) × (get_elem? views j ≡ some v) × (v.live ≡ true) × (v.journal ≡ true)

-- the number k is the seat's own, or one that it may still hand out
abbrev pub HasAsNumber : ℕ → View → Type 0
HasAsNumber k v = (v.live ≡ true) × (v.numbered ≡ true) × ((v.number ≡ k) ⊎ (v.next ≤ k))

-- the seat j has the number k
abbrev pub HasNumber : List View → ℕ → ℕ → Type 0
HasNumber views j k = (v : View) × (get_elem? views j ≡ some v) × HasAsNumber k v

-- What the rule says of one view, that of the seat j, where the history is `log`.
module _ (p : Setting) (log : List Entry) where
  -- the history begins with what was seen and heard, and the seat's own entries are the same in it and in what was seen
  pub record KnowsHistory (v : View) : Type 0 where
    pub setting : v.setting ≡ p
    pub seen : IsPrefix v.seen log
    pub mine : v.numbered ≡ true → own v.number log ≡ v.mine
    pub mine_seen : v.numbered ≡ true → own v.number v.seen ≡ v.mine
    pub no_calls : v.numbered ≡ false → v.mine ≡ []
    pub heard : IsPrefix v.heard log

  -- it holds the turn of each cell for which it has a recorded value, which is the cell's part of the world
  pub record KnowsCells (turns : ℕ → Turn) (j : ℕ) (v : View) : Type 0 where
    pub room : length v.held ≡ p.cells
    pub held : (i : ℕ) (m : MCell)
        → get_elem? v.held i ≡ some (Some m) → (by (turns i) ≡ suc j) × (m ≡ part i (after p log))
    pub opened_is : (i : ℕ) → i < p.cells → turns i ≡ opened j → v.opened ≡ suc i
    pub is_opened : (i : ℕ) → v.opened ≡ suc i → turns i ≡ opened j

  -- while it holds the journal, its history and marks are those of the hall
  pub record KnowsPen (marks : List Mark) (pen j : ℕ) (v : View) : Type 0 where
    pub held : v.journal ≡ true → (pen ≡ suc j) × (v.history ≡ log) × (v.marks ≡ marks)

  -- its number and its spare numbers are its own alone; its mark is that of its number; a spare number has no entries
  pub record KnowsNumbers (marks : List Mark) (owner : ℕ → ℕ) (j : ℕ) (v : View) : Type 0 where
    pub owned : owner v.number ≡ j
    pub below : v.number < v.next
    pub small : v.number < 33
    pub marked : mark_of marks v.number ≡ v.mark
    pub spare : (k : ℕ) → v.next ≤ k → k < 33 → (owner k ≡ j) × (own k log ≡ []) × (mark_of marks k ≡ Absent)

  pub record SeatOk (turns : ℕ → Turn) (marks : List Mark) (pen : ℕ) (owner : ℕ → ℕ) (j : ℕ) (v : View) : Type 0 where
    pub history : KnowsHistory v
    pub cells : KnowsCells turns j v
    pub journal : KnowsPen marks pen j v
    pub numbers : v.numbered ≡ true → KnowsNumbers marks owner j v

module _ {C : Type 0} (stands : C → List (ℕ × MCell) → Type 0) (p : Setting) where
  -- a value at home stands for the cell's part of the world
  abbrev pub CellIn : List (maybe.Option (Slot C)) → List Entry → ℕ → Turn → Type 0
  CellIn homes log i free =
      (x : C) × (get_elem? homes i ≡ some (some (Some (Cell x)))) × stands x ((i, part i (after p log)) ∷ [])
  CellIn homes log i (kept j) = get_elem? homes i ≡ some (some None)
  CellIn homes log i (opened j) = Unit {0}

  -- What the rule says of the cell i, whose turn is at `t`: its word and value fit, and a seat that holds it knows of it.
  pub record CellOk (words : List ℕ) (homes : List (maybe.Option (Slot C))) (views : List View) (log : List Entry) (i : ℕ)
      (t : Turn) : Type 0 where
    pub word : get_or words (i + 1) 0 ≡ bit t
    pub value : CellIn homes log i t
    pub has : (j : ℕ) → by t ≡ suc j → HasCell views j i

  -- a journal at home is that of the history, and has the marks
  abbrev pub PenIn : List (maybe.Option (Slot C)) → List Entry → List Mark → ℕ → Type 0
  PenIn homes log marks zero =
      (x : Boxed) × (get_elem? homes p.cells ≡ some (some (Some (Journal x))))
      × HasLog p x.value log × (x.value.marks.items ≡ marks)
  PenIn homes log marks (suc j) = Unit {0}

  -- What the rule says of the journal, whose turn is free (0) or held by the seat `pen` - 1.
  pub record PenOk (words : List ℕ) (homes : List (maybe.Option (Slot C))) (views : List View) (log : List Entry)
      (marks : List Mark) (pen : ℕ) : Type 0 where
    pub word : (pen ≡ 0 → get_or words (p.cells + 1) 0 ≡ 0)
        × ((j : ℕ) → pen ≡ suc j → get_or words (p.cells + 1) 0 ≡ 1)
    pub value : PenIn homes log marks pen
    pub has : (j : ℕ) → pen ≡ suc j → HasPen views j

  -- There is a history `log`, which is legal, in which what is sent on connections is bytes, and whose length is word 0, with no
  -- entries of numbers over 32. There are 33
  -- marks, of which those that wait have a want that was blocked at their length. Each cell, the journal and each live view are
  -- as above. Each number is that of a seat, or may still be handed out by one: so the mark of a number is absent just where no
  -- seat has it, or where the seat that was cut off with it has not yet given the journal back.
  pub record HallRule (s : State (Slot C) View) : Type 0 where
    pub log : List Entry
    pub marks : List Mark
    pub turns : ℕ → Turn
    pub pen : ℕ
    pub owner : ℕ → ℕ
    pub wide : length s.words ≡ p.cells + 35
    pub deep : length s.homes ≡ p.cells + 1
    pub count : get_or s.words 0 0 ≡ length log
    pub legal : Legal p log
    pub bytes : AllSendBytes log
    pub workers : (k : ℕ) → 33 ≤ k → own k log ≡ []
    pub many : length marks ≡ 33
    pub marked : (k : ℕ) → MarkFits p log (mark_of marks k)
    pub each_cell : (i : ℕ) → i < p.cells → CellOk s.words s.homes s.views log i (turns i)
    pub journal : PenOk s.words s.homes s.views log marks pen
    pub each_seat : (j : ℕ) (v : View)
        → get_elem? s.views j ≡ some v → v.live ≡ true → SeatOk p log turns marks pen owner j v
    pub each_number : (k : ℕ) → k < 33 → HasNumber s.views (owner k) k
