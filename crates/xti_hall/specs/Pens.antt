-- What contracts see of a pen.
use Rattle.std.specs.Prelude.{◌≡◌, ℕ, List}
use Rattle.atomic_table.specs.Seated.{TableId}
use Rattle.xti_model.specs.declared.entry.Entry.{Entry}
use Rattle.xti_hall_rule.specs.declared.view.Journal.{Journal}
use Rattle.xti_hall_rule.specs.declared.view.Mark.{Mark}
use Rattle.xti_hall_rule.specs.declared.view.View.{View}
use Rattle.xti_hall_rule.specs.declared.setting.Setting.{Setting}
use Rattle.xti_hall_rule.specs.Rule.{HasLog}
use Rattle.xti_hall.specs.Seats.{SeatView}

-- the hall of the seat that holds the journal, its number and the history that it recorded, and the marks that the journal has
pub record PenView : Type 0 where
  pub hall : TableId
  pub setting : Setting
  pub number : ℕ
  pub history : List Entry
  pub marks : List Mark

abbrev pub pen_view : TableId → View → Journal → PenView
pen_view hall v j = record { hall = hall; setting = v.setting; number = v.number; history = v.history; marks = j.marks.items }

-- the pen is that of the seat's `begin`
abbrev pub IsPenOf : SeatView → PenView → Type 0
IsPenOf s p =
    (p.hall ≡ s.hall) × (p.setting ≡ s.view.setting) × (p.number ≡ s.view.number) × (p.history ≡ s.view.history) × (p.marks ≡ s.view.marks)

-- the pen is of this seat
abbrev pub IsOfSeat : SeatView → PenView → Type 0
IsOfSeat s p = (p.hall ≡ s.hall) × (p.setting ≡ s.view.setting) × (p.number ≡ s.view.number)

-- it has the history that the seat recorded, and this journal's marks
abbrev pub HasFound : SeatView → Journal → PenView → Type 0
HasFound s j p = (p.history ≡ s.view.history) × (p.marks ≡ j.marks.items)

-- the journal is the pen's
abbrev pub IsJournalOf : PenView → Journal → Type 0
IsJournalOf p j = HasLog p.setting j p.history × (p.marks ≡ j.marks.items)
