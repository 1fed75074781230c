-- What clauses say of a hall and of whose a seat is.
use Rattle.std.specs.Prelude.{◌≡◌, ℕ, Bool}
use Rattle.xti_model.specs.declared.profile.Providers.{Providers}
use Rattle.atomic_table.specs.Seated.{TableId}
use Rattle.atomic_table.specs.declared.shared.Seat.{Seat}
use Rattle.xti_hall_rule.specs.declared.setting.Setting.{Setting}
use Rattle.xti_hall_rule.specs.declared.view.View.{View}
use Rattle.xti_hall_rule.specs.Rule.{Slot, newcomer}
use Rattle.xti_hall.specs.declared.hall.Hall.{Hall}
use Rattle.xti_hall.specs.Seats.{SeatView}

-- these providers, so many cells, and whether the history is kept
abbrev pub setting : Providers → ℕ → Bool → Setting
setting p cells keeps = record { providers = p; cells = cells; keeps = keeps }

-- the view of the first seat of a hall of these providers, with so many cells
abbrev pub first_view : Providers → ℕ → Bool → View
first_view p cells keeps = newcomer (setting p cells keeps)

module _ {C : Type 0} where
  -- the providers of the hall, and the number of its cells
  abbrev pub setting_of : Hall C → Setting
  setting_of h = h.table.shared.key

  -- the number of its cells, which is that of the journal's slot too
  abbrev pub cells_of : Hall C → ℕ
  cells_of h = h.table.shared.key.cells

  -- which hall it is
  abbrev pub id_of : Hall C → TableId
  id_of h = h.table.shared.table_id

  -- this hall made the seat
  abbrev pub IsSeatOf : Hall C → SeatView → Type 0
  IsSeatOf h s = (s.hall ≡ id_of h) × (s.view.setting ≡ setting_of h)

  -- the same of a seat of the hall's table
  abbrev pub IsOf : Hall C → Seat (Slot C) View → Type 0
  IsOf h s = s.table_id ≡ h.table.shared.table_id

  abbrev pub IsSame : Seat (Slot C) View → Seat (Slot C) View → Type 0
  IsSame old new = (new.table_id ≡ old.table_id) × (new.id ≡ old.id)

-- it is the same seat, whatever it has learnt
abbrev pub IsSameSeat : SeatView → SeatView → Type 0
IsSameSeat old new = (new.hall ≡ old.hall) × (new.id ≡ old.id)
