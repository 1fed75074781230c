-- What a cell of a hall stands for, and what a hall of all cells is.
use Rattle.std.specs.Prelude.{◌≡◌, ◌<◌, ◌+◌, ℕ, Bool, List, [], ◌∷◌}
use Rattle.xti_model.specs.declared.profile.Providers.{Providers}
use Rattle.xti_model.specs.World.{Cell as MCell, switch_cell, places, switch_number}
use Rattle.xti_end.specs.Held.{cell}
use Rattle.xti_hall_rule.specs.declared.setting.Setting.{Setting}
use Rattle.xti_hall_rule.specs.Rule.{newcomer}
use Rattle.xti_hall.specs.declared.hall.Hall.{Hall}
use Rattle.xti_hall.specs.Seats.{SeatView, StandInOrder}
use Rattle.xti_hall.specs.Words.{IsSeatOf, id_of, setting, setting_of}
use Rattle.xti_gather.specs.declared.cell.Cell.{Cell}
use Rattle.xti_gather.specs.declared.cell.Cell.TheVariants.{End, Switch}

-- the endpoint of a place stands for that place's cell, and the switch's table for the switch's
abbrev pub StandsFor : Providers → Cell → List (ℕ × MCell) → Type 0
StandsFor p (End e) l = (e.value.place < places p) × (l ≡ (e.value.place, cell e.value) ∷ [])
StandsFor p (Switch r) l = l ≡ (switch_number p, switch_cell r.value.switch) ∷ []

-- a hall of these providers, with a cell for each place and one for the switch, whose history is kept or not
abbrev pub whole : Providers → Bool → Setting
whole p keeps = setting p (places p + 1) keeps

-- the hall has all cells of these providers
abbrev pub IsWhole : Setting → Providers → Type 0
IsWhole s p = s ≡ whole p s.keeps

-- the seat is in this hall, which made it and has all cells of these providers
abbrev pub InHall : Hall Cell → SeatView → Providers → Type 0
InHall h s p = IsSeatOf h s × IsWhole (setting_of h) p

-- the cells are those of the opening world, in order, of a hall whose history is kept or not
abbrev pub AreOpeningCells : Providers → List Cell → Type 0
AreOpeningCells p xs = (keeps : Bool) → StandInOrder (λ s. StandsFor s.providers) (whole p keeps) xs

-- the hall's first seat
abbrev pub IsFirstSeat : Providers → Bool → Hall Cell → SeatView → Type 0
IsFirstSeat p keeps h s = (s.hall ≡ id_of h) × (s.view ≡ newcomer (whole p keeps))
