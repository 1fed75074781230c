-- What contracts see of the library and of its seats.
use Rattle.std.specs.Prelude.{◌≡◌, ◌⊎◌, ℕ, Bool, false, List, None}
use Rattle.xti_model.specs.declared.profile.Providers.{Providers}
use Rattle.xti_lent.specs.Lending.{Lending}
use Rattle.xti_hall_rule.specs.declared.view.View.{View}
use Rattle.xti_hall_rule.specs.declared.view.Mark.TheVariants.{Free}
use Rattle.xti_hall.specs.Seats.{SeatView}
use Rattle.xti_model.specs.History.{unfinished_from}
use Rattle.xti_hall.specs.Words.{setting_of, IsSameSeat, IsSeatOf}
use Rattle.xti_gather.specs.Lends.{IsEmpty}
use Rattle.xti_gather.specs.Orders.{AreCells}
use Rattle.xti_hall.specs.Stalls.{waits}
use Rattle.xti_step.specs.Steps.{HoldsNothing, Later}
use Rattle.xti_calls.specs.declared.shared.Xti.{Xti}

-- a seat between two calls holds nothing, nothing is lent, and it doesn't count as waiting; the numbers that it keeps are of cells
pub record IsReady (v : View) (l : Lending) (first : List ℕ) : Type 0 where
  pub idle : HoldsNothing v
  pub empty : IsEmpty l
  pub providers : l.providers ≡ v.setting.providers
  pub mark : waits v.mark ≡ false
  pub cells : AreCells l.providers first

-- the providers of the library
abbrev pub providers_of : Xti → Providers
providers_of x = (setting_of x.hall).providers

-- whether its history is kept
abbrev pub keeps_of : Xti → Bool
keeps_of x = (setting_of x.hall).keeps

-- the library made the seat
abbrev pub IsOf : Xti → SeatView → Type 0
IsOf x s = IsSeatOf x.hall s

-- the seat has no unfinished call
abbrev pub IsFree : SeatView → Type 0
IsFree s = unfinished_from None None s.view.mine ≡ None

-- the seat has an unfinished call
abbrev pub HasUnfinished : SeatView → Type 0
HasUnfinished s = IsFree s → ⊥

-- the library made the seat, which has no unfinished call
abbrev pub MayCall : Xti → SeatView → Type 0
MayCall x s = IsOf x s × IsFree s

-- it is the same seat, and its history goes on
abbrev pub GoesOn : SeatView → SeatView → Type 0
GoesOn s s' = IsSameSeat s s' × Later s.view s'.view

-- others see the seat as before, or as one that goes about its calls
abbrev pub IsMarkedAsBefore : SeatView → SeatView → Type 0
IsMarkedAsBefore s s' = (s'.view.mark ≡ s.view.mark) ⊎ (s'.view.mark ≡ Free)
