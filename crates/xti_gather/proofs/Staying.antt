-- A seat enters and leaves cells, and stays what it was.
use Rattle.std.proofs.Common.{◌≡◌, false, refl, ap, ◌∙◌}
use Rattle.xti_lent.specs.Lending.{Lending}
use Rattle.xti_hall_rule.specs.declared.view.View.{View}
use Rattle.xti_hall.specs.Seats.{SeatView, bare}
use Rattle.xti_hall.specs.Words.{IsSameSeat}
use Rattle.xti_hall.specs.declared.hall.Hall.{Hall}
use Rattle.xti_gather.specs.declared.cell.Cell as rust
use Rattle.xti_gather.specs.Cells.{InHall}
use Rattle.xti_gather.specs.Lends.{Lends}
use Rattle.xti_gather.proofs.Holdings.{same-providers, still-of}

-- it is the same seat, its view is the same but for the cells held and the tries, and what is lent is what it holds
pub record Stays (s s' : SeatView) (l' : Lending) : Type 0 where
  pub seat : IsSameSeat s s'
  pub rest : bare s'.view ≡ bare s.view
  pub lends : Lends s'.view l'

pub stays-first : (s : SeatView) (l : Lending) → Lends s.view l → Stays s s l
stays-first s l lends = record { seat = (refl, refl); rest = refl; lends = lends }

pub stays-on : (s s' s2 : SeatView) (l' l2 : Lending) → Stays s s' l' → IsSameSeat s' s2 → bare s2.view ≡ bare s'.view → Lends s2.view l2 → Stays s s2 l2
stays-on s s' s2 l' l2 stays same rest lends = record { seat = (same.0 ∙ stays.seat.0, same.1 ∙ stays.seat.1); rest = rest ∙ stays.rest; lends = lends }

pub still-providers : (s s' : SeatView) (l l' : Lending) → Lends s.view l → Stays s s' l' → l'.providers ≡ l.providers
still-providers s s' l l' lends stays = same-providers s.view s'.view l l' lends stays.lends stays.rest

pub still-in : (h : Hall rust.Cell) (s s' : SeatView) (l l' : Lending) → InHall h s l.providers → Lends s.view l → Stays s s' l' → InHall h s' l'.providers
still-in h s s' l l' within lends stays = still-of h s s' l.providers l'.providers within stays.seat.0 stays.rest (still-providers s s' l l' lends stays)

pub still-free : (s s' : SeatView) (l' : Lending) → s.view.journal ≡ false → Stays s s' l' → s'.view.journal ≡ false
still-free s s' l' free stays = ap (λ (z : View). z.journal) stays.rest ∙ free
