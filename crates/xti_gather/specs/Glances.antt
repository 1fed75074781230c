-- What a glance at a descriptor tells its seat.
use Rattle.std.specs.Prelude.{◌≡◌, ℕ, true, [], ◌∷◌, ◌++◌, length, Option, Some, None}
use mathlib.Core.List.{IsPrefix}
use lib.ListN.{get_or}
use Rattle.xti_base.specs.declared.kinds.Event.{Event}
use Rattle.xti_base.specs.declared.kinds.Fd.{Fd}
use Rattle.xti_base.specs.declared.kinds.State.{State}
use Rattle.xti_model.specs.declared.call.Call.TheVariants.{TLookAt}
use Rattle.xti_model.specs.Touched.{touched}
use Rattle.xti_model.specs.World.{World, is_among}
use Rattle.xti_lent.specs.Lending.{cells_by}
use Rattle.xti_core.specs.Looks.{sight_in}
use Rattle.xti_hall_rule.specs.declared.view.Refusal.{Refusal}
use Rattle.xti_hall_rule.specs.declared.view.View.{View}
use Rattle.xti_hall_rule.specs.Histories.{after}
use Rattle.xti_gather.specs.declared.glancing.found.Glance.{Glance}
use Rattle.xti_gather.specs.declared.glancing.found.Glance.TheVariants.{Seen, Gone, Busy}

-- the same seat later: its numbers, its own entries, its mark, and whether it has the journal are as before, and it has seen no
-- less
pub record IsSameLater (v v' : View) : Type 0 where
  pub setting : v'.setting ≡ v.setting
  pub number : v'.number ≡ v.number
  pub next : v'.next ≡ v.next
  pub mine : v'.mine ≡ v.mine
  pub mark : v'.mark ≡ v.mark
  pub journal : v'.journal ≡ v.journal
  pub seen : IsPrefix v.seen v'.seen

-- what the seat has seen is the whole history at some point, which has so many entries; it met no turn that was held
pub record LooksOver (v v' : View) (at : ℕ) : Type 0 where
  pub all : at ≡ length v'.seen
  pub refused : v'.refused ≡ v.refused

-- what is shown, in the whole world after what the seat has seen, by the endpoint that is open there with the descriptor
abbrev pub shown_after : View → Fd → Option (State × Option Event)
shown_after v fd = sight_in v.setting.providers (after v.setting v.seen) fd.0

-- the cells that the seat held when it found a turn held, and no others
abbrev pub held_then : View → Refusal → World
held_then v r = cells_by v.setting.providers (λ i. get_or r.held i None)

-- The seat has seen no more, and met one turn that was held: that of this cell, which a look at the descriptor touches, as the
-- cells tell that it held then.
pub record IsHeldUp (v v' : View) (fd : Fd) (cell : ℕ) : Type 0 where
  pub seen : v'.seen ≡ v.seen
  pub met : Refusal
  pub refused : v'.refused ≡ v.refused ++ met ∷ []
  pub at : met.cell ≡ cell
  pub touches : is_among (touched v.setting.providers (held_then v met) (TLookAt fd)) cell ≡ true

-- what a glance finds: the endpoint with its state and first pending event, or none, in the world after the whole history; or
-- a turn that is held
abbrev pub Finds : View → View → Fd → Glance → Type 0
Finds v v' fd (Seen state event at) = LooksOver v v' at × (shown_after v' fd ≡ Some (state, event))
Finds v v' fd (Gone at) = LooksOver v v' at × (shown_after v' fd ≡ None)
Finds v v' fd (Busy cell) = IsHeldUp v v' fd cell
