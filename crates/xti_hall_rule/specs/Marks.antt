-- What the marks of a hall say of its seats.
use Rattle.std.specs.Prelude.{◌≡◌, ◌≢◌, ◌<◌, ℕ, true, List}
use mathlib.Core.Option.{some}
use lib.ListN.{get_elem?}
use Rattle.atomic_table.specs.Table.{State}
use Rattle.xti_model.specs.World.{Cell}
use Rattle.xti_hall_rule.specs.declared.setting.Setting.{Setting}
use Rattle.xti_hall_rule.specs.declared.view.Mark.{Mark}
use Rattle.xti_hall_rule.specs.declared.view.Mark.TheVariants.{Absent}
use Rattle.xti_hall_rule.specs.declared.view.View.{View}
use Rattle.xti_hall_rule.specs.Rule.{Slot, HallRule, mark_of}

-- a seat with the number k is out, and has this mark
abbrev pub IsOutWith : List View → ℕ → Mark → Type 0
IsOutWith views k mark =
    (j : ℕ) × (v : View) × (get_elem? views j ≡ some v) × (v.live ≡ true) × (v.numbered ≡ true) × (v.number ≡ k) × (v.mark ≢ Absent)
    × (v.mark ≡ mark)

-- a mark is absent exactly where no seat with its number is out, and any other is that of the seat
abbrev pub MarksOfSeatsOut : List View → (ℕ → Mark) → Type 0
MarksOfSeatsOut views marks =
    (k : ℕ) → k < 33
    → (marks k ≡ Absent → (mark : Mark) → IsOutWith views k mark → ⊥) × (marks k ≢ Absent → IsOutWith views k (marks k))

-- whatever the hall is
abbrev pub MarksAreOfSeatsOut : {C : Type 0} → (Setting → C → List (ℕ × Cell) → Type 0) → Type 0
MarksAreOfSeatsOut {C} stands =
    (p : Setting) (s : State (Slot C) View) (r : HallRule (stands p) p s) → MarksOfSeatsOut s.views (mark_of r.marks)
