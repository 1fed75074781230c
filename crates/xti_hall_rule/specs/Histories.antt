-- Histories and worlds of a hall's providers.
use Rattle.std.specs.Prelude.{◌≡◌, ℕ, true, List, Option, Some, None, option_and_then}
use Rattle.xti_model.specs.declared.entry.Entry.{Entry}
use Rattle.xti_model.specs.World as world
use Rattle.xti_model.specs.World.{Numbered, Cell, endpoint_cell, cell_at, is_among}
use Rattle.xti_model.specs.History as history
use Rattle.xti_model.specs.History.{Going, step_going, step_at, left_by, Fits}
use Rattle.xti_model.specs.Touched.{touched}
use Rattle.xti_model.specs.Wants.{is_want_blocked}
use Rattle.xti_wants.specs.declared.want.Want.{Want}
use Rattle.xti_wants.specs.Meaning.{meaning}
use Rattle.xti_hall_rule.specs.declared.setting.Setting.{Setting}

abbrev pub World : Type 0
World = world.World

abbrev pub cell_or_closed : Option Numbered → Cell
cell_or_closed None = endpoint_cell 0 None
cell_or_closed (Some c) = c.cell

-- the cell i of a world
abbrev pub part : ℕ → World → Cell
part i w = cell_or_closed (cell_at w i)

abbrev pub opening : Setting → World
opening p = world.opening p.providers

-- the entries of the worker k
abbrev pub own : ℕ → List Entry → List Entry
own k h = history.own h k

-- the world after the entries
abbrev pub after : Setting → List Entry → World
after p h = history.after p.providers h

abbrev pub Legal : Setting → List Entry → Type 0
Legal p h = history.Legal p.providers h

-- the entry may follow those of `past`
abbrev pub Right : Setting → List Entry → Entry → Type 0
Right p past e = Fits (step_at p.providers (after p past) past e) e

-- the world after one more step
abbrev pub next_world : Setting → World → Option Going → World
next_world p w g = left_by w (option_and_then (step_going p.providers w) g)

-- the step touches the cell i
abbrev pub Touches : Setting → World → Option Going → ℕ → Type 0
Touches p w None i = ⊥
Touches p w (Some g) i = is_among (touched p.providers w g.call) i ≡ true

-- the want is blocked after these entries
abbrev pub Blocked : Setting → List Entry → Want → Type 0
Blocked p h w = is_want_blocked p.providers (after p h) (meaning w) ≡ true
