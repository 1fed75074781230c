-- The size of a hall's table.
use Rattle.std.specs.Prelude.{◌≡◌, ◌+◌, ℕ}
use Rattle.atomic_table.specs.Seated.{TableId}
use Rattle.xti_hall_rule.specs.declared.setting.Setting.{Setting}

-- a word for the length, one for each turn and one for each of the 33 bells; a slot for each cell and one for the journal
abbrev pub IsSized : TableId → Setting → ℕ → Type 0
IsSized id setting cells = (id.words ≡ cells + 35) × (id.slots ≡ cells + 1) × (setting.cells ≡ cells)
