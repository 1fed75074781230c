-- The bytes of a name, where they stand.
use Rattle.std.specs.Prelude.{ℕ, ◌≤◌, List, take}
use Rattle.xti_model.specs.declared.name.Text.{Text}
use Rattle.xti_model.specs.declared.name.Text.TheVariants.{Short, Long}

-- the bytes of a name
abbrev pub text_bytes : Text → List ℕ
text_bytes (Short len bytes) = take len bytes
text_bytes (Long bytes) = bytes.value

-- a short name has at most 14 bytes
abbrev pub fits : Text → Type 0
fits (Short len bytes) = len ≤ 14
fits (Long bytes) = Unit {0}
