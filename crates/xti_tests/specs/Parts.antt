-- A step that is a part of a call.
use Rattle.std.specs.Prelude.{◌≡◌, ℕ}
use Rattle.xti_model.specs.declared.entry.Applied.{Applied}
use Rattle.xti_model.specs.declared.entry.Applied.TheVariants as applied
use Rattle.xti_model.specs.declared.entry.Outcome.TheVariants.{Part}

-- the step was made, and so many bytes are taken of a call that goes on
abbrev pub IsPart : Applied → ℕ → Type 0
IsPart (applied.Step outcome state) n = outcome ≡ Part n
IsPart applied.Blocked n = ⊥
