-- What a sink that tells its bytes takes.
use Rattle.std.specs.Prelude.{◌≡◌, ℕ, List, ◌++◌, Option, Some, None, ◌<◌, ◌≤◌, length, take, Result, Ok, Err}
use Rattle.xti_io.specs.declared.sink.WriteEnd.{WriteEnd}
use Rattle.xti_io.specs.declared.sink.WriteEnd.TheVariants.{Fault}

-- a sink that tells its bytes told them before, and has these more
abbrev pub Takes : Option (List ℕ) → Option (List ℕ) → List ℕ → Type 0
Takes before None more = Unit {0}
Takes before (Some now) more = (old : List ℕ) × (before ≡ Some old) × (now ≡ old ++ more)

-- one write: at least one byte is taken from the start of the piece; after an Err all is as before
abbrev pub Writes : {E : Type 0} → Option (List ℕ) → Option (List ℕ) → Result ℕ E → List ℕ → Type 0
Writes before now (Ok n) piece = (0 < n) × (n ≤ length piece) × Takes before now (take n piece)
Writes before now (Err e) piece = now ≡ before

-- a prefix of the text was taken, as long as the fault says, and not all
abbrev pub TakesUpTo : WriteEnd → Option (List ℕ) → Option (List ℕ) → List ℕ → Type 0
TakesUpTo (Fault written) before now text = (written < length text) × Takes before now (take written text)
