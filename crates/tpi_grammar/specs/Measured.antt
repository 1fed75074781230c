-- What is at the start of an input: a frame, the start of one, or neither.
use Rattle.std.specs.Prelude.{◌≡◌, ◌≤◌, ◌<◌, ℕ, suc, List, ◌++◌, length, take}
use Rattle.tpi_grammar.specs.Form.{Outcome, whole, short, bad}
use Rattle.tpi_grammar.specs.Frame.{Filled, IsFilled, spelling}
use Rattle.tpi_grammar.specs.declared.measure.Measure.{Measure}
use Rattle.tpi_grammar.specs.declared.measure.Measure.TheVariants.{Whole, Short, Bad}

-- some row filled in has this encoding
abbrev pub IsFrame : List ℕ → Type 0
IsFrame bs = (f : Filled) × IsFilled f × (bs ≡ spelling f)

-- some frame begins so
abbrev pub BeginsFrame : List ℕ → Type 0
BeginsFrame bs = (more : List ℕ) × IsFrame (bs ++ more)

-- no frame is a prefix of the input
abbrev pub HasNoFrame : List ℕ → Type 0
HasNoFrame bs = (n : ℕ) → n ≤ length bs → IsFrame (take n bs) → ⊥

abbrev pub outcome_of : Measure → Outcome
outcome_of (Whole n) = whole n
outcome_of Short = short
outcome_of (Bad at) = bad at

-- what an outcome says: the first n bytes are a frame; the input is a proper prefix of a frame; or no frame is a prefix
-- of it, and `at` is the first place such that no frame begins with the bytes up to and with it
abbrev pub MeansFrame : List ℕ → Outcome → Type 0
MeansFrame bs (whole n) = (n ≤ length bs) × IsFrame (take n bs)
MeansFrame bs short = BeginsFrame bs × HasNoFrame bs
MeansFrame bs (bad at) = (at < length bs) × BeginsFrame (take at bs) × (BeginsFrame (take (suc at) bs) → ⊥) × HasNoFrame bs
