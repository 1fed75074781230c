-- A worker's lines, and where they stand in the script.
use Rattle.std.specs.Prelude.{ℕ, ◌+◌, List, [], ◌∷◌, map, if◌then◌else◌}
use Rattle.xti_model.specs.declared.script.Line.{Line}
use Rattle.xti_model.specs.Resolve.{is_of}

-- a line and its place
pub record Spot : Type 0 where
  pub place : ℕ
  pub line : Line

-- the worker's lines among these, of which the first stands here
abbrev pub spots_from : ℕ → List Line → ℕ → List Spot
spots_from from [] worker = []
spots_from from (line ∷ lines) worker =
    if is_of worker line then record { place = from; line = line } ∷ spots_from (from + 1) lines worker else spots_from (from + 1) lines worker

abbrev pub spots_of : List Line → ℕ → List Spot
spots_of lines worker = spots_from 0 lines worker

abbrev pub places_of : List Line → ℕ → List ℕ
places_of lines worker = map (λ (s : Spot). s.place) (spots_of lines worker)
