-- The first line by which a text is no journal.
use Rattle.std.specs.Prelude.{◌≡◌, ℕ, ◌==◌, ◌<◌, List, [], ◌∷◌, ◌++◌, map, take, Option, Some, None, if◌then◌else◌}
use Rattle.std.specs.List.{onto_first}
use Rattle.xti_model.specs.declared.script.Journal.{Journal}
use Rattle.xti_journal.specs.Grammar.{IsJournal}

-- each line with its LF, which the last line may lack
abbrev pub lines_of : List ℕ → List (List ℕ)
lines_of [] = []
lines_of (c ∷ text) = if c == 10 then (c ∷ []) ∷ lines_of text else onto_first c (lines_of text)

abbrev pub some : List ℕ → Option (List ℕ)
some line = Some line

-- the lines of a text, and its end as one more
abbrev pub ended_lines : List ℕ → List (Option (List ℕ))
ended_lines text = map some (lines_of text) ++ None ∷ []

-- some journal has the first n lines of the text
pub record CanBegin (text : List ℕ) (n : ℕ) : Type 0 where
  pub journal : Journal
  pub other : List ℕ
  pub is_journal : IsJournal journal other
  pub same : take n (ended_lines other) ≡ take n (ended_lines text)

-- n is the least number of first lines that no journal has
pub record IsRefusedAt (text : List ℕ) (n : ℕ) : Type 0 where
  pub refused : CanBegin text n → ⊥
  pub least : (m : ℕ) → m < n → CanBegin text m
