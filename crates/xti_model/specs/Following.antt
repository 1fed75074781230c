-- A worker that has made the calls of its lines so far, with names whose meaning stays.
use Rattle.std.specs.Prelude.{ℕ, ◌≤◌, List, length, take}
use Rattle.std.specs.List.{AllByRecursion}
use Rattle.xti_model.specs.declared.entry.Entry.{Entry}
use Rattle.xti_model.specs.declared.script.Line.{Line}
use Rattle.xti_model.specs.Resolve.{Placed, placed, lines_of, begun}
use Rattle.xti_model.specs.Complete.{Follows}

-- the worker has begun all its lines among these
abbrev pub HasBegunAll : List Line → List Entry → ℕ → Type 0
HasBegunAll lines past worker = length (lines_of lines worker) ≤ length (begun past worker)

-- what the names of a line stand for is settled: its worker has begun its lines before it, and so has worker 0
abbrev pub IsSettled : List Entry → Placed → Type 0
IsSettled past l = HasBegunAll l.earlier past l.line.worker × HasBegunAll l.earlier past 0

-- a worker has followed its lines, and the names in those that it has begun are settled
pub record IsFollowed (lines : List Line) (past : List Entry) (worker : ℕ) : Type 0 where
  pub follows : Follows past lines worker
  pub settled : AllByRecursion (IsSettled past) (take (length (begun past worker)) (placed lines worker))
