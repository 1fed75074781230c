-- The order in which workers other than 0 are asked, with finished ones left out.
use Rattle.std.specs.Prelude.{ℕ, ◌-◌, ◌≡◌, ◌⊎◌, true, List, [], ◌∷◌, ◌++◌}
use Rattle.xti_model.specs.declared.entry.Entry.{Entry}
use Rattle.xti_model.specs.declared.script.Line.{Line}
use Rattle.xti_model.specs.Robin.{is_through, last_worker, numbers, order_after}
use Rattle.xti_replay.specs.declared.workers.Worker.{Worker}
use Rattle.xti_replay.specs.Progress.{AreKept}

-- these are the workers of the list, in its order, but for some that are finished
abbrev pub LeavesOutFinished : List Line → List Entry → List ℕ → List ℕ → Type 0
LeavesOutFinished lines past [] these = these ≡ []
LeavesOutFinished lines past (number ∷ numbers) these =
    ((is_through lines past number ≡ true) × LeavesOutFinished lines past numbers these) ⊎ ((rest : List ℕ) × (these ≡ number ∷ rest) × LeavesOutFinished lines past numbers rest)

-- the workers other than 0 in the order of their turns, but for some that are finished
abbrev pub AreTurns : List Line → List Entry → List ℕ → Type 0
AreTurns lines past turns = LeavesOutFinished lines past (order_after (last_worker 0 past)) turns

-- by each history that has the workers as they are, these numbers were added to the turns, but for some of finished workers
abbrev pub AddsTurns : List Worker → List ℕ → List ℕ → List ℕ → Type 0
AddsTurns ws numbers old new =
    (lines : List Line) (past : List Entry) → AreKept lines past ws → (more : List ℕ) × (new ≡ old ++ more) × LeavesOutFinished lines past numbers more

-- the same of the numbers from one on, up to another
abbrev pub AddsTurnsFrom : ℕ → ℕ → List Worker → List ℕ → List ℕ → Type 0
AddsTurnsFrom from to ws old new = AddsTurns ws (numbers from (to - from)) old new

-- these are the turns of the workers after the history, whatever their lines
abbrev pub AreTurnsOf : List Worker → List Entry → List ℕ → Type 0
AreTurnsOf ws past turns = (lines : List Line) → AreKept lines past ws → AreTurns lines past turns
