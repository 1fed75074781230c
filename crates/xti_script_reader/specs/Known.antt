-- What is kept beside the lines so far, so that no line is looked up in them.
use Rattle.std.specs.Prelude.{◌≡◌, ℕ, ◌+◌, ◌==◌, Bool, ◌&&◌, ◌||◌, List, [], ◌∷◌, ◌++◌, length, Option, IfSome, Result, IfOk}
use Rattle.std.specs.List.{list_any}
use Rattle.std.specs.declared.alloc.AllocError.{AllocError}
use Rattle.xti_model.specs.declared.script.Line.{Line}
use Rattle.xti_model.specs.declared.script.NamedCall.{NamedCall}
use Rattle.xti_model.specs.Resolve.{opens, listens}
use Rattle.xti_model.specs.Work.{script_bytes}
use Rattle.xti_script_reader.specs.Names.{Defining}
use Rattle.xti_script_reader.specs.Reading.{line_with}
use Rattle.xti_script_reader.specs.TextSets.{TextSet, has_at}
use Rattle.xti_base.specs.declared.limits.TheConstants.{WORKERS, MOST_ARGUMENT_BYTES}

-- whether the line is one of the worker that defines the name
abbrev pub is_own : Defining → ℕ → List ℕ → Line → Bool
is_own defining worker name line = (line.worker == worker) && defining name line.call

-- the new sets have the names of the old ones, and that which the line defines for its worker
abbrev pub TakesName : Defining → Line → List TextSet → List TextSet → Type 0
TakesName defining line old new = (worker : ℕ) (name : List ℕ) → has_at new worker name ≡ (has_at old worker name || is_own defining worker name line)

-- the same of the line of this worker with this call
abbrev pub TakesCall : Defining → ℕ → NamedCall → List TextSet → List TextSet → Type 0
TakesCall defining worker call old new = TakesName defining (line_with worker call) old new

-- the line of this worker with this call is the last one more
abbrev pub HasCall : ℕ → NamedCall → List Line → List Line → Type 0
HasCall worker call old new = new ≡ old ++ line_with worker call ∷ []

-- this holds where a line is added, after which so many bytes are left
abbrev pub IfAdded : Result (Option ℕ) AllocError → Type 0 → Type 0
IfAdded result holds = IfOk result (λ left. IfSome left (λ _. holds))

-- each worker has a set, with the names that its lines define
pub record HaveNames (defining : Defining) (lines : List Line) (sets : List TextSet) : Type 0 where
  pub workers : length sets ≡ WORKERS
  pub own : (worker : ℕ) (name : List ℕ) → has_at sets worker name ≡ list_any (is_own defining worker name) lines

-- the names of endpoints and of sequence numbers that the lines define, and how many bytes the arguments of further lines may have
pub record Knows (lines : List Line) (opened listened : List TextSet) (left : ℕ) : Type 0 where
  pub endpoints : HaveNames opens lines opened
  pub sequences : HaveNames listens lines listened
  pub bytes : left + script_bytes lines ≡ MOST_ARGUMENT_BYTES
