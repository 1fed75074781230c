-- A run of a script beside its entries so far.
use Rattle.std.specs.Prelude.{ℕ, ◌≡◌, ◌<◌, ◌⊎◌, true, false, List, [], ◌∷◌, ◌++◌, Option, Some, None, if◌then◌else◌}
use Rattle.std.specs.List.{AllByRecursion}
use Rattle.xti_base.specs.declared.limits.TheConstants.{WORKERS}
use Rattle.xti_model.specs.declared.entry.Entry.{Entry}
use Rattle.xti_model.specs.declared.script.Line.{Line}
use Rattle.xti_model.specs.declared.script.Script.{Script}
use Rattle.xti_model.specs.declared.script.StallLine.{StallLine}
use Rattle.xti_model.specs.Robin.{is_through, last_worker, robin_from, most_steps, Turn, turn, next_turn}
use Rattle.xti_replay.specs.declared.run.Run.{Run}
use Rattle.xti_replay.specs.Asking.{HasGoneOn}
use Rattle.xti_replay.specs.Progress.{AreKept, made_by}
use Rattle.xti_replay.specs.Stalls.{gone_on, stalls_after}
use Rattle.xti_replay.specs.Turns.{AreTurns}

-- the entry that is kept of the run's last step
abbrev pub made_of : Run → Option Entry
made_of r = made_by r.made r.entry

-- the run stands where its lines have come by these entries
pub record StandsAfter (past : List Entry) (r : Run) : Type 0 where
  pub kept : AreKept r.lines.now past r.workers.items
  pub turns : AreTurns r.lines.now past r.turns.items
  pub last : last_worker 0 past < WORKERS
  pub setup : is_through r.lines.now past 0 ≡ false → last_worker 0 past ≡ 0

-- the run has gone on by this turn, and answered its entry; or there is none, and it stands as before
abbrev pub GoesOn : List Entry → Run → Run → Option Entry → Option Turn → Type 0
GoesOn past old new entry None = (entry ≡ None) × (new.world ≡ old.world) × StandsAfter past new
GoesOn past old new entry (Some t) = (entry ≡ Some t.entry) × (new.world.cells ≡ t.world) × StandsAfter (past ++ t.entry ∷ []) new

-- the next turn of the run, by the definition
abbrev pub next_turn_of : Run → List Entry → Option Turn
next_turn_of r past = next_turn r.world.providers r.lines.now r.world.cells past

-- whatever history the run stood after, it has gone on by its next turn and answered the entry of that, if there is one
abbrev pub TakesNextTurn : Run → Run → Option Entry → Type 0
TakesNextTurn old new entry = (past : List Entry) → StandsAfter past old → GoesOn past old new entry (next_turn_of old past)

-- no step was made: the world is as before, and each worker stands as the entries so far have it; or the step of this turn was made, in the world alone
abbrev pub Remains : List Entry → Run → Run → Option Turn → Type 0
Remains past old new next = ((new.world ≡ old.world) × AreKept old.lines.now past new.workers.items) ⊎ HasGoneOn new.world next

-- so much is left of the run where its next turn failed, whatever history it stood after
abbrev pub FailsNextTurn : Run → Run → Type 0
FailsNextTurn old new = (past : List Entry) → StandsAfter past old → Remains past old new (next_turn_of old past)

-- the run stands after some history in which worker 0 is finished
abbrev pub StandsPastSetup : Run → Type 0
StandsPastSetup r = (past : List Entry) × StandsAfter past r × (is_through r.lines.now past 0 ≡ true)

-- the same of a run in which worker 0 is finished
abbrev pub TakesTurnOfOthers : Run → Run → Option Entry → Type 0
TakesTurnOfOthers old new entry = (past : List Entry) → StandsAfter past old → is_through old.lines.now past 0 ≡ true → GoesOn past old new entry (next_turn_of old past)

-- so much is left of it where that turn failed
abbrev pub FailsTurnOfOthers : Run → Run → Type 0
FailsTurnOfOthers old new = (past : List Entry) → StandsAfter past old → is_through old.lines.now past 0 ≡ true → Remains past old new (next_turn_of old past)

-- these are the run's stall lines, whatever history it stands after
abbrev pub AreStallsOf : Run → List StallLine → Type 0
AreStallsOf r stalls = (past : List Entry) → StandsAfter past r → stalls ≡ stalls_after r.lines.now past

-- worker 0 is finished, and each worker stands as the entries so far have it
pub record AsksOthers (past : List Entry) (r : Run) : Type 0 where
  pub kept : AreKept r.lines.now past r.workers.items
  pub through : is_through r.lines.now past 0 ≡ true
  pub within : AllByRecursion (λ number. (0 < number) × (number < WORKERS)) r.turns.items

-- these, and the worker where it isn't finished
abbrev pub put_back : List Line → List Entry → ℕ → List ℕ → List ℕ
put_back lines past number rest = if is_through lines past number then rest else rest ++ number ∷ []

-- the worker was asked, and comes last where it isn't finished
abbrev pub HasAsked : List Entry → ℕ → List ℕ → Run → Run → Option Entry → Option Turn → Type 0
HasAsked past number rest old new entry None =
    (entry ≡ None) × (new.world ≡ old.world) × AreKept old.lines.now past new.workers.items × (new.turns.items ≡ put_back old.lines.now past number rest)
HasAsked past number rest old new entry (Some t) =
    (entry ≡ Some t.entry) × (new.world.cells ≡ t.world) × (t.entry.worker ≡ number) × AreKept old.lines.now (past ++ t.entry ∷ []) new.workers.items
    × (new.turns.items ≡ put_back old.lines.now (past ++ t.entry ∷ []) number rest)

-- the worker that comes first was asked, whatever history the run stood after
abbrev pub AsksFirst : Run → Run → Option Entry → Type 0
AsksFirst old new entry =
    (past : List Entry) (number : ℕ) (rest : List ℕ) → AsksOthers past old → old.turns.items ≡ number ∷ rest → HasAsked past number rest old new entry (turn old.world.providers old.lines.now old.world.cells past number)

-- so much is left of the run where the worker that comes first failed
abbrev pub FailsFirst : Run → Run → Type 0
FailsFirst old new =
    (past : List Entry) (number : ℕ) (rest : List ℕ) → AsksOthers past old → old.turns.items ≡ number ∷ rest → Remains past old new (turn old.world.providers old.lines.now old.world.cells past number)

-- the run is one of the script, after these entries; at most so many steps more lead to all
pub record Leads (s : Script) (all : List Entry) (more : ℕ) (past : List Entry) (r : Run) : Type 0 where
  pub stands : StandsAfter past r
  pub lines : r.lines.now ≡ s.lines
  pub providers : r.world.providers ≡ s.providers
  pub left : robin_from s.providers s.lines more r.world.cells past ≡ all

abbrev pub IsRunOf : Script → List Entry → List Entry → Run → Type 0
IsRunOf s all past r = Leads s all most_steps past r

-- the run is one of the script, after all these entries
pub record IsWhole (s : Script) (all : List Entry) (r : Run) : Type 0 where
  pub stands : StandsAfter all r
  pub lines : r.lines.now ≡ s.lines

-- the stall lines after those
abbrev pub last_stalls : Script → List Entry → List StallLine
last_stalls s past = stalls_after s.lines (gone_on s past)

-- whatever script the run was one of, after these entries: the others are added, and the run stands after them
abbrev pub TakesAll : Run → Run → List Entry → List Entry → Type 0
TakesAll old new before now = (s : Script) (all : List Entry) → IsRunOf s all before old → (now ≡ all) × IsWhole s all new
