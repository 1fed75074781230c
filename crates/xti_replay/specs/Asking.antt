-- What a worker that is asked does, whatever the history after which it stands so.
use Rattle.std.specs.Prelude.{ℕ, ◌≡◌, ◌⊎◌, List, Vec, Option, Some}
use Rattle.std.specs.declared.alloc.Global.{Global}
use Rattle.xti_model.specs.declared.entry.Act.{Act}
use Rattle.xti_model.specs.declared.entry.Entry.{Entry}
use Rattle.xti_model.specs.declared.script.Line.{Line}
use Rattle.xti_model.specs.Robin.{Turn, turn}
use Rattle.xti_core.specs.Standing.{Standing}
use Rattle.xti_replay.specs.declared.workers.Worker.{Worker}
use Rattle.xti_replay.specs.Progress.{AreKept, MayAsk, IsFound, IsReady, Makes, Asked, with_begun}

-- where the worker may be asked, its next step is known now
abbrev pub FindsNext : List Line → ℕ → Vec Worker Global → Vec Worker Global → Type 0
FindsNext lines number old new = (past : List Entry) → AreKept lines past old.items → MayAsk lines past number → IsFound lines past number new.items

-- where the worker's next step is known, it made that step in its turn, or there was none
abbrev pub MakesTurn : List Line → ℕ → Standing → Standing → Worker → Worker → Option Entry → Type 0
MakesTurn lines number before after old new entry =
    (past : List Entry) → IsReady lines past number old → Makes lines number past before after old new entry (turn before.providers lines before.cells past number)

-- the same of a worker whose call the act begins
abbrev pub MakesBegun : List Line → ℕ → Standing → Standing → Act → Worker → Worker → Option Entry → Type 0
MakesBegun lines number before after a old new entry = MakesTurn lines number before after (with_begun old a) new entry

-- where the worker may be asked, its next step was made in its turn, or there was none
abbrev pub TakesTurn : List Line → ℕ → Standing → Standing → Vec Worker Global → Vec Worker Global → Option Entry → Type 0
TakesTurn lines number before after old new entry =
    (past : List Entry) → AreKept lines past old.items → MayAsk lines past number
    → Asked lines number past before after new.items entry (turn before.providers lines before.cells past number)

-- the world has gone on by this turn, if there is one
abbrev pub HasGoneOn : Standing → Option Turn → Type 0
HasGoneOn after next = (t : Turn) × (next ≡ Some t) × (after.cells ≡ t.world)

-- where a worker that was ready failed: no step was made, and it and the world are as before; or its step was made, in the world alone
abbrev pub FailsTurn : List Line → ℕ → Standing → Standing → Worker → Worker → Worker → Type 0
FailsTurn lines number before after ready old new =
    (past : List Entry) → IsReady lines past number ready → ((after ≡ before) × (new ≡ old)) ⊎ HasGoneOn after (turn before.providers lines before.cells past number)

-- the same of a worker whose call the act begins
abbrev pub FailsBegun : List Line → ℕ → Standing → Standing → Act → Worker → Worker → Type 0
FailsBegun lines number before after a old new = FailsTurn lines number before after (with_begun old a) old new

-- the same where a worker that may be asked failed: all workers are as before
abbrev pub FailsAsked : List Line → ℕ → Standing → Standing → Vec Worker Global → Vec Worker Global → Type 0
FailsAsked lines number before after old new =
    (past : List Entry) → AreKept lines past old.items → MayAsk lines past number → ((after ≡ before) × (new.items ≡ old.items)) ⊎ HasGoneOn after (turn before.providers lines before.cells past number)
