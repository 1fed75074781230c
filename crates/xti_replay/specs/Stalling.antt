-- The stall lines that are made of the workers, whatever the history after which they stand so.
use Rattle.std.specs.Prelude.{ℕ, ◌≡◌, List, ◌++◌, Vec}
use Rattle.std.specs.declared.alloc.Global.{Global}
use Rattle.xti_model.specs.declared.entry.Entry.{Entry}
use Rattle.xti_model.specs.declared.script.Line.{Line}
use Rattle.xti_model.specs.declared.script.StallLine.{StallLine}
use Rattle.xti_replay.specs.declared.workers.Worker.{Worker}
use Rattle.xti_replay.specs.Progress.{AreKept, MayAsk}
use Rattle.xti_replay.specs.Stalls.{stall_at, stalls_after}

-- where the worker may be asked, its stall line is added, and the workers stand as before
abbrev pub AddsOne : List Line → ℕ → Vec Worker Global → Vec Worker Global → List StallLine → List StallLine → Type 0
AddsOne lines number old new before after =
    (past : List Entry) → AreKept lines past old.items → MayAsk lines past number → (after ≡ before ++ stall_at lines past number) × AreKept lines past new.items

-- these are the stall lines of the workers
abbrev pub AreStalls : List Line → List Worker → List StallLine → Type 0
AreStalls lines ws stalls = (past : List Entry) → AreKept lines past ws → stalls ≡ stalls_after lines past
