-- The stall lines of a journal: the steps that workers would make next, where a run ends and they are not finished.
use Rattle.std.specs.Prelude.{◌≡◌, ◌↔◌, ℕ, Bool, true, List, [], ◌∷◌, Option, Some, None, if◌then◌else◌}
use Rattle.std.specs.List.{list_all, flat_map}
use Rattle.xti_model.specs.declared.entry.Entry.{Entry}
use Rattle.xti_model.specs.declared.script.Journal.{Journal}
use Rattle.xti_model.specs.declared.script.Line.{Line}
use Rattle.xti_model.specs.declared.script.Script.{Script}
use Rattle.xti_model.specs.declared.script.StallLine.{StallLine}
use Rattle.xti_model.specs.History.{Going, after}
use Rattle.xti_model.specs.Robin.{next_going, is_through, act_of, robin, robin_from, most_steps}
use Rattle.xti_model.specs.Complete.{workers}

abbrev pub stall_of : ℕ → Option Going → List StallLine
stall_of worker None = []
stall_of worker (Some g) = record { worker = worker; act = act_of g.so_far g.call } ∷ []

-- the worker and its next step, and nothing where it is finished
abbrev pub stall_at : List Line → List Entry → ℕ → List StallLine
stall_at lines entries worker = stall_of worker (next_going lines entries worker)

-- worker 0's alone where it is not finished; else one for each worker that is not finished, by rising worker
unfoldable pub stalls_after : List Line → List Entry → List StallLine
stalls_after lines entries = if is_through lines entries 0 then flat_map (stall_at lines entries) workers else stall_at lines entries 0

abbrev pub stalls_of : Script → List StallLine
stalls_of s = stalls_after s.lines (robin s)

-- every worker is finished
unfoldable pub are_through : List Line → List Entry → Bool
are_through lines entries = list_all (is_through lines entries) workers

-- the journal of these lines has stall lines unless every worker is finished
abbrev pub StallsUnlessThrough : List Line → Journal → Type 0
StallsUnlessThrough lines j = (j.stalls ≡ []) ↔ (are_through lines j.entries ≡ true)

-- the history with the entries that follow it by turns
unfoldable pub gone_on : Script → List Entry → List Entry
gone_on s past = robin_from s.providers s.lines most_steps (after s.providers past) past
