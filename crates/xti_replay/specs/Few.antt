-- How many entries a run of a script has at most.
use Rattle.std.specs.Prelude.{◌+◌, ◌≤◌, List, length}
use Rattle.xti_model.specs.declared.entry.Entry.{Entry}
use Rattle.xti_model.specs.declared.script.Script.{Script}
use Rattle.xti_model.specs.Work.{script_bytes}

-- no more entries than the script has calls and bytes of arguments
abbrev pub AreFew : Script → List Entry → Type 0
AreFew s entries = length entries ≤ length s.lines + script_bytes s.lines
