-- What a reader of the code gives, against what reading gives.
use Rattle.std.specs.Prelude.{◌≡◌, List, Result, Ok, Err}
use Rattle.std.specs.declared.alloc.AllocError.{AllocError}
use Rattle.xti_model.specs.declared.script.Line.{Line}
use Rattle.xti_script_reader.specs.declared.draft.Taken.{Taken}
use Rattle.xti_script_reader.specs.declared.script_text.ScriptFail.{ScriptFail}
use Rattle.xti_script_reader.specs.declared.script_text.ScriptFail.TheVariants.{Bad, TooMany, OutOfMemory}

abbrev pub Fails : {A : Type 0} → ScriptFail → Result A ScriptFail → Type 0
Fails (Bad line) read = read ≡ Err (Bad line)
Fails (TooMany line) read = read ≡ Err (TooMany line)
Fails OutOfMemory read = Unit {0}

-- the same value, the same refused line, or out of memory
abbrev pub Gives : {A : Type 0} → Result A ScriptFail → Result A ScriptFail → Type 0
Gives (Ok value) read = read ≡ Ok value
Gives (Err e) read = Fails e read

-- what became of a line, and the lines after it, or out of memory
abbrev pub Takes : Result Taken AllocError → List Line → Taken × List Line → Type 0
Takes (Ok taken) lines outcome = (taken, lines) ≡ outcome
Takes (Err e) lines outcome = Unit {0}
