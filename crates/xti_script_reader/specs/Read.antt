-- What reading a script answers.
use Rattle.std.specs.Prelude.{◌≡◌, ℕ, List, Result, Ok, Err}
use Rattle.xti_model.specs.declared.script.Script.{Script}
use Rattle.xti_script_reader.specs.declared.script_text.ScriptFail.{ScriptFail}
use Rattle.xti_script_reader.specs.declared.script_text.ScriptFail.TheVariants.{Bad, TooMany, OutOfMemory}
use Rattle.xti_script_reader.specs.Refused.{IsWrongAt, IsRefusedAt}

-- this script, or out of memory
abbrev pub IsRead : Result Script ScriptFail → Script → Type 0
IsRead (Ok read) s = read ≡ s
IsRead (Err OutOfMemory) s = Unit {0}
IsRead (Err refused) s = ⊥

-- the line that is named is the first by which the text is no script: it is wrong there, or not, and then passes a limit
abbrev pub IsBad : List ℕ → ScriptFail → Type 0
IsBad text (Bad line) = IsRefusedAt text line × IsWrongAt text line
IsBad text (TooMany line) = IsRefusedAt text line × (IsWrongAt text line → ⊥)
IsBad text OutOfMemory = Unit {0}
