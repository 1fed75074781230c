-- Reading lines from left to right, each after the earlier ones.
use Rattle.std.specs.Prelude.{◌≡◌, ℕ, ◌+◌, ◌-◌, ◌==◌, Bool, ◌&&◌, nat_eq, nat_lt, nat_le, List, [], ◌∷◌, ◌++◌, length, drop, codes, Option, Some, None, if◌then◌else◌, Result, Ok, Err}
use Rattle.std.specs.Str.{bytes_eq}
use Rattle.std.specs.List.{concat, starts_with}
use Rattle.xti_model.specs.declared.script.NamedCall.{NamedCall}
use Rattle.xti_model.specs.declared.profile.Providers.{Providers}
use Rattle.xti_model.specs.declared.profile.Version.{Version}
use Rattle.xti_model.specs.declared.profile.Version.TheVariants.{One, Two}
use Rattle.xti_model.specs.declared.script.Line.{Line}
use Rattle.xti_model.specs.declared.script.Script.{Script}
use Rattle.xti_model.specs.Profile.{usual_of}
use Rattle.xti_head.specs.Head.{head_of}
use Rattle.xti_script_reader.specs.declared.draft.Taken.{Taken}
use Rattle.xti_script_reader.specs.declared.draft.Taken.TheVariants as taken
use Rattle.xti_script_reader.specs.declared.script_text.ScriptFail.{ScriptFail}
use Rattle.xti_script_reader.specs.declared.script_text.ScriptFail.TheVariants as fail
use Rattle.xti_script_reader.specs.Grammar.{first_line, is_passed, is_mark}
use Rattle.xti_model.specs.Work.{argument_bytes, script_bytes}
use Rattle.xti_script_reader.specs.FieldValue.{Value}
use Rattle.xti_script_reader.specs.declared.fields.Key.{Key}
use Rattle.xti_verbs.specs.declared.verb.Verb.{Verb}
use Rattle.xti_script_reader.specs.Names.{Spot, after}
use Rattle.xti_words.specs.Texts.{text_of, words_of}
use Rattle.xti_words.specs.Values.{number_in, onto}
use Rattle.xti_script_reader.specs.Values.{value_in}
use Rattle.xti_script_reader.specs.Fields.{key_word, kind_of, usual_value}
use Rattle.xti_verbs.specs.Verbs.{verb_in}
use Rattle.xti_script_reader.specs.Calls.{form, call_with}
use Rattle.xti_base.specs.declared.limits.TheConstants.{LAST_WORKER, MOST_LINES, MOST_ARGUMENT_BYTES}

-- ---- fields

abbrev pub behind_key : List ℕ → List ℕ → Option (List ℕ)
behind_key key word = if starts_with nat_eq word key then Some (drop (length key) word) else None

abbrev pub written_value : Spot → Key → Option (List ℕ) → Option Value
written_value s key None = usual_value key
written_value s key (Some text) = value_in s (kind_of key) text

-- the value of the field, which may stand before these words
abbrev pub field_value : Spot → Key → List (List ℕ) → Option Value
field_value s key [] = usual_value key
field_value s key (word ∷ words) = written_value s key (behind_key (key_word key) word)

-- the text gives the value of the field, wherever the line stands
abbrev pub IsFieldText : Key → List (List ℕ) → Option (List ℕ) → Type 0
IsFieldText key words text = (s : Spot) → written_value s key text ≡ field_value s key words

-- the words after the field
abbrev pub field_rest : Key → List (List ℕ) → List (List ℕ)
field_rest key [] = []
field_rest key (word ∷ words) = if starts_with nat_eq word (key_word key) then words else word ∷ words

abbrev pub fields_of : Spot → List Key → List (List ℕ) → Option (List Value)
fields_of s [] [] = Some []
fields_of s [] (word ∷ words) = None
fields_of s (key ∷ keys) words = onto (field_value s key words) (fields_of s keys (field_rest key words))

-- ---- calls

abbrev pub with_values : Verb → Option (List Value) → Option NamedCall
with_values verb None = None
with_values verb (Some values) = call_with verb values

abbrev pub call_by_verb : Spot → Option Verb → List (List ℕ) → Option NamedCall
call_by_verb s None words = None
call_by_verb s (Some verb) words = with_values verb (fields_of s (form verb) words)

-- the call that the words of a line there give
unfoldable pub call_of : Version → Spot → List (List ℕ) → Option NamedCall
call_of version s [] = None
call_of version s (word ∷ words) = call_by_verb s (verb_in version word) words

-- ---- lines

abbrev pub small : Option ℕ → Option ℕ
small None = None
small (Some number) = if nat_le number LAST_WORKER then Some number else None

abbrev pub worker_of : List ℕ → Option ℕ
worker_of word = small (number_in word)

abbrev pub line_with : ℕ → NamedCall → Line
line_with worker call = record { worker = worker; call = call }

abbrev pub by_worker : ℕ → Option NamedCall → Option Line
by_worker worker None = None
by_worker worker (Some call) = Some (line_with worker call)

abbrev pub call_by : Version → List Line → Option ℕ → List (List ℕ) → Option Line
call_by version earlier None words = None
call_by version earlier (Some worker) words = by_worker worker (call_of version (after earlier worker) words)

-- the line that the words give, whatever the limits
unfoldable pub any_line_of : Version → List Line → List (List ℕ) → Option Line
any_line_of version earlier [] = None
any_line_of version earlier (word ∷ words) = call_by version earlier (worker_of word) words

-- how many bytes two byte strings and these parts have
abbrev pub bytes_with_parts : List ℕ → List ℕ → List (List ℕ) → ℕ
bytes_with_parts first second parts = length first + length second + length (concat parts)

-- what is left of these, where there are so many
abbrev pub less : ℕ → ℕ → Option ℕ
less left n = if nat_le n left then Some (left - n) else None

-- what is left of so many bytes after a call after so many lines
unfoldable pub room_after : ℕ → ℕ → NamedCall → Option ℕ
room_after count left call = if nat_lt count MOST_LINES then less left (argument_bytes call) else None

-- whether the limits allow one more line
abbrev pub has_room : List Line → Line → Bool
has_room earlier line = nat_lt (length earlier) MOST_LINES && nat_le (script_bytes earlier + argument_bytes line.call) MOST_ARGUMENT_BYTES

-- what becomes of this line, and the lines after it
unfoldable pub extended : List Line → Line → Taken × List Line
extended earlier line = if has_room earlier line then (taken.Read, earlier ++ line ∷ []) else (taken.TooMany, earlier)

abbrev pub longer : List Line → Option Line → Taken × List Line
longer earlier None = (taken.Wrong, earlier)
longer earlier (Some line) = extended earlier line

-- what becomes of the line of this worker with this call, and the lines after it
abbrev pub with_call : List Line → ℕ → NamedCall → Taken × List Line
with_call earlier worker call = extended earlier (line_with worker call)

-- what becomes of the line of this worker with these words, and the lines after it
abbrev pub after_call_words : Version → List Line → ℕ → List (List ℕ) → Taken × List Line
after_call_words version earlier worker words = longer earlier (call_by version earlier (Some worker) words)

-- what becomes of the line with these words, and the lines after it
abbrev pub after_words : Version → List Line → List (List ℕ) → Taken × List Line
after_words version earlier words = longer earlier (any_line_of version earlier words)

-- what becomes of the line with this text
unfoldable pub after_text : Version → List Line → List ℕ → Taken × List Line
after_text version earlier text = if is_passed text then (taken.Read, earlier) else after_words version earlier (words_of text)

-- the lines after one that was read; else why there are none
abbrev pub behind : ℕ → Taken × List Line → (List Line → Result (List Line) ScriptFail) → Result (List Line) ScriptFail
behind number (taken.Read, lines) others = others lines
behind number (taken.Wrong, lines) others = Err (fail.Bad number)
behind number (taken.TooMany, lines) others = Err (fail.TooMany number)

-- the lines from this number on, after the earlier ones
unfoldable pub lines_from : Version → ℕ → List Line → List (List ℕ) → Result (List Line) ScriptFail
lines_from version number earlier [] = Ok earlier
lines_from version number earlier (text ∷ texts) = behind number (after_text version earlier text) (λ lines. lines_from version (number + 1) lines texts)

-- ---- scripts

abbrev pub with_providers : Providers → Result (List Line) ScriptFail → Result Script ScriptFail
with_providers p (Ok lines) = Ok (record { providers = p; lines = lines })
with_providers p (Err e) = Err e

abbrev pub script_from : ℕ → Providers → List (List ℕ) → Result Script ScriptFail
script_from number p texts = with_providers p (lines_from p.version number [] texts)

-- the lines before the first `+++`, and those after it
abbrev pub onto_parts : List ℕ → Option (List (List ℕ) × List (List ℕ)) → Option (List (List ℕ) × List (List ℕ))
onto_parts text None = None
onto_parts text (Some parts) = Some (text ∷ parts.0, parts.1)

abbrev pub to_mark : List (List ℕ) → Option (List (List ℕ) × List (List ℕ))
to_mark [] = None
to_mark (text ∷ texts) = if is_mark text then Some ([], texts) else onto_parts text (to_mark texts)

abbrev pub with_head : ℕ → List (List ℕ) → Option Providers → Result Script ScriptFail
with_head number texts None = Err (fail.Bad 2)
with_head number texts (Some p) = script_from number p texts

-- the head ends before line 4 and as many more as it has
abbrev pub by_head : Version → Option (List (List ℕ) × List (List ℕ)) → Result Script ScriptFail
by_head version None = Err (fail.Bad 2)
by_head version (Some parts) = with_head (4 + length parts.0) parts.1 (head_of version (text_of parts.0))

-- the lines from the second on
unfoldable pub body_of : Version → List (List ℕ) → Result Script ScriptFail
body_of version [] = script_from 2 (usual_of version) []
body_of version (text ∷ texts) = if is_mark text then by_head version (to_mark texts) else script_from 2 (usual_of version) (text ∷ texts)

-- the version whose first line this is
unfoldable pub version_of : List ℕ → Option Version
version_of line = if bytes_eq line (first_line One) then Some One else if bytes_eq line (first_line Two) then Some Two else None

abbrev pub by_version : Option Version → List (List ℕ) → Result Script ScriptFail
by_version None texts = Err (fail.Bad 1)
by_version (Some version) texts = body_of version texts

-- a whole script
unfoldable pub all_of : List (List ℕ) → Result Script ScriptFail
all_of [] = Err (fail.Bad 1)
all_of (first ∷ texts) = by_version (version_of first) texts
