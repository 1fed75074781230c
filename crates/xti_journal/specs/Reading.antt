-- Reading the words of a line from left to right.
use Rattle.std.specs.Prelude.{ℕ, ◌+◌, ◌==◌, nat_le, nat_lt, nat_eq, ◌&&◌, Bool, true, false, List, [], ◌∷◌, length, drop, codes, decimal, Option, Some, None, if◌then◌else◌}
use Rattle.std.specs.Str.{bytes_eq}
use Rattle.std.specs.List.{starts_with}
use Rattle.xti_base.specs.declared.kinds.Prov.{Prov}
use Rattle.xti_base.specs.declared.kinds.State.{State}
use Rattle.xti_base.specs.Kinds.{prov_name}
use Rattle.xti_base.specs.declared.limits.TheConstants.{LAST_WORKER}
use Rattle.xti_model.specs.declared.entry.Act.{Act}
use Rattle.xti_model.specs.declared.entry.Act.TheVariants.{Begin, More}
use Rattle.xti_model.specs.declared.entry.Outcome.{Outcome}
use Rattle.xti_model.specs.declared.entry.Entry.{Entry}
use Rattle.xti_model.specs.declared.script.Journal.{Journal}
use Rattle.xti_model.specs.declared.script.StallLine.{StallLine}
use Rattle.xti_words.specs.Values.{number_in}
use Rattle.xti_journal.specs.Kinds.{Kind}
use Rattle.xti_journal.specs.FieldValue.{Value}
use Rattle.xti_journal.specs.FieldValue.{Value as value}
use Rattle.xti_journal.specs.declared.fields.Key.{Key}
use Rattle.xti_journal.specs.declared.fields.Key.TheVariants as key
use Rattle.xti_verbs.specs.declared.verb.Verb.{Verb}
use Rattle.xti_verbs.specs.declared.answer.Answer.{Answer}
use Rattle.xti_verbs.specs.declared.answer.Answer.TheVariants as answer
use Rattle.xti_journal.specs.declared.body.Line.{Line}
use Rattle.xti_journal.specs.declared.body.Line.TheVariants as line
use Rattle.xti_journal.specs.Grammar.{last_verb}
use Rattle.xti_model.specs.declared.profile.Profile.{Profile}
use Rattle.xti_model.specs.declared.profile.Version.{Version}
use Rattle.xti_model.specs.Profile.{tells_reldata}
use Rattle.xti_journal.specs.Fields.{key_word, kind_of}
use Rattle.xti_journal.specs.Values.{value_in}
use Rattle.xti_verbs.specs.Verbs.{answer_of, verb_in, verb_of, answer_to}
use Rattle.xti_journal.specs.Calls.{form, call_values, answer_form, answer_values}

-- what the first words give, and the words after them
abbrev pub Found : Type 0 → Type 0
Found A = Option (A × List (List ℕ))

-- ---- fields

abbrev pub behind_key : List ℕ → List ℕ → Option (List ℕ)
behind_key key word = if starts_with nat_eq word key then Some (drop (length key) word) else None

abbrev pub text_value : Kind → Option (List ℕ) → Option Value
text_value kind None = None
text_value kind (Some text) = value_in kind text

-- a value before others, where each is there
abbrev pub before : Option Value → Found (List Value) → Found (List Value)
before None others = None
before (Some value) None = None
before (Some value) (Some (values, words)) = Some (value ∷ values, words)

-- the values that the first words give fields with these keys
abbrev pub fields_of : List Key → List (List ℕ) → Found (List Value)
fields_of [] words = Some ([], words)
fields_of (key ∷ keys) [] = None
fields_of (key ∷ keys) (word ∷ words) = before (text_value (kind_of key) (behind_key (key_word key) word)) (fields_of keys words)

-- ---- calls

-- a call that begins with these values, or goes on
pub data ActRead : Type 0 where
  Begins : Verb → List Value → ActRead
  Goes : ActRead

-- what is read of an act
abbrev pub act_read : Act → ActRead
act_read (Begin call) = Begins (verb_of call) (call_values call)
act_read More = Goes

abbrev pub begun : Verb → Found (List Value) → Found ActRead
begun verb None = None
begun verb (Some (values, words)) = Some (Begins verb values, words)

abbrev pub call_in : Option Verb → List (List ℕ) → Found ActRead
call_in None words = None
call_in (Some verb) words = begun verb (fields_of (form verb) words)

-- the same
abbrev pub same : {A : Type 0} → A → A
same x = x

-- the call of journals of the version that the first words are, or `more`
unfoldable pub act_in : Version → List (List ℕ) → Found ActRead
act_in version [] = None
act_in version (word ∷ words) = if bytes_eq word (codes "more") then Some (Goes, words) else call_in (verb_in version word) words

abbrev pub verb_after_read : Option Verb → ActRead → Option Verb
verb_after_read before (Begins verb values) = Some verb
verb_after_read before Goes = before

-- ---- answers

-- which answer it is, and its values
pub record AnswerRead : Type 0 where
  pub answer : Answer
  pub values : List Value

-- what is read of an outcome
abbrev pub outcome_read : Outcome → AnswerRead
outcome_read outcome = record { answer = answer_to outcome; values = answer_values outcome }

-- whether the first word is this one, and the words after it
abbrev pub accepted : List ℕ → List (List ℕ) → Bool × List (List ℕ)
accepted wanted [] = (false, [])
accepted wanted (word ∷ words) = if bytes_eq word wanted then (true, words) else (false, word ∷ words)

-- which error stands there, and the words of its fields
abbrev pub error_in : List (List ℕ) → Found Answer
error_in [] = Some (answer.Refused, [])
error_in (word ∷ words) = if bytes_eq word (codes "TLOOK") then Some (answer.Look, words) else if bytes_eq word (codes "TBUFOVFLW") then Some (answer.Overflow, words) else Some (answer.Refused, word ∷ words)

-- which answer of the call stands there, and the words of its fields
unfoldable pub answer_in : Verb → List (List ℕ) → Found Answer
answer_in verb [] = None
answer_in verb (word ∷ words) =
    if bytes_eq word (codes "ok") then Some (answer_of verb, words) else
    if bytes_eq word (codes "err") then error_in words else
    if bytes_eq word (codes "part") then Some (answer.Part, words) else None

abbrev pub answered : Answer → Found (List Value) → Found AnswerRead
answered answer None = None
answered answer (Some (values, words)) = Some (record { answer = answer; values = values }, words)

abbrev pub with_answer : Found Answer → Found AnswerRead
with_answer None = None
with_answer (Some (answer, words)) = answered answer (fields_of (answer_form answer) words)

-- what the call answered
unfoldable pub outcome_in : Verb → List (List ℕ) → Found AnswerRead
outcome_in verb words = with_answer (answer_in verb words)

-- ---- workers

abbrev pub small : Option ℕ → Option ℕ
small None = None
small (Some number) = if nat_le number LAST_WORKER then Some number else None

abbrev pub worker_in : List ℕ → Option ℕ
worker_in word = small (number_in word)

-- what is read of an outcome and a state
abbrev pub behind_read : Outcome → State → AnswerRead × State
behind_read outcome state = (outcome_read outcome, state)

-- which worker stands there, and what it does
pub record StepRead : Type 0 where
  pub worker : ℕ
  pub act : ActRead

abbrev pub worker_does : ℕ → Found ActRead → Found StepRead
worker_does worker None = None
worker_does worker (Some (act, words)) = Some (record { worker = worker; act = act }, words)

abbrev pub by_worker : Version → Option ℕ → List (List ℕ) → Found StepRead
by_worker version None words = None
by_worker version (Some worker) words = worker_does worker (act_in version words)

unfoldable pub step_in : Version → List (List ℕ) → Found StepRead
step_in version [] = None
step_in version (word ∷ words) = by_worker version (worker_in word) words

-- what is read of an act and its worker
abbrev pub step_read : Act → ℕ → StepRead
step_read act worker = record { worker = worker; act = act_read act }

-- ---- entries

pub record EntryRead : Type 0 where
  pub step : StepRead
  pub answer : AnswerRead
  pub after : State

-- what is read of an entry
abbrev pub entry_read : Entry → EntryRead
entry_read e = record { step = record { worker = e.worker; act = act_read e.act }; answer = outcome_read e.outcome; after = e.after }

-- the state, where no other word is left
abbrev pub last_state : Found (List Value) → Option State
last_state (Some (value.State state ∷ [], [])) = Some state
last_state other = None

-- the state that the last word is
abbrev pub state_at_end : List (List ℕ) → Option State
state_at_end words = last_state (fields_of (key.State ∷ []) words)

abbrev pub with_state : AnswerRead → Option State → Option (AnswerRead × State)
with_state answer None = None
with_state answer (Some state) = Some (answer, state)

abbrev pub with_outcome : Found AnswerRead → Option (AnswerRead × State)
with_outcome None = None
with_outcome (Some (answer, words)) = with_state answer (state_at_end words)

-- what is behind the arrow
abbrev pub behind_arrow : Option Verb → List (List ℕ) → Option (AnswerRead × State)
behind_arrow None words = None
behind_arrow (Some verb) [] = None
behind_arrow (Some verb) (word ∷ words) = if bytes_eq word (codes "=>") then with_outcome (outcome_in verb words) else None

abbrev pub whole_entry : StepRead → Option (AnswerRead × State) → Option EntryRead
whole_entry step None = None
whole_entry step (Some (answer, state)) = Some (record { step = step; answer = answer; after = state })

-- verbs tells which call each worker began last
abbrev pub with_step : (ℕ → Option Verb) → Found StepRead → Option EntryRead
with_step verbs None = None
with_step verbs (Some (step, words)) = whole_entry step (behind_arrow (verb_after_read (verbs step.worker) step.act) words)

-- the entry with this number
unfoldable pub entry_in : Version → ℕ → (ℕ → Option Verb) → List ℕ → List (List ℕ) → Option EntryRead
entry_in version n verbs word words = if bytes_eq word (decimal n) then with_step verbs (step_in version words) else None

-- the entry with this number after those that were read
abbrev pub entry_after : Journal → ℕ → List ℕ → List (List ℕ) → Option EntryRead
entry_after j n word words = entry_in j.providers.version n (last_verb j.entries) word words

-- ---- stall lines

abbrev pub stall_read : StallLine → StepRead
stall_read s = record { worker = s.worker; act = act_read s.act }

-- there is a call, and no word is left
abbrev pub is_whole : Option Verb → List (List ℕ) → Bool
is_whole None words = false
is_whole (Some verb) words = length words == 0

abbrev pub stall_verb : StepRead → Option Verb → List (List ℕ) → Option StepRead
stall_verb step None words = None
stall_verb step (Some verb) [] = Some step
stall_verb step (Some verb) (word ∷ words) = None

abbrev pub with_stall : (ℕ → Option Verb) → Found StepRead → Option StepRead
with_stall verbs None = None
with_stall verbs (Some (step, words)) = stall_verb step (verb_after_read (verbs step.worker) step.act) words

-- the stall line whose words after the first these are
unfoldable pub stall_in : Version → (ℕ → Option Verb) → List (List ℕ) → Option StepRead
stall_in version verbs words = with_stall verbs (step_in version words)

-- the worker of the last stall line
abbrev pub last_worker : List StallLine → Option ℕ
last_worker [] = None
last_worker (s ∷ []) = Some s.worker
last_worker (s ∷ t ∷ stalls) = last_worker (t ∷ stalls)

-- whether a stall line of this worker may stand after one of that worker, if any
abbrev pub may_follow : Option ℕ → ℕ → Bool
may_follow None worker = true
may_follow (Some before) worker = nat_lt 0 before && nat_lt before worker

-- ---- lines after the head

pub data LineRead : Type 0 where
  Entered : EntryRead → LineRead
  Stalled : StepRead → LineRead
  Ended : LineRead

-- what a line that was read says; an entry was written in its place, and is this one
abbrev pub line_read : Entry → Line → LineRead
line_read e line.Entry = Entered (entry_read e)
line_read e (line.Stall s) = Stalled (stall_read s)
line_read e line.End = Ended

abbrev pub entered : Option EntryRead → Option LineRead
entered None = None
entered (Some e) = Some (Entered e)

abbrev pub stalled : Option ℕ → Option StepRead → Option LineRead
stalled before None = None
stalled before (Some step) = if may_follow before step.worker then Some (Stalled step) else None

abbrev pub ended : ℕ → List (List ℕ) → Option LineRead
ended n [] = None
ended n (word ∷ []) = if bytes_eq word (decimal n) then Some Ended else None
ended n (word ∷ other ∷ words) = None

-- an entry stands before all stall lines
abbrev pub only_before : Option ℕ → Option LineRead → Option LineRead
only_before None line = line
only_before (Some worker) line = None

-- the line that the words are after these entries and stall lines
unfoldable pub line_in : Version → List Entry → List StallLine → List (List ℕ) → Option LineRead
line_in version entries stalls [] = None
line_in version entries stalls (word ∷ words) =
    if bytes_eq word (codes "end") then ended (length entries) words else
    if bytes_eq word (codes "stall") then stalled (last_worker stalls) (stall_in version (last_verb entries) words) else
    only_before (last_worker stalls) (entered (entry_in version (length entries + 1) (last_verb entries) word words))

-- the line that the words are after what was read
abbrev pub line_after : Journal → List (List ℕ) → Option LineRead
line_after j words = line_in j.providers.version j.entries j.stalls words

-- the stall line that the words are after the entries that were read
abbrev pub stall_from : Journal → List (List ℕ) → Option StepRead
stall_from j words = stall_in j.providers.version (last_verb j.entries) words

-- the same after what was read, and what is read of it
abbrev pub stall_after : Journal → List (List ℕ) → Option LineRead
stall_after j words = stalled (last_worker j.stalls) (stall_from j words)

abbrev pub stalled_read : StallLine → LineRead
stalled_read s = Stalled (stall_read s)

-- ---- the head

-- told is whether the line tells that data may go with a release
abbrev pub release_keys : Bool → List Key
release_keys told = if told then key.RelData ∷ [] else []

abbrev pub release_values : Bool → Bool → List Value
release_values told reldata = if told then value.Truth reldata ∷ [] else []

abbrev pub profile_keys : Bool → List Key
profile_keys told = key.Tsdu ∷ key.SendZero ∷ key.SameAddr ∷ key.SndBuf ∷ key.RcvBuf ∷ release_keys told

abbrev pub profile_values : Bool → Profile → List Value
profile_values told p = value.Limit p.tsdu ∷ value.Truth p.sendzero ∷ value.Truth p.same_addr ∷ value.Number p.sndbuf ∷ value.Number p.rcvbuf ∷ release_values told p.reldata

abbrev pub alone : Found (List Value) → Option (List Value)
alone None = None
alone (Some (values, words)) = if length words == 0 then Some values else None

-- the values of the provider
unfoldable pub profile_in : Version → Prov → List (List ℕ) → Option (List Value)
profile_in version prov (word ∷ named ∷ words) = if bytes_eq word (codes "provider") && bytes_eq named (prov_name prov) then alone (fields_of (profile_keys (tells_reldata version prov)) words) else None
profile_in version prov other = None
