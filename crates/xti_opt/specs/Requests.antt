-- Requests for options, in bytes.
use Rattle.std.specs.Prelude.{◌≡◌, ◌≤◌, ◌+◌, ◌++◌, ◌&&◌, ℕ, Bool, true, false, List, length}
use Rattle.xti_base.specs.declared.options.Opt.{Opt}
use Rattle.xti_base.specs.Options.{word_bytes, begins_option, front_option, behind_option, is_option_list, the_options, option_bytes, options_bytes}
use Rattle.xti_base.specs.Negotiation.{Settings, Negotiated, Answer, is_action, is_one_level, negotiate, answer_meant}
use Rattle.xti_base.specs.Room.{Roomy}
use Rattle.xti_opt.specs.Answers.{answer_of, meaning_at}
use Rattle.xti_opt.specs.declared.answers.Answer as code
use Rattle.xti_opt.specs.declared.first.First.{First}

-- a list of options of one level
abbrev pub is_request : List ℕ → Bool
is_request bytes = is_option_list bytes && is_one_level (the_options bytes)

-- the action is one, and the bytes are no list of options of one level
abbrev pub IsBadRequest : ℕ → List ℕ → Type 0
IsBadRequest action bytes = (is_action action ≡ true) × (is_request bytes ≡ false)

-- the action is one, and two of the options have different levels
abbrev pub HasTwoLevels : ℕ → List Opt → Type 0
HasTwoLevels action options = (is_action action ≡ true) × (is_one_level options ≡ false)

-- what the negotiation of options tells, its overall result, and the settings that it leaves
abbrev pub told_options : Settings → ℕ → List Opt → List Opt
told_options s action options = (negotiate s action options).options

abbrev pub told_overall : Settings → ℕ → List Opt → ℕ
told_overall s action options = (negotiate s action options).result

abbrev pub next_settings : Settings → ℕ → List Opt → Settings
next_settings s action options = (negotiate s action options).settings

-- the options of a request, negotiated
abbrev pub negotiated_request : Settings → ℕ → List ℕ → Negotiated
negotiated_request s action bytes = negotiate s action (the_options bytes)

-- the overall result of a request, and the settings that it leaves
abbrev pub asked_overall : Settings → ℕ → List ℕ → ℕ
asked_overall s action bytes = (negotiated_request s action bytes).result

abbrev pub asked_settings : Settings → ℕ → List ℕ → Settings
asked_settings s action bytes = (negotiated_request s action bytes).settings

-- the options that answer a request, in bytes
abbrev pub answered_bytes : Settings → ℕ → List ℕ → List ℕ
answered_bytes s action bytes = options_bytes (negotiated_request s action bytes).options

-- so many bytes answer a request, whatever the settings are
abbrev pub IsAnswerSize : ℕ → List ℕ → ℕ → Type 0
IsAnswerSize action bytes size = (s : Settings) → size ≡ length (answered_bytes s action bytes)

-- the answer is added at the end of a room
abbrev pub AddsAnswer : Settings → ℕ → List ℕ → Roomy → Roomy → Type 0
AddsAnswer s action bytes old new = new.bytes ≡ old.bytes ++ answered_bytes s action bytes

-- how many bytes a room holds in all
abbrev pub whole_room : Roomy → ℕ
whole_room r = r.spare + length r.bytes

-- the option of this level and name, answered
abbrev pub told : ℕ → ℕ → Answer → Opt
told level name a = record { level = level; name = name; status = a.result; value = a.value }

-- the same in bytes
abbrev pub told_bytes : ℕ → ℕ → Answer → List ℕ
told_bytes level name a = option_bytes (told level name a)

abbrev pub told_size : ℕ → ℕ → code.Answer → ℕ
told_size level name a = length (told_bytes level name (answer_of a))

-- what an option of this level, name and value is answered
abbrev pub meant_answer : Settings → ℕ → ℕ → ℕ → List ℕ → Answer
meant_answer s action level name value = answer_meant s action value (meaning_at level name)

-- the bytes that answer it
abbrev pub meant_bytes : Settings → ℕ → ℕ → ℕ → List ℕ → List ℕ
meant_bytes s action level name value = told_bytes level name (meant_answer s action level name value)

-- the four words before an option's value
abbrev pub header_bytes : ℕ → ℕ → ℕ → ℕ → List ℕ
header_bytes length level name status = word_bytes length ++ word_bytes level ++ word_bytes name ++ word_bytes status

-- the first option of the bytes, and the bytes after it
pub record IsFirst (bytes : List ℕ) (first : First) : Type 0 where
  pub begins : begins_option bytes ≡ true
  pub level : first.level ≡ (front_option bytes).level
  pub name : first.name ≡ (front_option bytes).name
  pub value : first.value.now ≡ (front_option bytes).value
  pub rest : first.rest.now ≡ behind_option bytes
