-- What the program answers.
use Rattle.std.specs.Prelude.{◌≡◌, true, false, ℕ, ◌+◌, ◌<◌, ◌≤◌, List, length, take, codes, Option, Some, None, ◌⊎◌}
use Rattle.xti_base.specs.declared.limits.TheConstants.{MOST_INPUT}
use Rattle.xti_io.specs.Faults.{Rose}
use Rattle.xti_io.specs.Sink.{Takes}
use Rattle.xti_io.specs.Source.{GivesUpTo}
use Rattle.xti_model.specs.declared.script.Script.{Script}
use Rattle.xti_model.specs.declared.script.Journal.{Journal}
use Rattle.xti_script_reader.specs.Grammar.{IsScript}
use Rattle.xti_journal.specs.Grammar.{IsJournal}
use Rattle.tpi_grammar.specs.Frames.{IsFrames}
use Rattle.xti_gbn.specs.declared.events.LinkEvent.{LinkEvent}
use Rattle.xti_gbn.specs.Grammar.{IsLinkScript}
use Rattle.xti_command.specs.declared.command.Command.{Command}
use Rattle.xti_command.specs.declared.command.Command.TheVariants.{Read, Gen}
use Rattle.xti_command.specs.declared.command.Reading.{Reading}
use Rattle.xti_command.specs.declared.command.Reading.TheVariants.{Replay, Run, Check, Frames, Link, Sock}
use Rattle.xti_command.specs.Words.{command_of}
use Rattle.xti_outputs.specs.declared.limits.TheConstants.{MOST_COPY}
use Rattle.xti_outputs.specs.Outputs.{limit_of, IsGenerated, IsAnswered}

unfoldable pub refused_words : List ℕ
refused_words = codes "refused words\n"

unfoldable pub refused_size : List ℕ
refused_size = codes "refused size\n"

-- the input is too long: status 2
pub record IsTooLong (reading : Reading) (input : List ℕ) (status : ℕ) (text : List ℕ) : Type 0 where
  pub long : limit_of reading < length input
  pub done : status ≡ 2
  pub printed : text ≡ refused_size

-- the status and the text for an input
abbrev pub IsAnswer : Reading → List ℕ → ℕ → List ℕ → Type 0
IsAnswer reading input status text = ((length input ≤ limit_of reading) × IsAnswered reading input status text) ⊎ IsTooLong reading input status text

-- these are the bytes that a source had left, as far as it tells them
abbrev pub IsLeft : Option (List ℕ) → List ℕ → Type 0
IsLeft None input = Unit {0}
IsLeft (Some bytes) input = bytes ≡ input

-- the status and the text for what a source had left
pub record IsRun (reading : Reading) (left : Option (List ℕ)) (status : ℕ) (text : List ℕ) : Type 0 where
  pub input : List ℕ
  pub is_left : IsLeft left input
  pub answer : IsAnswer reading input status text

-- the words are no command: status 1
pub record IsRefusedWords (status : ℕ) (text : List ℕ) : Type 0 where
  pub done : status ≡ 1
  pub printed : text ≡ refused_words

-- the words are a command that reads an input
abbrev pub IsReader : List (List ℕ) → Type 0
IsReader words = (reading : Reading) × (command_of words ≡ Some (Read reading))

-- the status and the text of a command, or where there is none
abbrev pub IsOutputOf : Option Command → Option (List ℕ) → ℕ → List ℕ → Type 0
IsOutputOf None left status text = IsRefusedWords status text
IsOutputOf (Some (Read reading)) left status text = IsRun reading left status text
IsOutputOf (Some (Gen seed summary)) left status text = IsGenerated seed summary status text

-- the status and the text for these words and what the source had left
abbrev pub IsOutput : List (List ℕ) → Option (List ℕ) → ℕ → List ℕ → Type 0
IsOutput words left status text = IsOutputOf (command_of words) left status text

-- the whole text was written
pub record IsWritten (words : List (List ℕ)) (left : Option (List ℕ)) (status : ℕ) (before now : Option (List ℕ)) : Type 0 where
  pub text : List ℕ
  pub output : IsOutput words left status text
  pub taken : Takes before now text

-- a write failed after a prefix of the text that some status would have come with
pub record IsCutOff (words : List (List ℕ)) (left : Option (List ℕ)) (before now : Option (List ℕ)) : Type 0 where
  pub status : ℕ
  pub text : List ℕ
  pub written : ℕ
  pub output : IsOutput words left status text
  pub part : written < length text
  pub taken : Takes before now (take written text)

-- what a source that tells its bytes had left is a valid script, within the limit
pub record HasScript (left : Option (List ℕ)) : Type 0 where
  pub script : Script
  pub input : List ℕ
  pub told : left ≡ Some input
  pub within : length input ≤ MOST_INPUT
  pub is_script : IsScript script input

-- what a source that tells its bytes had left is frames, within the limit
pub record HasFrames (left : Option (List ℕ)) : Type 0 where
  pub input : List ℕ
  pub told : left ≡ Some input
  pub within : length input ≤ MOST_INPUT
  pub are_frames : IsFrames input

-- what a source that tells its bytes had left is a link script, within the limit
pub record HasLink (left : Option (List ℕ)) : Type 0 where
  pub events : List LinkEvent
  pub input : List ℕ
  pub told : left ≡ Some input
  pub within : length input ≤ MOST_INPUT
  pub is_script : IsLinkScript events input

-- what a source that tells its bytes had left is a journal, within the limit
pub record HasJournal (left : Option (List ℕ)) : Type 0 where
  pub journal : Journal
  pub input : List ℕ
  pub told : left ≡ Some input
  pub within : length input ≤ MOST_INPUT
  pub is_journal : IsJournal journal input

-- a source that tells its bytes had no more left than a copy takes
pub record HasCopy (left : Option (List ℕ)) : Type 0 where
  pub input : List ℕ
  pub told : left ≡ Some input
  pub within : length input ≤ MOST_COPY

-- every worker is finished, or one is blocked
abbrev pub IsFinished : ℕ → Type 0
IsFinished status = (status ≡ 0) ⊎ (status ≡ 3)

-- how a command ends with what it takes, where memory is found
abbrev pub IsDone : Command → ℕ → Type 0
IsDone (Read (Replay summary)) status = IsFinished status
IsDone (Read (Run summary)) status = IsFinished status
IsDone (Read Check) status = (status ≡ 0) ⊎ (status ≡ 7)
IsDone (Read Frames) status = status ≡ 0
IsDone (Read Link) status = status ≡ 0
IsDone (Read (Sock summary)) status = status ≡ 0
IsDone (Gen seed false) status = status ≡ 0
IsDone (Gen seed true) status = IsFinished status

-- what a command takes; one that generates takes nothing
abbrev pub HasInput : Command → Option (List ℕ) → Type 0
HasInput (Read (Replay summary)) left = HasScript left
HasInput (Read (Run summary)) left = HasScript left
HasInput (Read Check) left = HasJournal left
HasInput (Read Frames) left = HasFrames left
HasInput (Read Link) left = HasLink left
HasInput (Read (Sock summary)) left = HasCopy left
HasInput (Gen seed summary) left = Unit {0}

-- with this status the whole text was written
abbrev pub IsWhole : ℕ → Type 0
IsWhole status = (status < 4) ⊎ (status ≡ 7)

-- no fault was counted
abbrev pub NoFault : ℕ → ℕ → Type 0
NoFault before now = Rose before now → ⊥

-- memory ran out
abbrev pub IsOutOfMemory : ℕ → Type 0
IsOutOfMemory status = status ≡ 4

-- the whole text was written, or memory ran out
abbrev pub IsWrittenOrOutOfMemory : List (List ℕ) → Option (List ℕ) → ℕ → Option (List ℕ) → Option (List ℕ) → Type 0
IsWrittenOrOutOfMemory words left status before now = IsOutOfMemory status ⊎ IsWritten words left status before now

-- reading failed: a fault of the source was counted
abbrev pub IsReadFault : ℕ → ℕ → ℕ → Type 0
IsReadFault status before now = (status ≡ 5) × Rose before now

-- memory ran out, or reading failed
abbrev pub IsUnread : ℕ → ℕ → ℕ → Type 0
IsUnread status before now = IsOutOfMemory status ⊎ IsReadFault status before now

-- no answer was made: memory ran out, or the words are a command that reads, and reading failed
abbrev pub IsUnanswered : List (List ℕ) → ℕ → ℕ → ℕ → Type 0
IsUnanswered words status before now = IsOutOfMemory status ⊎ ((status ≡ 5) × IsReader words × Rose before now)

-- the same, by the faults that a source counts
abbrev pub HasNoAnswer : {S : Type 0} → (S → ℕ) → List (List ℕ) → S → S → ℕ → Type 0
HasNoAnswer faults words before now status = IsUnanswered words status (faults before) (faults now)

-- the words are a command that reads, and a fault of the source was counted
abbrev pub FailsToRead : {S : Type 0} → (S → ℕ) → List (List ℕ) → S → S → Type 0
FailsToRead faults words before now = IsReader words × Rose (faults before) (faults now)

-- at most one byte more than the limit went from what a source had left
abbrev pub ReadsToLimit : {S : Type 0} → Reading → (S → Option (List ℕ)) → S → S → Type 0
ReadsToLimit reading left before now = GivesUpTo (limit_of reading + 1) (left before) (left now)

-- where the words are a command that reads, its limit holds of what it reads
abbrev pub ReadsWithin : {S : Type 0} → List (List ℕ) → (S → Option (List ℕ)) → S → S → Type 0
ReadsWithin words left before now = (reading : Reading) → command_of words ≡ Some (Read reading) → ReadsToLimit reading left before now

-- a write failed
abbrev pub IsWriteFault : ℕ → Type 0
IsWriteFault status = status ≡ 6
