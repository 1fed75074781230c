-- What each command answers to its input.
use Rattle.std.specs.Prelude.{◌≡◌, Bool, true, false, ℕ, ◌+◌, List, ◌++◌, length, codes, decimal, ◌⊎◌}
use Rattle.xti_base.specs.declared.limits.TheConstants.{MOST_INPUT}
use Rattle.xti_model.specs.declared.entry.Entry.{Entry}
use Rattle.xti_model.specs.declared.script.Script.{Script}
use Rattle.xti_model.specs.declared.script.Journal.{Journal}
use Rattle.xti_model.specs.History.{Legal}
use Rattle.xti_model.specs.Robin.{robin}
use Rattle.xti_laws_streams.specs.Copying.{AreCalls, copied, copy_calls, copy_journal}
use Rattle.xti_laws_streams.specs.CopyLaws.{HasOneConnection, HasSentItsInput, HasGotItsInput}
use Rattle.xti_model.specs.Complete.{Follows, Each, workers, Complete}
use Rattle.xti_replay.specs.Stalls.{gone_on, are_through}
use Rattle.xti_laws_streams.specs.Laws.{PrefixLaw, WaitingLaw, ReleaseLaw}
use Rattle.xti_script_reader.specs.Grammar.{IsScript}
use Rattle.xti_script_reader.specs.declared.script_text.ScriptFail.{ScriptFail}
use Rattle.xti_script_reader.specs.Read.{IsBad}
use Rattle.xti_script_reader.specs.Refused.{IsRefusedAt}
use Rattle.xti_journal_text.specs.JournalText.{journal_text}
use Rattle.xti_journal.specs.Grammar.{HasText, IsJournal}
use Rattle.xti_journal.specs.Refused.{IsRefusedAt as IsNoJournalAt}
use Rattle.xti_check.specs.Verdicts.{IsLegal}
use Rattle.xti_check.specs.Judgements.{TellsWrong, legal_text}
use Rattle.xti_replay.specs.Few.{AreFew}
use Rattle.xti_laws_journals.specs.Runs.{journal_of, IsOnlyJournal}
use Rattle.tpi_grammar.specs.Frames.{IsFirstWrong}
use Rattle.xti_frames.specs.FrameText.{IsShown}
use Rattle.xti_gbn.specs.declared.events.LinkEvent.{LinkEvent}
use Rattle.xti_gbn.specs.Reports.{report_of, report_text}
use Rattle.xti_gbn.specs.Grammar.{IsLinkScript}
use Rattle.xti_gbn.specs.Refused.{IsRefusedAt as IsNoLinkScriptAt}
use Rattle.xti_journal_text.specs.Summaries.{summary_text}
use Rattle.xti_script.specs.Generated.{generated}
use Rattle.xti_script.specs.Canonical.{script_text}
use Rattle.xti_command.specs.declared.command.Reading.{Reading}
use Rattle.xti_command.specs.declared.command.Reading.TheVariants.{Replay, Run, Check, Frames, Link, Sock}
use Rattle.xti_outputs.specs.declared.limits.TheConstants.{MOST_COPY}

-- the most bytes of an input
abbrev pub limit_of : Reading → ℕ
limit_of (Sock summary) = MOST_COPY
limit_of other = MOST_INPUT

-- 0 where all are finished, else 3
abbrev pub status_with : Bool → ℕ
status_with true = 0
status_with false = 3

abbrev pub run_status : Script → List Entry → ℕ
run_status s entries = status_with (are_through s.lines entries)

unfoldable pub refused_line : ℕ → List ℕ
refused_line n = codes "refused line " ++ decimal n ++ codes "\n"

unfoldable pub refused_byte : ℕ → List ℕ
refused_byte at = codes "refused byte " ++ decimal at ++ codes "\n"

-- what is printed of a journal: its text, or its summary
abbrev pub printed_of : Bool → Journal → List ℕ
printed_of false j = journal_text j
printed_of true j = summary_text j

-- where no summary is asked for, the text is that of this journal, and of no other
abbrev pub IsPrinted : Bool → Journal → List ℕ → Type 0
IsPrinted false j text = IsJournal j text × IsOnlyJournal j text
IsPrinted true j text = HasText j × (text ≡ summary_text j)

-- The script was run, and these are all its entries, no more than it has calls and bytes of arguments: their journal with a stall line for each worker that is not finished, or the summary of that. The journal is
-- one that is read, no other has its text, and it is legal. The run is legal, has each worker's calls in script order, each once, and ends early only where worker 0 is blocked in its setup, or each worker that is
-- not finished is blocked.
-- On each connection of the run, and of normal and of expedited data each by itself, what an end received is a prefix of what the other end sent; while its life lasts and the connection is not broken there, what waits
-- is the rest; and an end that received the orderly release received all.
-- Status 0 where every worker is finished, else 3.
pub record IsWholeRun (summary : Bool) (script : Script) (entries : List Entry) (status : ℕ) (text : List ℕ) : Type 0 where
  pub done : status ≡ run_status script entries
  pub printed : IsPrinted summary (journal_of script entries) text
  pub judged : IsLegal (journal_of script entries)
  pub few : AreFew script entries
  pub legal : Legal script.providers entries
  pub follows : Each (Follows entries script.lines) workers
  pub complete : Complete script.providers entries script.lines
  pub prefix : PrefixLaw script.providers entries
  pub waiting : WaitingLaw script.providers entries
  pub release : ReleaseLaw script.providers entries

-- the same of the entries of a history with which the workers go on by turns
abbrev pub IsRunFrom : Bool → Script → List Entry → ℕ → List ℕ → Type 0
IsRunFrom summary script history status text = IsWholeRun summary script (gone_on script history) status text

-- the script was run by turns
pub record IsPlayed (summary : Bool) (script : Script) (status : ℕ) (text : List ℕ) : Type 0 where
  pub whole : IsWholeRun summary script (robin script) status text

-- the script was run by threads, which made some whole run of it
pub record IsThreaded (summary : Bool) (script : Script) (status : ℕ) (text : List ℕ) : Type 0 where
  pub entries : List Entry
  pub whole : IsWholeRun summary script entries status text

-- the input is a valid script, which was run by turns
pub record IsReplayed (summary : Bool) (input : List ℕ) (status : ℕ) (text : List ℕ) : Type 0 where
  pub script : Script
  pub is_script : IsScript script input
  pub played : IsPlayed summary script status text

-- the input is a valid script, which was run by threads
pub record IsRunByThreads (summary : Bool) (input : List ℕ) (status : ℕ) (text : List ℕ) : Type 0 where
  pub script : Script
  pub is_script : IsScript script input
  pub threaded : IsThreaded summary script status text

-- the input is no valid script: status 2, and the first line by which it is not
pub record IsRefusedInput (input : List ℕ) (status : ℕ) (text : List ℕ) : Type 0 where
  pub line : ℕ
  pub refused : IsRefusedAt input line
  pub done : status ≡ 2
  pub printed : text ≡ refused_line line

-- so it is of each input that is refused so
abbrev pub IsRefusedBy : ScriptFail → ℕ → List ℕ → Type 0
IsRefusedBy fail status text = (input : List ℕ) → IsBad input fail → IsRefusedInput input status text

-- The input is a legal journal: status 0, and the number of its entries.
-- On each of its connections, and of normal and of expedited data each by itself, what an end received is a prefix of what the other end sent; while its life lasts and the connection is not broken there, what waits
-- is the rest; and an end that received the orderly release received all.
pub record IsLegalJournal (input : List ℕ) (status : ℕ) (text : List ℕ) : Type 0 where
  pub journal : Journal
  pub is_journal : IsJournal journal input
  pub legal : IsLegal journal
  pub prefix : PrefixLaw journal.providers journal.entries
  pub waiting : WaitingLaw journal.providers journal.entries
  pub release : ReleaseLaw journal.providers journal.entries
  pub done : status ≡ 0
  pub printed : text ≡ legal_text (length journal.entries)

-- the input is a journal that isn't legal: status 7, and its first wrong line, with what should stand there and what stands there
pub record IsWrongJournal (input : List ℕ) (status : ℕ) (text : List ℕ) : Type 0 where
  pub journal : Journal
  pub is_journal : IsJournal journal input
  pub done : status ≡ 7
  pub wrong : TellsWrong journal text

-- the input is no journal: status 2, and the first line by which it is not
pub record IsRefusedJournal (input : List ℕ) (status : ℕ) (text : List ℕ) : Type 0 where
  pub line : ℕ
  pub refused : IsNoJournalAt input line
  pub done : status ≡ 2
  pub printed : text ≡ refused_line line

-- the input is frames one after the other: status 0 and a line for each
pub record IsListed (input : List ℕ) (status : ℕ) (text : List ℕ) : Type 0 where
  pub done : status ≡ 0
  pub shown : IsShown input text

-- the input isn't frames: status 2, and the first byte by which it isn't
pub record IsRefusedByte (input : List ℕ) (status : ℕ) (text : List ℕ) : Type 0 where
  pub at : ℕ
  pub wrong : IsFirstWrong input at
  pub done : status ≡ 2
  pub printed : text ≡ refused_byte at

-- the input is a link script: status 0, and the report of its events, which is that of the definition of a link
pub record IsLinked (input : List ℕ) (status : ℕ) (text : List ℕ) : Type 0 where
  pub events : List LinkEvent
  pub is_script : IsLinkScript events input
  pub done : status ≡ 0
  pub printed : text ≡ report_text (report_of events)

-- the input is no link script: status 2, and the first line by which it is not
pub record IsRefusedLink (input : List ℕ) (status : ℕ) (text : List ℕ) : Type 0 where
  pub line : ℕ
  pub refused : IsNoLinkScriptAt input line
  pub done : status ≡ 2
  pub printed : text ≡ refused_line line

-- The input was copied over sockets: status 0, and the journal of that, or its summary. The journal is one that is read, no other
-- has its text, and it is legal. Its calls are those of a copy, of worker 0, in their order, each once; it has one connection, on
-- which the client sent the input as normal data, and the other end received it.
pub record IsCopied (summary : Bool) (input : List ℕ) (status : ℕ) (text : List ℕ) : Type 0 where
  pub done : status ≡ 0
  pub printed : IsPrinted summary (copy_journal input) text
  pub judged : IsLegal (copy_journal input)
  pub calls : AreCalls 0 (copy_calls input) (copied input)
  pub one : HasOneConnection (copied input)
  pub sent : HasSentItsInput input (copied input)
  pub got : HasGotItsInput input (copied input)

-- the generated script is written in its canonical text, which is one of it: status 0; or it was run, and its summary is written
abbrev pub IsGenerated : ℕ → Bool → ℕ → List ℕ → Type 0
IsGenerated seed false status text = (status ≡ 0) × (text ≡ script_text (generated seed)) × IsScript (generated seed) text
IsGenerated seed true status text = IsPlayed true (generated seed) status text

-- the status and the text for an input within the limit
abbrev pub IsAnswered : Reading → List ℕ → ℕ → List ℕ → Type 0
IsAnswered (Replay summary) input status text = IsReplayed summary input status text ⊎ IsRefusedInput input status text
IsAnswered (Run summary) input status text = IsRunByThreads summary input status text ⊎ IsRefusedInput input status text
IsAnswered Check input status text = IsLegalJournal input status text ⊎ (IsWrongJournal input status text ⊎ IsRefusedJournal input status text)
IsAnswered Frames input status text = IsListed input status text ⊎ IsRefusedByte input status text
IsAnswered Link input status text = IsLinked input status text ⊎ IsRefusedLink input status text
IsAnswered (Sock summary) input status text = IsCopied summary input status text

-- this holds of what `check` answers to the text of a whole run
abbrev pub OfCheckedRuns : (List Entry → ℕ → List ℕ → Type 0) → Type 0
OfCheckedRuns holds =
    (script : Script) (entries : List Entry) (done : ℕ) (text : List ℕ) (status : ℕ) (said : List ℕ)
    → IsWholeRun false script entries done text → IsAnswered Check text status said → holds entries status said
