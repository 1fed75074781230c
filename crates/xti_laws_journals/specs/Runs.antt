-- The journal of a run, and what laws say of journals and runs.
use Rattle.std.specs.Prelude.{◌≡◌, ℕ, List}
use Rattle.xti_model.specs.declared.entry.Entry.{Entry}
use Rattle.xti_model.specs.declared.script.Journal.{Journal}
use Rattle.xti_model.specs.declared.script.Script.{Script}
use Rattle.xti_model.specs.Complete.{Complete}
use Rattle.xti_journal.specs.Grammar.{IsJournal}
use Rattle.xti_script_reader.specs.Grammar.{HasText}
use Rattle.xti_laws_streams.specs.Laws.{IsLegalRun}
use Rattle.xti_replay.specs.Stalls.{stalls_after}

-- the journal of these entries, with a stall line for each worker that they leave unfinished
abbrev pub journal_of : Script → List Entry → Journal
journal_of s entries = record { providers = s.providers; entries = entries; stalls = stalls_after s.lines entries }

-- this holds of the journal of each legal history of a script that has a text
abbrev pub OfRunJournals : (Journal → Type 0) → Type 0
OfRunJournals holds = (s : Script) (entries : List Entry) → HasText s → IsLegalRun s entries → holds (journal_of s entries)

-- this holds of the journal of each legal history that ends only where nobody can go on
abbrev pub OfWholeRuns : (Journal → Type 0) → Type 0
OfWholeRuns holds = (s : Script) (entries : List Entry) → IsLegalRun s entries → Complete s.providers entries s.lines → holds (journal_of s entries)

-- of all journals this one alone has the text
abbrev pub IsOnlyJournal : Journal → List ℕ → Type 0
IsOnlyJournal j text = (k : Journal) → IsJournal k text → k ≡ j
