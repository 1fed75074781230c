-- What reading a journal answers.
use Rattle.std.specs.Prelude.{◌≡◌, ◌⊎◌, ℕ, Bool, true, false, List, Some, None, Result, Ok, Err}
use Rattle.xti_model.specs.declared.entry.Entry.{Entry}
use Rattle.xti_model.specs.declared.script.Journal.{Journal}
use Rattle.xti_model.specs.declared.script.StallLine.{StallLine}
use Rattle.xti_words.specs.declared.noted.FieldFail.{FieldFail}
use Rattle.xti_words.specs.declared.noted.FieldFail.TheVariants as field
use Rattle.xti_journal.specs.Known.{Entered, Stalled}
use Rattle.xti_journal.specs.Reading.{line_after, entry_read, stall_read}
use Rattle.xti_journal.specs.Reading.{LineRead as read}
use Rattle.xti_journal.specs.declared.journal_text.JournalFail.{JournalFail}
use Rattle.xti_journal.specs.declared.journal_text.JournalFail.TheVariants.{Bad, OutOfMemory}
use Rattle.xti_journal.specs.Grammar.{IsJournal}
use Rattle.xti_journal.specs.Refused.{IsRefusedAt}

-- this journal, or out of memory
abbrev pub IsReadAs : Result Journal JournalFail → Journal → Type 0
IsReadAs (Ok read) j = read ≡ j
IsReadAs (Err (Bad line)) j = ⊥
IsReadAs (Err OutOfMemory) j = Unit {0}

-- the line that is named is the first by which the text is no journal
abbrev pub IsBad : List ℕ → JournalFail → Type 0
IsBad text (Bad line) = IsRefusedAt text line
IsBad text OutOfMemory = Unit {0}

-- this is a journal with the text, or why there is none
abbrev pub ReadsInto : {A : Type 0} → List ℕ → Journal → Result A JournalFail → Type 0
ReadsInto text j (Ok read) = IsJournal j text
ReadsInto text j (Err e) = IsBad text e

-- a journal with this text, or why there is none
abbrev pub ReadsText : List ℕ → Result Journal JournalFail → Type 0
ReadsText text (Ok j) = IsJournal j text
ReadsText text (Err e) = IsBad text e

-- the words are an entry or a stall line, which is added; or the last line; or no line, or memory runs out
abbrev pub ReadsNext : Journal → List (List ℕ) → Journal → Result Bool FieldFail → Type 0
ReadsNext old words new (Ok true) = ((e : Entry) × (line_after old words ≡ Some (read.Entered (entry_read e))) × Entered old e new) ⊎ ((s : StallLine) × (line_after old words ≡ Some (read.Stalled (stall_read s))) × Stalled old s new)
ReadsNext old words new (Ok false) = (line_after old words ≡ Some read.Ended) × (new ≡ old)
ReadsNext old words new (Err field.Wrong) = line_after old words ≡ None
ReadsNext old words new (Err field.OutOfMemory) = Unit {0}
