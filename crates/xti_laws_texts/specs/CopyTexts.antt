-- A journal that its text tells.
use Rattle.std.specs.Prelude.{◌≡◌}
use Rattle.xti_model.specs.declared.script.Journal.{Journal}
use Rattle.xti_journal_text.specs.JournalText.{journal_text}
use Rattle.xti_journal.specs.Grammar.{IsJournal}

-- no other journal has its text
abbrev pub HasOwnText : Journal → Type 0
HasOwnText j = (k : Journal) → IsJournal k (journal_text j) → k ≡ j
