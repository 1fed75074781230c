use Rattle.xti_journal.proofs.Whole.{entry_worker}
use Rattle.xti_journal.proofs.journal_text.read_next.Goals as goal

pub add_entry-requires : goal.add_entry-requires
add_entry-requires c = rw c.replace.ensures.value (entry_worker c.args.draft.now.providers.version c.args.draft.now.entries c.args.draft.now.stalls c.args.line.now c.read_line.new.entry (rw c.in-Ok-Entry.field-0-is at c.in-Ok-Entry.ensures))
