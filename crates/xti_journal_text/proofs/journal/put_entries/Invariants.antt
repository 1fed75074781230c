use Rattle.std.proofs.Common.{◌≡◌, ◌+◌, ◌++◌, drop}
use Rattle.xti_journal_text.specs.JournalText.{entries_text}
use Rattle.xti_journal_text.proofs.journal.put_entries.Given as goal

abbrev pub invariant-loop-e : goal.invariant-loop-e
invariant-loop-e l = record {
  count : l.n ≡ l.e-index;
  text : l.out.items ++ entries_text (l.e-index + 1) (drop l.e-index l.entries) ≡ l.fn.out.items ++ entries_text 1 l.entries;
}
