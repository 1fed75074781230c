use Rattle.std.proofs.Common.{◌≡◌, ◌++◌, take}
use Rattle.std.specs.List.{flat_map}
use Rattle.xti_journal_text.specs.JournalText.{stall_text}
use Rattle.xti_journal_text.proofs.journal.put_stalls.Given as goal

abbrev pub invariant-loop-s : goal.invariant-loop-s
invariant-loop-s l = l.out.items ≡ l.fn.out.items ++ flat_map stall_text (take l.s-index l.stalls)
