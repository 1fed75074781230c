use Rattle.std.proofs.Common.{◌≡◌, length, take}
use Rattle.std.specs.List.{concat}
use Rattle.xti_journal_text.specs.Counting.{capped}
use Rattle.xti_journal_text.proofs.payload.total.Given as goal

abbrev pub invariant-loop-part : goal.invariant-loop-part
invariant-loop-part l = l.total ≡ capped (length (concat (take l.part-index l.parts)))
