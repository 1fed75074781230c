use Rattle.std.proofs.Common.{◌≡◌}
use Rattle.xti_journal.proofs.values.pieces_of.Given as goal

abbrev pub invariant-loop-piece : goal.invariant-loop-piece
invariant-loop-piece l = l.pieces.items ≡ l.yielded
