use Rattle.std.proofs.Common.{length}
use Rattle.xti_journal.proofs.names.+state_among.Given as goal

abbrev pub decreases-state_among : goal.decreases-state_among
decreases-state_among l = length l.states.now
