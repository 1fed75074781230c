use Rattle.std.proofs.Common.{length}
use Rattle.xti_journal.proofs.names.+errno_among.Given as goal

abbrev pub decreases-errno_among : goal.decreases-errno_among
decreases-errno_among l = length l.errnos.now
