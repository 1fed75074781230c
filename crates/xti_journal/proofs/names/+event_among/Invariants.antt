use Rattle.std.proofs.Common.{length}
use Rattle.xti_journal.proofs.names.+event_among.Given as goal

abbrev pub decreases-event_among : goal.decreases-event_among
decreases-event_among l = length l.events.now
