use Rattle.std.proofs.Common.{length}
use Rattle.tpi_grammar.proofs.measure.+measure_slots.Given as goal

abbrev pub decreases-measure_slots : goal.decreases-measure_slots
decreases-measure_slots l = length l.slots.now
