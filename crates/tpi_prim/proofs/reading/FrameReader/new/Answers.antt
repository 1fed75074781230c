use Rattle.tpi_prim.proofs.FeedReads.{nothing_short}
use Rattle.tpi_prim.proofs.reading.FrameReader.new.Goals as goal

pub invariant_of-result : goal.invariant_of-result
invariant_of-result c = rw c.new.ensures.items nothing_short
