use Rattle.xti_queue.proofs.Counted.{kept_new, begun_none, symbols_none}
use Rattle.xti_queue.proofs.queue.ReadQueue.new.Goals as goal

pub invariant_of-result : goal.invariant_of-result
invariant_of-result c = kept_new c.new.result.items _ c.new.ensures.items

pub returns-clause-frames : goal.returns-clause-frames
returns-clause-frames c = begun_none c.new.result.items 0 c.new.ensures.items

pub returns-clause-symbols : goal.returns-clause-symbols
returns-clause-symbols c = symbols_none c.new.result.items 0 c.new.ensures.items
