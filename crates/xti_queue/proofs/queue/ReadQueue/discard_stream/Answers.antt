use Rattle.xti_queue.proofs.Counted.{kept_none, begun_none, symbols_none}
use Rattle.xti_queue.proofs.queue.ReadQueue.discard_stream.Goals as goal

pub invariant_of-self : goal.invariant_of-self
invariant_of-self c = kept_none c.self.inside.held.items c.clear.new.self.items _ _ _ c.self.inside.spare _ _ c.self.invariant c.clear.ensures.items c.clear.ensures.capacity

pub returns-clause-frames : goal.returns-clause-frames
returns-clause-frames c = begun_none c.clear.new.self.items 0 c.clear.ensures.items

pub returns-clause-symbols : goal.returns-clause-symbols
returns-clause-symbols c = symbols_none c.clear.new.self.items 0 c.clear.ensures.items
