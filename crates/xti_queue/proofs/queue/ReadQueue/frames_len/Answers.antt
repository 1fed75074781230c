use Rattle.std.proofs.Common.{rules, ◌≡◌, length}
use Rattle.xti_queue.proofs.Indicated.{begun-length}
use Rattle.xti_queue.proofs.queue.ReadQueue.frames_len.Goals as goal

pub returns-clause-frames : goal.returns-clause-frames
returns-clause-frames c =
    let len : c.len.result ≡ length c.self.inside.held.items = search rules in
    rw (len, ← c.self.view_is) (begun-length c.self.inside.held.items c.self.inside.taken)
