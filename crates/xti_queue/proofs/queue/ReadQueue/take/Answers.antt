use Rattle.std.proofs.Common.{length, ap, arith}
use Rattle.std.specs.VecDeque.{deque_capacity}
use Rattle.xti_queue.specs.Front.{symbols_in}
use Rattle.xti_queue.proofs.Fronts.{IsTaken, taken_front, taken_ended, taken_rest}
use Rattle.xti_queue.proofs.Counted.{kept_less, piece_counts}
use Rattle.xti_queue.proofs.queue.ReadQueue.take.Goals as goal
use Rattle.xti_queue.proofs.queue.ReadQueue.take.Goals.{In_ok-piece}

fits : (c : In_ok-piece) → IsTaken c.in_ok-piece.piece.bytes c.in_ok-piece.piece.ended (symbols_in c.take_piece.new.taken c.take_piece.new.held.items) c.args.max
fits c =
    let t = c.in_ok-piece.ensures.piece in
    record { bytes = t.are_bytes; most = t.most; stops = t.stops }

pub overflow_sub-self : goal.overflow_sub-self
overflow_sub-self c =
    let t = c.in_ok-piece.ensures.piece in
    let counts = piece_counts c.self.inside.held.items c.take_piece.new.held.items c.self.inside.taken c.take_piece.new.taken c.self.inside.bytes c.self.inside.ends c.self.inside.spare (deque_capacity c.self.inside.held) c.in_ok-piece.piece.bytes c.in_ok-piece.piece.ended c.self.invariant t.moved t.are_bytes in
    omega (arith, ap length c.as_slice.ensures, counts.0)

pub invariant_of-self-2 : goal.invariant_of-self-2
invariant_of-self-2 c =
    let t = c.in_ok-piece.ensures.piece in
    kept_less c.self.inside.held.items c.take_piece.new.held.items c.self.inside.taken c.take_piece.new.taken c.self.inside.bytes c.self.inside.ends c.self.inside.spare (deque_capacity c.self.inside.held) (deque_capacity c.take_piece.new.held) (length c.as_slice.result.now) c.from.result c.in_ok-piece.piece.bytes c.in_ok-piece.piece.ended
    c.self.invariant t.moved t.are_bytes t.wait t.within t.shorter c.take_piece.ensures.capacity (ap length c.as_slice.ensures) c.from.ensures

pub returns-clause-bytes : goal.returns-clause-bytes
returns-clause-bytes c =
    let place = (goal.at.returns-clause-bytes c).In_ok-piece in
    rw (← c.self.view_is) (taken_front (symbols_in c.self.inside.taken c.self.inside.held.items) c.in_ok-piece.piece.bytes c.in_ok-piece.piece.ended (symbols_in c.take_piece.new.taken c.take_piece.new.held.items) c.args.max c.in_ok-piece.ensures.piece.moved (fits place))

pub returns-clause-ended : goal.returns-clause-ended
returns-clause-ended c =
    let place = (goal.at.returns-clause-ended c).In_ok-piece in
    rw (← c.self.view_is) (taken_ended (symbols_in c.self.inside.taken c.self.inside.held.items) c.in_ok-piece.piece.bytes c.in_ok-piece.piece.ended (symbols_in c.take_piece.new.taken c.take_piece.new.held.items) c.args.max c.in_ok-piece.ensures.piece.moved (fits place))

pub returns-clause-rest : goal.returns-clause-rest
returns-clause-rest c =
    let place = (goal.at.returns-clause-rest c).In_ok-piece in
    rw (← c.self.view_is) (taken_rest (symbols_in c.self.inside.taken c.self.inside.held.items) c.in_ok-piece.piece.bytes c.in_ok-piece.piece.ended (symbols_in c.take_piece.new.taken c.take_piece.new.held.items) c.args.max c.in_ok-piece.ensures.piece.moved (fits place))
