use Rattle.std.proofs.Common.{rules, ◌≡◌, ◌<◌, length, slice_index_or, sym, ◌∙◌, arith}
use Rattle.xti_queue.proofs.Steps.{IsFirst}
use Rattle.xti_queue.proofs.Firsts.{cut_taken, end_taken}
use Rattle.xti_queue.proofs.front.take_first.Goals as goal

pub returns-then-max-rest-clause-piece : goal.returns-then-max-rest-clause-piece
returns-then-max-rest-clause-piece c =
    let some : 0 < length c.args.held.now.items = search rules in
    let is : c.in-Some.frame.now ≡ slice_index_or c.args.held.now.items 0 c.in-Some.frame.now = search rules in
    let first : IsFirst c.args.held.now.items c.in-Some.frame.now c.args.taken.now c.rest_of-rest.result.now =
    record { some = some; is = is; wait = c.requires.wait; user = c.rest_of-rest.ensures.rest; bytes = c.rest_of-rest.ensures.bytes } in
    cut_taken c.args.held.now.items c.in-Some.frame.now c.args.taken.now c.args.max c.rest_of-rest.result.now c.in_ok-bytes.bytes first c.if-max-rest.true c.in_ok-bytes.ensures.copy

pub returns-clause-piece : goal.returns-clause-piece
returns-clause-piece c =
    let some : 0 < length c.args.held.now.items = search rules in
    let is : c.in-Some.frame.now ≡ slice_index_or c.args.held.now.items 0 c.in-Some.frame.now = search rules in
    let first : IsFirst c.args.held.now.items c.in-Some.frame.now c.args.taken.now c.rest_of-rest.result.now =
    record { some = some; is = is; wait = c.requires.wait; user = c.rest_of-rest.ensures.rest; bytes = c.rest_of-rest.ensures.bytes } in
    end_taken c.args.held.now.items c.pop_front.new.self.items c.in-Some.frame.now c.args.taken.now c.args.max c.rest_of-rest.result.now c.in_ok-bytes-2.bytes first (omega (arith, c.if-max-rest.false)) (sym c.ends.ensures ∙ c.if-not-ends.false) c.pop_front.ensures.rest c.in_ok-bytes-2.ensures.copy
