use Rattle.std.proofs.Common.{rules, ◌≡◌, ◌<◌, length, slice_index_or, Some, sym, ap, ◌∙◌, List, ℕ}
use Rattle.tpi_prim.specs.Primitive.{user_of}
use Rattle.xti_queue.proofs.Indicated.{user_left}
use Rattle.xti_queue.proofs.Counted.{first_told, none_told}
use Rattle.xti_queue.proofs.Steps.{can_first}
use Rattle.xti_queue.proofs.queue.ReadQueue.front_rest.Goals as goal

pub returns-in_err-frame : goal.returns-in_err-frame
returns-in_err-frame c = rw (← c.self.view_is, c.from_residual.ensures) (sym (none_told user_of c.self.inside.held.items c.self.inside.taken (λ some. absurd (search rules))))

pub returns : goal.returns
returns c =
    let some : 0 < length c.self.inside.held.items = search rules in
    let is : c.in_ok-frame.frame.now ≡ slice_index_or c.self.inside.held.items 0 c.in_ok-frame.frame.now = search rules in
    let can = can_first c.self.inside.held.items c.in_ok-frame.frame.now some is c.self.invariant.wait in
    rw (← c.self.view_is)
    (ap (λ (u : List ℕ). Some u) (c.rest_of.ensures.rest ∙ sym (user_left c.in_ok-frame.frame.now c.self.inside.taken can))
    ∙ sym (first_told user_of c.self.inside.held.items c.in_ok-frame.frame.now c.self.inside.taken some is))
