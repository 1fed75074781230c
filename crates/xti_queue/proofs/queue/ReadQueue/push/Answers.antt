use Rattle.std.proofs.Common.{◌≡◌, ◌≤◌, ℕ, List, length, arith, ap, ◌∙◌, subst}
use Rattle.std.specs.VecDeque.{deque_capacity}
use Rattle.tpi_grammar.specs.Frame.{AreBytes}
use Rattle.tpi_prim.specs.Primitive.{user_of}
use Rattle.tpi_prim.specs.Fields.{primitive_in}
use Rattle.xti_queue.specs.Indications.{begun}
use Rattle.xti_queue.specs.Front.{symbols_in}
use mir.Val.{bool_byte}
use Rattle.xti_queue.proofs.Counted.{kept_push, begun-push, symbols-push}
use Rattle.xti_queue.proofs.queue.ReadQueue.push.Goals as goal

pub invariant_of-self : goal.invariant_of-self
invariant_of-self c =
    let user : c.rest_of.result.now ≡ user_of (primitive_in c.args.frame) = c.rest_of.ensures.rest in
    let some : 1 ≤ c.self.inside.spare = rw (← c.self.view_is) at c.requires.room in
    let most : length (user_of (primitive_in c.args.frame)) ≤ 65536 = omega (arith, c.rest_of.ensures.most, ap length user) in
    kept_push c.self.inside.held.items c.push_back_reserved.new.self.items c.args.frame c.self.inside.taken c.self.inside.bytes c.self.inside.ends c.self.inside.spare (deque_capacity c.self.inside.held) (deque_capacity c.push_back_reserved.new.self) (length c.rest_of.result.now) c.from.result
    c.self.invariant c.push_back_reserved.ensures.items (ap length user) (c.from.ensures ∙ ap bool_byte c.ends.ensures) c.requires.kind (subst AreBytes user c.rest_of.ensures.bytes) most some c.push_back_reserved.ensures.capacity

pub returns-clause-frames : goal.returns-clause-frames
returns-clause-frames c =
    rw (← c.self.view_is)
    (ap (λ (l : List (List ℕ)). begun c.self.inside.taken l) c.push_back_reserved.ensures.items ∙ begun-push c.self.inside.held.items c.args.frame c.self.inside.taken c.self.invariant.within)

pub returns-clause-symbols : goal.returns-clause-symbols
returns-clause-symbols c =
    rw (← c.self.view_is)
    (ap (λ (l : List (List ℕ)). symbols_in c.self.inside.taken l) c.push_back_reserved.ensures.items ∙ symbols-push c.self.inside.held.items c.args.frame c.self.inside.taken c.self.invariant.within)
