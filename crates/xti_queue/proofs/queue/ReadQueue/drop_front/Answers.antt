use Rattle.std.proofs.Common.{rules, ◌≡◌, ◌++◌, [], ◌∷◌, ℕ, List, length, drop, arith, refl, sym, ap, ◌∙◌, subst}
use Rattle.std.specs.VecDeque.{deque_capacity}
use Rattle.tpi_prim.specs.declared.primitive.Prim.{Prim}
use Rattle.tpi_prim.specs.Fields.{primitive_in}
use Rattle.xti_model.specs.Symbols.{piece}
use Rattle.xti_queue.specs.Indications.{ends_message, begun}
use Rattle.xti_queue.specs.Kept.{AllWait}
use Rattle.xti_queue.specs.Front.{symbols_in}
use mir.Val.{bool_byte}
use Rattle.xti_queue.proofs.Indicated.{begun-drop}
use Rattle.xti_queue.proofs.Steps.{within_none, wait-drop}
use Rattle.xti_queue.proofs.Counted.{kept_less, piece_counts, popped_symbols, begun_none}
use Rattle.xti_queue.proofs.queue.ReadQueue.drop_front.Goals as goal

pub returns-in_default-clause-frames : goal.returns-in_default-clause-frames
returns-in_default-clause-frames c =
    let none : c.self.inside.held.items ≡ [] = search rules in
    let left : c.pop_front.new.self.items ≡ [] = sym c.in_default.ensures.items ∙ none in
    rw (← c.self.view_is)
    (begun_none c.pop_front.new.self.items c.self.inside.taken left ∙ sym (ap (λ (l : List Prim). drop 1 l) (begun_none c.self.inside.held.items c.self.inside.taken none)))

pub overflow_sub-self : goal.overflow_sub-self
overflow_sub-self c =
    let u = c.rest_of.result.now in
    let is : c.self.inside.held.items ≡ c.in-Some.frame ∷ c.pop_front.new.self.items = c.in-Some.ensures.items in
    let moved : symbols_in c.self.inside.taken c.self.inside.held.items ≡ piece u (ends_message (primitive_in c.in-Some.frame)) ++ symbols_in 0 c.pop_front.new.self.items =
    popped_symbols c.self.inside.held.items c.pop_front.new.self.items c.in-Some.frame c.self.inside.taken u is c.self.invariant.wait c.rest_of.ensures.rest in
    omega (arith, (piece_counts c.self.inside.held.items c.pop_front.new.self.items c.self.inside.taken 0 c.self.inside.bytes c.self.inside.ends c.self.inside.spare (deque_capacity c.self.inside.held) u (ends_message (primitive_in c.in-Some.frame)) c.self.invariant moved c.rest_of.ensures.bytes).0)

pub overflow_sub-self-2 : goal.overflow_sub-self-2
overflow_sub-self-2 c =
    let u = c.rest_of.result.now in
    let is : c.self.inside.held.items ≡ c.in-Some.frame ∷ c.pop_front.new.self.items = c.in-Some.ensures.items in
    let moved : symbols_in c.self.inside.taken c.self.inside.held.items ≡ piece u (ends_message (primitive_in c.in-Some.frame)) ++ symbols_in 0 c.pop_front.new.self.items =
    popped_symbols c.self.inside.held.items c.pop_front.new.self.items c.in-Some.frame c.self.inside.taken u is c.self.invariant.wait c.rest_of.ensures.rest in
    omega (arith, (piece_counts c.self.inside.held.items c.pop_front.new.self.items c.self.inside.taken 0 c.self.inside.bytes c.self.inside.ends c.self.inside.spare (deque_capacity c.self.inside.held) u (ends_message (primitive_in c.in-Some.frame)) c.self.invariant moved c.rest_of.ensures.bytes).1, c.from.ensures ∙ ap bool_byte c.ends.ensures)

pub invariant_of-self-2 : goal.invariant_of-self-2
invariant_of-self-2 c =
    let u = c.rest_of.result.now in
    let is : c.self.inside.held.items ≡ c.in-Some.frame ∷ c.pop_front.new.self.items = c.in-Some.ensures.items in
    let moved : symbols_in c.self.inside.taken c.self.inside.held.items ≡ piece u (ends_message (primitive_in c.in-Some.frame)) ++ symbols_in 0 c.pop_front.new.self.items =
    popped_symbols c.self.inside.held.items c.pop_front.new.self.items c.in-Some.frame c.self.inside.taken u is c.self.invariant.wait c.rest_of.ensures.rest in
    let rest : drop 1 c.self.inside.held.items ≡ c.pop_front.new.self.items = sym c.pop_front.ensures.rest in
    kept_less c.self.inside.held.items c.pop_front.new.self.items c.self.inside.taken 0 c.self.inside.bytes c.self.inside.ends c.self.inside.spare (deque_capacity c.self.inside.held) (deque_capacity c.pop_front.new.self) (length u) c.from.result u
    (ends_message (primitive_in c.in-Some.frame)) c.self.invariant moved c.rest_of.ensures.bytes (subst AllWait rest (wait-drop c.self.inside.held.items c.self.invariant.wait)) (within_none c.pop_front.new.self.items)
    (omega (arith, ap length is)) c.pop_front.ensures.capacity refl (c.from.ensures ∙ ap bool_byte c.ends.ensures)

pub returns-clause-frames : goal.returns-clause-frames
returns-clause-frames c =
    rw (← c.self.view_is) (ap (λ (l : List (List ℕ)). begun 0 l) c.pop_front.ensures.rest ∙ begun-drop c.self.inside.held.items c.self.inside.taken)
