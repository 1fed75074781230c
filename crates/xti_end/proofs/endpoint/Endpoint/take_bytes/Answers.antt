use Rattle.std.proofs.Common.{◌≡◌, ◌∙◌, ltb, length, refl, sym, ap, ℕ, List}
use Rattle.xti_model.specs.Calls.Datagrams.{has_rest}
use Rattle.xti_end.proofs.Fronts.{first_in, front-is}
use Rattle.xti_end.proofs.Views.{first-of, wait-is, received-is}
use Rattle.xti_end.proofs.endpoint.Endpoint.take_bytes.Goals as goal

pub returns-clause-bytes : goal.returns-clause-bytes
returns-clause-bytes c =
    let o = rw (← c.self.view_is) at c.requires.open in
    let f = first-of c.self.inside.body c.self.inside.waiting o in
    let w = rw (wait-is c.self.inside.body c.self.inside.waiting o) at (rw (← c.self.view_is) at c.requires.waits) in
    let b = rw f at (rw (← c.self.view_is) at (rw c.rest.ensures at c.is_more-begun.ensures.bytes)) in
    rw (← c.self.view_is, f) (c.in_ok-piece.ensures.bytes ∙ front-is c.args.max c.self.inside.waiting.datagrams.taken c.self.inside.waiting.datagrams.pushed c.self.invariant.datagrams w b)

pub returns-clause-left : goal.returns-clause-left
returns-clause-left c =
    let o = rw (← c.self.view_is) at c.requires.open in
    let f = first-of c.self.inside.body c.self.inside.waiting o in
    let w = rw (wait-is c.self.inside.body c.self.inside.waiting o) at (rw (← c.self.view_is) at c.requires.waits) in
    let r = rw f at (rw (← c.self.view_is) at c.rest.ensures) in
    let b : has_rest c.args.max (first_in c.self.inside.waiting.datagrams.taken c.self.inside.waiting.datagrams.pushed) ≡ c.is_more-begun.result = ap (λ (bs : List ℕ). ltb c.args.max (length bs)) (sym r) ∙ sym c.is_more-begun.ensures.more in
    rw (c.set_begun.ensures, ← c.self.view_is, c.in_ok-piece.ensures.spare, received-is c.self.inside.body c.self.inside.waiting c.take.new.self c.args.max c.is_more-begun.result o c.self.invariant.datagrams w b c.in_ok-piece.ensures.frames) refl
