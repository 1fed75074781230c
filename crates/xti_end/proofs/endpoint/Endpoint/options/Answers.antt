use Rattle.std.proofs.Common.{◌≡◌, refl, Some}
use Rattle.std.specs.Prelude.{slice_get}
use Rattle.xti_end.proofs.Fronts.{kind-first, first-is, first-none, opt-is}
use Rattle.xti_end.proofs.Views.{first-of}
use Rattle.xti_end.proofs.endpoint.Endpoint.options.Goals as goal

pub returns-in-Some : goal.returns-in-Some
returns-in-Some c =
    let e : Some c.in-Some.frame.now ≡ slice_get c.self.inside.waiting.datagrams.pushed 0 = c.in-Some.ensures in
    let k = kind-first c.self.inside.waiting.datagrams.pushed c.in-Some.frame.now c.self.invariant.datagrams e in
    let b = rw (← c.self.view_is) at (rw c.begun.ensures at c.if-begun.false) in
    let o = rw (← c.self.view_is) at c.requires in
    rw (← c.self.view_is, b, first-of c.self.inside.body c.self.inside.waiting o, first-is c.self.inside.waiting.datagrams.taken c.self.inside.waiting.datagrams.pushed c.in-Some.frame.now c.self.invariant.datagrams e)
    (opt-is c.in-Some.frame.now c.part.result.now k c.part.ensures)

pub returns-in-None : goal.returns-in-None
returns-in-None c =
    let b = rw (← c.self.view_is) at (rw c.begun.ensures at c.if-begun.false) in
    let o = rw (← c.self.view_is) at c.requires in
    rw (← c.self.view_is, b, first-of c.self.inside.body c.self.inside.waiting o, first-none c.self.inside.waiting.datagrams.taken c.self.inside.waiting.datagrams.pushed c.in-None.ensures) refl
