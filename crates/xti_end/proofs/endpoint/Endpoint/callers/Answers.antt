use Rattle.std.proofs.Common.{arith}
use Rattle.xti_end.proofs.Callers.{callers-are, callers-few}
use Rattle.xti_end.proofs.endpoint.Endpoint.callers.Goals as goal

pub with_callers-outstanding-requires : goal.with_callers-outstanding-requires
with_callers-outstanding-requires c =
    let few = callers-few c.self.inside.body c.self.inside.waiting c.self.invariant.no_pending c.self.invariant.no_outstanding (rw (← c.self.view_is) at c.requires) in
    rw (c.new.ensures, c.as_slice.ensures) (omega (arith, few))

pub with_callers-requires : goal.with_callers-requires
with_callers-requires c =
    let few = callers-few c.self.inside.body c.self.inside.waiting c.self.invariant.no_pending c.self.invariant.no_outstanding (rw (← c.self.view_is) at c.requires) in
    let most = rw (c.new.ensures, c.as_slice.ensures) at c.with_callers-outstanding.ensures.few in
    rw c.as_slice-2.ensures (omega (arith, few, most))

pub returns : goal.returns
returns c =
    rw (c.with_callers.ensures.cells, c.with_callers-outstanding.ensures.cells, c.new.ensures, c.as_slice.ensures, c.as_slice-2.ensures, ← c.self.view_is)
    (callers-are c.args.p.now c.self.inside.body c.self.inside.waiting c.self.invariant.pending c.self.invariant.outstanding c.self.invariant.no_pending c.self.invariant.no_outstanding)
