use Rattle.std.proofs.Common.{◌∙◌, ◌≡◌, ap, subst, length, ◌≤◌, ◌+◌, arith}
use Rattle.xti_base.specs.declared.limits.TheConstants.{MOST_QUEUE}
use Rattle.xti_model.specs.Cells.{listed}
use Rattle.xti_model.specs.declared.profile.Providers.{Providers}
use Rattle.xti_model.specs.Touched.{of_some, caller_cells}
use Rattle.xti_core.specs.Touches.{known}
use Rattle.xti_core.proofs.Listing.{few-callers, known-few, named-cells, listed-few}
use Rattle.xti_core.proofs.touching.known_cells.Goals as goal

pub with-asking-requires : goal.with-asking-requires
with-asking-requires c =
    let few : length c.callers.result ≤ MOST_QUEUE = listed-few (of_some c.args.e.now.body (caller_cells c.providers.result.now)) c.callers.result MOST_QUEUE c.callers.ensures (few-callers c.providers.result.now c.args.e.now.body c.requires) in
    omega arith

pub with-requires : goal.with-requires
with-requires c =
    let few : length c.callers.result ≤ MOST_QUEUE = listed-few (of_some c.args.e.now.body (caller_cells c.providers.result.now)) c.callers.result MOST_QUEUE c.callers.ensures (few-callers c.providers.result.now c.args.e.now.body c.requires) in
    omega (arith, c.with-asking.ensures.few)

pub returns : goal.returns
returns c =
    let p = c.args.lent.now.providers in
    let callers = subst (λ (q : Providers). c.callers.result ≡ listed (of_some c.args.e.now.body (caller_cells q))) c.providers.ensures.providers c.callers.ensures in
    let cells : c.with.result ≡ listed (of_some c.args.e.now.body (known p)) =
    c.with.ensures.cells _ (c.with-asking.ensures.cells _ callers) ∙ ap listed (named-cells p c.args.e.now.body _ _ c.place_of_named-2.result c.place_of_named.result c.place_of_named-2.ensures c.peer.ensures c.place_of_named.ensures c.target.ensures) in
    let few = listed-few (of_some c.args.e.now.body (known p)) c.with.result (MOST_QUEUE + 1) cells (known-few p c.args.e.now.body c.requires) in
    record { cells = cells; few = omega (arith, few) }
