use Rattle.std.proofs.Common.{◌∙◌, sym, arith, length, ◌-◌, ◌+◌}
use Rattle.xti_registry.specs.Known.{switch_with}
use Rattle.xti_registry.specs.Links.{bindings_of}
use Rattle.xti_registry.proofs.FreeAddress.{free_found, free_step}
use Rattle.xti_registry.proofs.registry.free_number.Goals as goal

pub returns-then-is_none : goal.returns-then-is_none
returns-then-is_none c =
    let bs = bindings_of c.args.addresses.now in
    sym c.loop-n.invariant ∙ free_found (switch_with bs) c.args.prov c.loop-n.n (length bs - c.loop-n.n) (length bs - (c.loop-n.n + 1)) (omega arith)
    (rw (c.least_at.ensures, c.as_slice.ensures.value, c.numbered_address-address.ensures) at c.if-is_none.ensures)

pub loop-n-preserved : goal.loop-n-preserved
loop-n-preserved c =
    let bs = bindings_of c.args.addresses.now in
    sym (free_step (switch_with bs) c.args.prov c.loop-n.n (length bs - c.loop-n.n) (length bs - (c.loop-n.n + 1)) (omega arith)
    (rw (c.least_at.ensures, c.as_slice.ensures.value, c.numbered_address-address.ensures) at c.if-is_none.ensures)) ∙ c.loop-n.invariant
