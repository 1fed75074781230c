use Rattle.std.proofs.Common.{rules, ◌≡◌, ◌≤◌, ℕ, List, length, sym, subst}
use Rattle.xti_model.specs.Switch.{free_address}
use Rattle.xti_registry.proofs.registry.Registry.free_address.Goals as goal

pub returns-clause-sure : goal.returns-clause-sure
returns-clause-sure c h =
    let a : c.as_slice.result.now ≡ free_address c.args.self.now.switch c.args.prov 0 (length c.args.self.now.switch.bindings) = search rules in
    c.copy_of.ensures.sure (subst (λ (bs : List ℕ). length bs ≤ 16) (sym a) h)
