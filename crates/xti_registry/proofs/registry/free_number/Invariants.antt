use Rattle.std.proofs.Common.{◌≡◌, ◌-◌, length}
use Rattle.xti_model.specs.Switch.{free_address}
use Rattle.xti_registry.specs.Known.{switch_with}
use Rattle.xti_registry.specs.Links.{bindings_of}
use Rattle.xti_registry.proofs.registry.free_number.Given as goal

abbrev pub invariant-loop-n : goal.invariant-loop-n
invariant-loop-n l = free_address (switch_with (bindings_of l.addresses)) l.prov l.n (length (bindings_of l.addresses) - l.n) ≡ free_address (switch_with (bindings_of l.addresses)) l.prov 0 (length (bindings_of l.addresses))
