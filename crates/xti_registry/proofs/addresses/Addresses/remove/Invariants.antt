use Rattle.std.proofs.Common.{◌≡◌, ℕ, eqb, filter, length, not}
use Rattle.xti_model.specs.World.{Binding}
use Rattle.xti_registry.specs.Chains.{IsChained, HasRoom}
use Rattle.xti_registry.specs.Links.{bindings_of}
use Rattle.xti_registry.proofs.addresses.Addresses.remove.Given as goal

abbrev pub invariant-loop-key : goal.invariant-loop-key
invariant-loop-key l = record {
  chained : IsChained l.self;
  left : filter (λ (b : Binding). not (eqb b.fd l.fd.0)) (bindings_of l.self) ≡ filter (λ (b : Binding). not (eqb b.fd l.fd.0)) (bindings_of l.fn.self);
  room : (n : ℕ) → HasRoom l.fn.self n → HasRoom l.self n;
}

abbrev pub decreases-loop-key : goal.decreases-loop-key
decreases-loop-key l = length l.self.order.items
