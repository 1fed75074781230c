use Rattle.std.proofs.Common.{◌≡◌, ◌≤◌, ℕ, List, length, map}
use Rattle.std.specs.Prelude.{option_map}
use Rattle.xti_base.specs.declared.kinds.Fd.{Fd}
use Rattle.xti_registry.specs.Chains.{Leads}
use Rattle.xti_registry.specs.Known.{is_asked}
use Rattle.xti_registry.specs.Links.{binding_at, bindings_of, linked}
use Rattle.xti_registry.specs.declared.addresses.Link.{Link}
use Rattle.xti_registry.proofs.Least.{both, least_of}
use Rattle.xti_registry.proofs.Lookup.{steps}
use Rattle.xti_registry.proofs.addresses.Addresses.least_at.Given as goal

-- the keys that are left, and the link that leads to the first of them
abbrev pub invariant-loop-at : goal.invariant-loop-at
invariant-loop-at l = record {
  left : List ℕ;
  link : Link;
  stands : l.at ≡ linked l.self link;
  leads : Leads (linked l.self) l.at left;
  short : length left ≤ length l.self.order.items;
  found : both l.least (least_of (is_asked l.prov l.address l.listening (option_map (λ (fd : Fd). fd.0) l.except)) (map (binding_at l.self) left)) ≡ least_of (is_asked l.prov l.address l.listening (option_map (λ (fd : Fd). fd.0) l.except)) (bindings_of l.self);
}

abbrev pub decreases-loop-at : goal.decreases-loop-at
decreases-loop-at l = steps (linked l.self) (length l.self.order.items) l.at
