use Rattle.std.proofs.Common.{ap, refl}
use Rattle.slab.specs.Slab.{Slab, get}
use Rattle.xti_registry.specs.declared.addresses.Entry.{Entry}
use Rattle.xti_registry.proofs.Chains.{chained_same}
use Rattle.xti_registry.proofs.addresses.Addresses.reserve.Goals as goal

pub returns-in_err-reserve-clause-chained : goal.returns-in_err-reserve-clause-chained
returns-in_err-reserve-clause-chained c = chained_same c.args.self.now _ (λ k. ap (λ (s : Slab Entry). get s k) c.reserve.ensures.rest_kept) refl refl c.requires

pub returns-clause-chained : goal.returns-clause-chained
returns-clause-chained c = chained_same c.args.self.now _ (λ k. ap (λ (s : Slab Entry). get s k) c.reserve.ensures.rest_kept) refl c.reserve-2.ensures.items c.requires
