use Rattle.std.proofs.Common.{◌≡◌, replicate}
use Rattle.xti_model.specs.World.{closed_place}
use Rattle.xti_registry.proofs.registry.Registry.fresh.Given as goal

abbrev pub invariant-loop : goal.invariant-loop
invariant-loop l = l.places.items ≡ replicate l.counter closed_place
