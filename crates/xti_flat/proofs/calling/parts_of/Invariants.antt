use Rattle.std.proofs.Common.{◌≡◌, ◌++◌, drop}
use Rattle.xti_flat.specs.Calls.{parts_of}
use Rattle.xti_flat.proofs.calling.parts_of.Given as goal

abbrev pub invariant-loop-size : goal.invariant-loop-size
invariant-loop-size l = l.parts.items ++ parts_of l.rest (drop l.size-index l.sizes) ≡ parts_of l.bytes l.sizes
