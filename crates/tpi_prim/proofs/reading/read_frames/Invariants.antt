use Rattle.std.proofs.Common.{◌≤◌, ◌-◌, length, take}
use Rattle.tpi_prim.specs.Reading.{SpellAll}
use Rattle.tpi_prim.proofs.reading.read_frames.Given as goal

abbrev pub invariant-loop-prim : goal.invariant-loop-prim
invariant-loop-prim l = (l.used ≤ length l.bytes) × SpellAll l.prims (take l.used l.bytes)

abbrev pub decreases-loop-prim : goal.decreases-loop-prim
decreases-loop-prim l = length l.bytes - l.used
