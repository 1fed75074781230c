use Rattle.std.proofs.Common.{◌≡◌, length}
use Rattle.xti_script_reader.specs.TextSets.{AreEmpty}
use Rattle.xti_script_reader.proofs.names.empty_sets.Given as goal

abbrev pub invariant-loop-worker : goal.invariant-loop-worker
invariant-loop-worker l = record { count : length l.sets.items ≡ l._worker; empty : AreEmpty l.sets.items }
