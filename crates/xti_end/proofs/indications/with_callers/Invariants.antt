use Rattle.std.proofs.Common.{◌≡◌, ◌≤◌, ◌+◌, length, drop}
use Rattle.std.specs.Prelude.{map}
use Rattle.xti_end.specs.Callers.{caller_place, with_numbers}
use Rattle.xti_end.proofs.indications.with_callers.Given as goal

abbrev pub invariant-loop-place : goal.invariant-loop-place
invariant-loop-place l =
    (l.place ≤ length l.inds) × (l.cells ≡ with_numbers (map (caller_place l.p) (drop l.place l.inds)) l.fn.cells) × (length l.cells + l.place ≤ length l.fn.cells + length l.inds)

abbrev pub decreases-loop-place : goal.decreases-loop-place
decreases-loop-place l = l.place
