use Rattle.std.proofs.Common.{◌≡◌, ◌≤◌, ◌+◌}
use Rattle.std.specs.Vec.{vec_len, vec_capacity}
use Rattle.xti_model.specs.World.{places}
use Rattle.xti_gather.proofs.OpeningCells.{AreClosed}
use Rattle.xti_gather.proofs.opening.opening_cells.Given as goal

abbrev pub invariant-loop-place : goal.invariant-loop-place
invariant-loop-place l = record {
  many : vec_len l.cells ≡ l.place;
  room : places l.p + 1 ≤ vec_capacity l.cells;
  closed : AreClosed l.p l.cells.items;
}
