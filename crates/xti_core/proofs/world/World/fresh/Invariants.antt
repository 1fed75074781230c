use Rattle.std.proofs.Common.{◌≡◌, length, None}
use Rattle.xti_model.specs.Robin.{numbers}
use Rattle.xti_core.proofs.OpeningWorld.{UnusedFrom}
use Rattle.xti_core.proofs.world.World.fresh.Given as goal

abbrev pub invariant-loop-place : goal.invariant-loop-place
invariant-loop-place l = record {
  providers : l.lent.providers ≡ l.initial.lent.providers;
  numbered : l.lent.numbers ≡ numbers 0 l.place;
  unused : UnusedFrom 0 l.lent.held;
  count : length l.lent.held ≡ l.place;
  registry : l.lent.registry ≡ None;
}
