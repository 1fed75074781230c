use Rattle.std.proofs.Common.{◌≡◌, take}
use Rattle.xti_model.specs.History.{after}
use Rattle.xti_replay.proofs.Histories.{HaveParts}
use Rattle.xti_replay.proofs.beginning.go_through.Given as goal

abbrev pub invariant-loop-entry : goal.invariant-loop-entry
invariant-loop-entry l = record {
  parts : HaveParts (take l.entry-index l.history) l.workers.items;
  cells : l.world.cells ≡ after l.fn.world.providers (take l.entry-index l.history);
  providers : l.world.providers ≡ l.fn.world.providers;
}
