use Rattle.std.proofs.Common.{◌≡◌, [], length}
use Rattle.xti_replay.specs.Progress.{IsFresh, Of}
use Rattle.xti_replay.proofs.beginning.idle_workers.Given as goal

abbrev pub invariant-loop-number : goal.invariant-loop-number
invariant-loop-number l = record {
  many : length l.workers.items ≡ l._number;
  fresh : Of (IsFresh []) l.workers.items;
}
