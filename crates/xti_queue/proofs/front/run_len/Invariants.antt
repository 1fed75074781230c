use Rattle.std.proofs.Common.{◌≡◌, ◌≤◌, ◌+◌, ◌-◌, length, drop}
use Rattle.xti_model.specs.Symbols.{front}
use Rattle.xti_queue.specs.Kept.{AllWait, IsWithin}
use Rattle.xti_queue.specs.Front.{symbols_in}
use Rattle.xti_queue.proofs.front.run_len.Given as goal

abbrev pub invariant-loop-i : goal.invariant-loop-i
invariant-loop-i l = record {
  most : l.count ≤ l.max;
  wait : AllWait (drop l.i l.held.items);
  within : IsWithin l.skipped (drop l.i l.held.items);
  front : length (front l.max (symbols_in l.taken l.held.items)) ≡ l.count + length (front (l.max - l.count) (symbols_in l.skipped (drop l.i l.held.items)));
}
