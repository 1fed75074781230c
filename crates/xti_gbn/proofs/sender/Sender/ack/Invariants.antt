use Rattle.std.proofs.Common.{◌≡◌, ◌+◌, ◌-◌, ◌≤◌, length, drop}
use Rattle.xti_gbn.proofs.sender.Sender.ack.Given as goal

abbrev pub invariant-loop-self : goal.invariant-loop-self
invariant-loop-self l = record {
  above : l.initial.self-inside.base ≤ l.self-inside.base;
  below : l.self-inside.base ≤ l.n;
  most : l.n ≤ l.self-inside.base + length l.self-inside.kept.items;
  kept : l.self-inside.kept.items ≡ drop (l.self-inside.base - l.initial.self-inside.base) l.initial.self-inside.kept.items;
}

abbrev pub decreases-loop-self : goal.decreases-loop-self
decreases-loop-self l = l.n - l.self-inside.base
