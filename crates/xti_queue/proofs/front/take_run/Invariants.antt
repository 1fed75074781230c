use Rattle.std.proofs.Common.{◌≡◌, ◌≤◌, ◌-◌, ◌++◌, length, drop, vec_len, vec_capacity}
use Rattle.std.specs.VecDeque.{deque_len, deque_capacity}
use Rattle.tpi_grammar.specs.Frame.{AreBytes}
use Rattle.xti_model.specs.Symbols.{front}
use Rattle.xti_queue.specs.Indications.{begun, left_behind}
use Rattle.xti_queue.specs.Kept.{AllWait, IsWithin}
use Rattle.xti_queue.specs.Front.{symbols_in}
use Rattle.xti_queue.proofs.front.take_run.Given as goal

abbrev pub invariant-loop : goal.invariant-loop
invariant-loop l = record {
  wait : AllWait l.held.items;
  within : IsWithin l.taken l.held.items;
  most : vec_len l.bytes ≤ l.max;
  are_bytes : AreBytes l.bytes.items;
  moved : symbols_in l.fn.taken l.fn.held.items ≡ l.bytes.items ++ symbols_in l.taken l.held.items;
  room : length (front l.max (symbols_in l.fn.taken l.fn.held.items)) ≤ vec_capacity l.bytes;
  left : left_behind l.max (begun l.fn.taken l.fn.held.items) ≡ left_behind (l.max - vec_len l.bytes) (begun l.taken l.held.items);
  items : l.held.items ≡ drop (length l.fn.held.items - length l.held.items) l.fn.held.items;
  shorter : length l.held.items ≤ length l.fn.held.items;
  capacity : deque_capacity l.held ≡ deque_capacity l.fn.held;
}

abbrev pub decreases-loop : goal.decreases-loop
decreases-loop l = deque_len l.held
