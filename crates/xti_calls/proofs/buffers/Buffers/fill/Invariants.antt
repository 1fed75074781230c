use Rattle.std.proofs.Common.{◌≡◌, ◌≤◌, ◌+◌, ◌++◌, length, map}
use Rattle.std.specs.Prelude.{vec_len, vec_capacity}
use Rattle.std.specs.Vec.Iter.{into_iter_items, into_iter_len}
use Rattle.xti_calls.specs.Parts.{split_by, HaveRoom}
use Rattle.xti_calls.proofs.buffers.Buffers.fill.Given as goal

abbrev pub invariant-loop-size : goal.invariant-loop-size
invariant-loop-size l = record {
  can : (goal.iterator-loop-size).can_next l.size-iterator;
  finite : (goal.iterator-loop-size).is_finite l.size-iterator;
  count : into_iter_len l.size-iterator ≡ length (into_iter_items l.size-iterator);
  room : HaveRoom (length l.rest) (into_iter_items l.size-iterator);
  cut : l.parts.items ++ split_by (map (λ b. b.size) (into_iter_items l.size-iterator)) l.rest ≡ split_by (map (λ b. b.size) (into_iter_items l.initial.size-iterator)) l.initial.rest;
  spare : vec_len l.parts + length (into_iter_items l.size-iterator) ≤ vec_capacity l.parts;
}
