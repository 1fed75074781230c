use Rattle.std.proofs.Common.{◌≡◌, ◌+◌, ◌++◌, drop}
use Rattle.std.specs.Prelude.{vec_len, vec_capacity}
use Rattle.xti_poll.specs.Sums.{all_told}
use Rattle.xti_poll.proofs.polling.add_told.Given as goal

abbrev pub invariant-loop-place : goal.invariant-loop-place
invariant-loop-place l = record {
  rest : l.finds.items ++ all_told (drop l.place l.pairs) (drop l.place l.pending) ≡ l.fn.finds.items ++ all_told l.pairs l.pending;
  many : vec_len l.finds ≡ vec_len l.fn.finds + l.place;
  room : vec_capacity l.finds ≡ vec_capacity l.fn.finds;
}
