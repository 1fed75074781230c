use Rattle.std.proofs.Common.{◌≡◌, length, map, take}
use Rattle.std.specs.Prelude.{vec_len, vec_capacity}
use Rattle.xti_poll.specs.declared.asked.Asked.{Asked}
use Rattle.xti_poll.proofs.polling.descriptors.Given as goal

abbrev pub invariant-loop-asked : goal.invariant-loop-asked
invariant-loop-asked l = record {
  so_far : l.fds.items ≡ map (λ (a : Asked). a.fd) (take l.asked-index l.pairs);
  many : vec_len l.fds ≡ l.asked-index;
  room : vec_capacity l.fds ≡ length l.pairs;
}
