use Rattle.std.proofs.Common.{◌≡◌, ◌+◌, ◌++◌, map, take}
use Rattle.std.specs.Prelude.{vec_len, vec_capacity}
use Rattle.xti_base.specs.declared.kinds.Fd.{Fd}
use Rattle.xti_core.specs.Looks.{events_among}
use Rattle.xti_gather.proofs.glancing.surveying.add_events.Given as goal

abbrev pub invariant-loop-fd : goal.invariant-loop-fd
invariant-loop-fd l = record {
  so_far : l.found.items ≡ l.fn.found.items ++ map (λ (fd : Fd). events_among l.lent fd.0) (take l.fd-index l.fds);
  many : vec_len l.found ≡ vec_len l.fn.found + l.fd-index;
  room : vec_capacity l.found ≡ vec_capacity l.fn.found;
}
