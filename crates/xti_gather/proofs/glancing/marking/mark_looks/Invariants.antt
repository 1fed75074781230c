use Rattle.std.proofs.Common.{◌≡◌, ℕ, ◌<◌, Some, length}
use Rattle.std.specs.Prelude.{slice_get}
use Rattle.xti_base.specs.declared.kinds.Fd.{Fd}
use Rattle.xti_gather.specs.Marks.{AreFor, Keep}
use Rattle.xti_gather.proofs.glancing.marking.mark_looks.Given as goal

abbrev pub invariant-loop-fd : goal.invariant-loop-fd
invariant-loop-fd l = record {
  length_is : length l.marks ≡ length l.fn.marks;
  kept : Keep l.fn.marks l.marks;
  marked : (k : ℕ) (fd : Fd) → k < l.fd-index → slice_get l.fds k ≡ Some fd → AreFor l.lent l.marks fd;
}
