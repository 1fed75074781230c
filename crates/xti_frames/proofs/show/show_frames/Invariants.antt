use Rattle.std.proofs.Common.{length}
use Rattle.xti_frames.proofs.Shown.{ShownTo}
use Rattle.xti_frames.proofs.show.show_frames.Given as goal

abbrev pub invariant-loop-rest : goal.invariant-loop-rest
invariant-loop-rest l = ShownTo l.input l.rest l.out.items

abbrev pub decreases-loop-rest : goal.decreases-loop-rest
decreases-loop-rest l = length l.rest
