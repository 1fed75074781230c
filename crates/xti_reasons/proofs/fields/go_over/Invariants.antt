use Rattle.std.proofs.Common.{length}
use Rattle.xti_reasons.proofs.fields.go_over.Given as goal

abbrev pub decreases-loop-key : goal.decreases-loop-key
decreases-loop-key l = length l.rest
