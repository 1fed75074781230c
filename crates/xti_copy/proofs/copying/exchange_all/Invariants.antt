use Rattle.std.proofs.Common.{◌≡◌, length}
use Rattle.xti_copy.specs.Ends.{connected}
use Rattle.xti_copy.proofs.Pieces.{IsSent}
use Rattle.xti_copy.proofs.copying.exchange_all.Given as goal

abbrev pub invariant-loop-rest : goal.invariant-loop-rest
invariant-loop-rest g l = (l.ends ≡ connected) × IsSent l.input l.rest l.io

abbrev pub decreases-loop-rest : goal.decreases-loop-rest
decreases-loop-rest g l = length l.rest
