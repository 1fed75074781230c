use Rattle.xti_end.proofs.Numbers.{KeptBefore}
use Rattle.xti_end.proofs.indications.number_place.Given as goal

abbrev pub invariant-loop-place : goal.invariant-loop-place
invariant-loop-place l = KeptBefore l.seq.0 l.inds l.place
