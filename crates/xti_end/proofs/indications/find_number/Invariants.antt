use Rattle.std.proofs.Common.{◌≡◌, drop}
use Rattle.std.specs.Prelude.{map}
use Rattle.xti_model.specs.Endpoint.{find_number}
use Rattle.xti_end.specs.Frames.{indication_of}
use Rattle.xti_end.proofs.indications.find_number.Given as goal

abbrev pub invariant-loop-ind : goal.invariant-loop-ind
invariant-loop-ind l = find_number l.seq.0 (map indication_of (drop l.ind-index l.inds)) ≡ find_number l.seq.0 (map indication_of l.inds)
