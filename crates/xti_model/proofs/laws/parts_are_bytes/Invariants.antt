use Rattle.std.specs.Prelude.{take}
use Rattle.std.specs.List.{concat}
use Rattle.xti_model.specs.SentBytes.{AreBytes}
use Rattle.xti_model.proofs.laws.parts_are_bytes.Given as goal

-- the parts so far are of bytes
abbrev pub invariant-loop-part : goal.invariant-loop-part
invariant-loop-part l = AreBytes (concat (take l.part-index l.parts))
