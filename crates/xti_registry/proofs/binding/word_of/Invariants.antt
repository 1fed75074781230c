use Rattle.std.proofs.Common.{◌≡◌, drop}
use Rattle.xti_base.specs.Kinds.{prov_number}
use Rattle.xti_registry.specs.Word.{mixed}
use Rattle.xti_registry.proofs.binding.word_of.Given as goal

abbrev pub invariant-loop-byte : goal.invariant-loop-byte
invariant-loop-byte l = mixed l.word (drop l.byte-index l.end) ≡ mixed (prov_number l.fn.prov) l.end
