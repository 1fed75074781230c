use Rattle.xti_words.proofs.HexLaws.{AreBytesOf}
use Rattle.xti_words.proofs.hex.few_bytes.Given as goal

abbrev pub invariant-loop-i : goal.invariant-loop-i
invariant-loop-i l = AreBytesOf l.digits l.bytes l.i
