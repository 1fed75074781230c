use Rattle.xti_words.proofs.HexLaws.{AreWorths, AreBytesOf}
use Rattle.xti_words.proofs.hex.bytes_at_once.Given as goal

abbrev pub invariant-loop-i : goal.invariant-loop-i
invariant-loop-i l = AreWorths l.digits l.worths l.i l.most

abbrev pub invariant-loop-i-2 : goal.invariant-loop-i-2
invariant-loop-i-2 l = AreBytesOf l.digits l.bytes l.i
