use Rattle.std.proofs.Common.{sym}
use Rattle.xti_words.proofs.HexLaws.{odd_digits}
use Rattle.xti_words.proofs.hex.hex_bytes.Goals as goal

pub returns-then-digits-ne0 : goal.returns-then-digits-ne0
returns-then-digits-ne0 c = sym (odd_digits c.args.digits.now c.if-digits-ne0.true)
