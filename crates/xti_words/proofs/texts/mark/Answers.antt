use Rattle.std.proofs.Common.{arith}
use Rattle.xti_words.proofs.TextBytes.{read}
use Rattle.xti_words.proofs.texts.mark.Goals as goal

pub returns : goal.returns
returns c = read c.args.c (omega arith)
