use Rattle.std.proofs.Common.{arith}
use Rattle.xti_words.proofs.FirstWord.{word_found, last_word}
use Rattle.xti_words.proofs.words.first_word.Goals as goal

pub returns-in-Some : goal.returns-in-Some
returns-in-Some c = word_found c.args.line.now _ _ (omega arith) c.in-Some.ensures

pub returns-in-None : goal.returns-in-None
returns-in-None c = last_word c.args.line.now c.in-None.ensures
