use Rattle.std.proofs.Common.{append_assoc}
use Rattle.xti_words.proofs.Digits.{three, four, five}
use Rattle.xti_words.proofs.writing.push_digits.Goals as goal

pub returns-then-n-lt1000 : goal.returns-then-n-lt1000
returns-then-n-lt1000 c = rw (three c.args.n c.if-n-lt100.false c.if-n-lt1000.true, c.push_pair-then-n-lt1000.ensures.items, c.push_reserved.ensures.items, c.digit.ensures, append_assoc)

pub returns-then-n-lt10000 : goal.returns-then-n-lt10000
returns-then-n-lt10000 c = rw (four c.args.n c.if-n-lt1000.false c.if-n-lt10000.true, c.push_pair-then-n-lt10000-2.ensures.items, c.push_pair-then-n-lt10000.ensures.items, append_assoc)

pub returns : goal.returns
returns c = rw (five c.args.n c.if-n-lt10000.false c.requires.1, c.push_pair-3.ensures.items, c.push_pair-2.ensures.items, c.push_reserved-2.ensures.items, c.digit-2.ensures) (simp append_assoc)
