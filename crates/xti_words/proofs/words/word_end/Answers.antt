use Rattle.std.proofs.Common.{◌==◌, arith}
use Rattle.xti_words.proofs.FirstWord.{before_is, found_at, found_none}
use Rattle.xti_words.proofs.words.word_end.Goals as goal

pub returns-then-before-lt-LANES : goal.returns-then-before-lt-LANES
returns-then-before-lt-LANES c =
    let b = before_is (λ x. x == 32) c.args.text.now _ 8 c.lanes_before-before.result (omega arith) c.lanes_before-before.ensures in
    found_at (λ x. x == 32) c.args.text.now _ (omega arith) (omega arith)

pub loop-at-preserved : goal.loop-at-preserved
loop-at-preserved c =
    let b = before_is (λ x. x == 32) c.args.text.now _ 8 c.lanes_before-before.result (omega arith) c.lanes_before-before.ensures in
    omega arith

pub returns : goal.returns
returns c = found_none (λ x. x == 32) c.args.text.now (omega arith)
