use Rattle.std.proofs.Common.{◌∙◌, sym, arith}
use Rattle.xti_words.proofs.WordLaws.{number_is, number_none, digit_more, digit_none, digit_last}
use Rattle.xti_words.proofs.values.number_in.Goals as goal

pub returns-then-not-can_begin : goal.returns-then-not-can_begin
returns-then-not-can_begin c = number_none _ _ c.if-not-can_begin.true c.can_begin.ensures

pub loop-c-preserved : goal.loop-c-preserved
loop-c-preserved c = digit_more c.args.word.now c.loop-c.c-index c.loop-c.number _ _ (omega arith) (sym c.with_digit.ensures ∙ c.in_ok-number.was) c.loop-c.invariant

pub returns-in_err-number : goal.returns-in_err-number
returns-in_err-number c = c.from_residual.ensures ∙ digit_none c.args.word.now c.loop-c.c-index c.loop-c.number _ (omega arith) (sym c.with_digit.ensures ∙ c.in_err-number.was) c.loop-c.invariant ∙ number_is _ _ c.if-not-can_begin.false c.can_begin.ensures

pub returns : goal.returns
returns c = digit_last c.args.word.now c.loop-c.c-index c.loop-c.number _ (omega arith) c.loop-c.invariant ∙ number_is _ _ c.if-not-can_begin.false c.can_begin.ensures
