use Rattle.std.proofs.Common.{arith, refl}
use Rattle.xti_journal.proofs.Whole.{loop_first, goes, number_fits, done, extra, loop_fails, loop_unended, loop_out}
use Rattle.xti_journal.proofs.journal_text.read_lines.Goals as goal

pub loop-rest-init : goal.loop-rest-init
loop-rest-init c = loop_first c.args.draft.now.providers c.args.draft.now c.args.text.now c.requires.first

pub returns-in_default : goal.returns-in_default
returns-in_default c = loop_unended c.args.draft.now.providers _ _ _ c.args.text.now _ _ c.requires.head (omega arith) c.loop-rest.invariant c.in_default.ensures.none

pub loop-rest-preserved : goal.loop-rest-preserved
loop-rest-preserved c = goes c.args.draft.now.providers c.loop-rest.draft c.read_next.new.draft c.args.text.now _ _ c.in-Some.line.now _ _ c.loop-rest.invariant c.in-Some.ensures.some.1 c.in-Ok-true.ensures c.in-Ok-true.field-0-test

pub returns : goal.returns
returns c = loop_out c.args.draft.now.providers _ _ _ _ _ _ c.is_empty.result c.requires.head (omega arith) c.loop-rest.invariant c.loop-rest-test.false c.is_empty.ensures

pub overflow_add-result : goal.overflow_add-result
overflow_add-result c = let n = number_fits _ _ _ _ _ _ _ _ _ c.loop-rest.invariant c.in-Some.ensures.some.1 in omega (arith, n)

pub overflow_add-number : goal.overflow_add-number
overflow_add-number c = let n = number_fits _ _ _ _ _ _ _ _ _ c.loop-rest.invariant c.in-Some.ensures.some.1 in omega (arith, n)

pub returns-in-Ok-false : goal.returns-in-Ok-false
returns-in-Ok-false c = done c.args.draft.now.providers c.loop-rest.draft c.read_next.new.draft _ c.args.text.now _ _ c.in-Some.line.now _ _ _ c.requires.head c.loop-rest.invariant c.in-Some.ensures.some.1 c.is_empty-else-read_next.ensures c.if-is_empty.true c.in-Ok-false.ensures c.in-Ok-false.field-0-test refl

pub returns-in-Ok-false-2 : goal.returns-in-Ok-false-2
returns-in-Ok-false-2 c = extra c.args.draft.now.providers c.loop-rest.draft c.read_next.new.draft c.args.text.now _ _ c.in-Some.line.now _ _ _ c.requires.head (omega arith) c.loop-rest.invariant c.in-Some.ensures.some.1 c.is_empty-else-read_next.ensures c.if-is_empty.false c.in-Ok-false.ensures c.in-Ok-false.field-0-test

pub returns-in-Err : goal.returns-in-Err
returns-in-Err c = loop_fails c.args.draft.now.providers c.loop-rest.draft c.read_next.new.draft c.args.text.now _ _ c.in-Some.line.now _ c.in-Err.fail _ c.requires.head (omega arith) c.loop-rest.invariant c.in-Some.ensures.some.0 c.in-Some.ensures.some.1 c.in-Err.ensures c.fail_at.ensures
