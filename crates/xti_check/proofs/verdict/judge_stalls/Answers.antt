use Rattle.std.proofs.Common.{arith, ap, length, get_or, ◌∙◌}
use Rattle.xti_check.proofs.Lines.{stalls_none, stall_worker, wrong_stall_at, right_stall_at, next_stall, few_stalls}
use Rattle.xti_check.proofs.verdict.judge_stalls.Goals as goal

pub loop-stall-init : goal.loop-stall-init
loop-stall-init c = stalls_none c.args.journal.now c.args.judge.now _ c.requires.entries (let e = ap length c.as_slice-entries.ensures in omega (arith, e, c.saturating_add-line.ensures))

pub stall-requires : goal.stall-requires
stall-requires c =
    let m = ap length c.as_slice-stall-items.ensures in
    stall_worker c.args.journal.now c.loop-stall.stall-index c.stall-item.result c.requires.text (omega (arith, m, c.loop-stall-test.true)) (c.stall-item.is ∙ ap (λ l. get_or l c.loop-stall.stall-index c.stall-item.result) c.as_slice-stall-items.ensures)

pub returns-in-Some : goal.returns-in-Some
returns-in-Some c =
    let m = ap length c.as_slice-stall-items.ensures in
    wrong_stall_at c.args.journal.now c.loop-stall.stall-index c.loop-stall.judge c.stall.new.self c.loop-stall.line c.stall-item.result c.in_ok-expected.field-0 _ _ c.loop-stall.invariant (omega (arith, m, c.loop-stall-test.true)) (c.stall-item.is ∙ ap (λ l. get_or l c.loop-stall.stall-index c.stall-item.result) c.as_slice-stall-items.ensures) c.in_ok-expected.ensures.judged c.in-Some.is c.in_ok-found.ensures.copy

pub loop-stall-preserved : goal.loop-stall-preserved
loop-stall-preserved c =
    let m = ap length c.as_slice-stall-items.ensures in
    let e = ap length c.as_slice-entries.ensures in
    let few = few_stalls c.args.journal.now c.requires.text in
    let n = next_stall c.args.journal.now c.loop-stall.stall-index c.loop-stall.judge c.loop-stall.line c.loop-stall.invariant (omega (arith, m, c.loop-stall-test.true)) in
    right_stall_at c.args.journal.now c.loop-stall.stall-index c.loop-stall.judge c.stall.new.self c.loop-stall.line _ c.stall-item.result c.in_ok-expected.field-0 c.loop-stall.invariant (omega (arith, m, c.loop-stall-test.true)) (c.stall-item.is ∙ ap (λ l. get_or l c.loop-stall.stall-index c.stall-item.result) c.as_slice-stall-items.ensures) c.in_ok-expected.ensures.judged c.in_default.is c.in_ok-expected.ensures.providers (omega (arith, c.saturating_add-line-in-loop-stall.ensures, n, m, e, few, c.loop-stall-test.true))
