use Rattle.std.proofs.Common.{arith, ap, length, get_or, ◌∙◌}
use Rattle.xti_check.proofs.Lines.{have_workers, wrong_at, right_at, next_line}
use Rattle.xti_check.proofs.verdict.judge_entries.Goals as goal

pub entry-requires-clause-place : goal.entry-requires-clause-place
entry-requires-clause-place c = let n = ap length c.loop-place.invariant.whole in let m = ap length c.as_slice-entries.ensures in omega (arith, n, m, c.loop-place-test.true)

pub entry-requires-clause-worker : goal.entry-requires-clause-worker
entry-requires-clause-worker c = have_workers c.args.journal.now c.loop-place.judge c.requires.text c.loop-place.invariant.whole

pub returns-in-Some : goal.returns-in-Some
returns-in-Some c =
    let m = ap length c.as_slice-entries.ensures in
    wrong_at c.args.journal.now c.loop-place.place c.loop-place.judge c.entry.new.self c.loop-place.line c.index-entries-place.result c.in_ok-expected.field-0 _ _ c.requires.text c.loop-place.invariant (omega (arith, m, c.loop-place-test.true)) (c.index-entries-place.is ∙ ap (λ l. get_or l c.loop-place.place c.index-entries-place.result) c.as_slice-entries.ensures) c.in_ok-expected.ensures.judged c.in-Some.is c.in_ok-found.ensures

pub loop-place-preserved : goal.loop-place-preserved
loop-place-preserved c =
    let m = ap length c.as_slice-entries.ensures in
    let n = next_line c.args.journal.now c.loop-place.place c.loop-place.judge c.loop-place.line c.loop-place.invariant (omega (arith, m, c.loop-place-test.true)) in
    right_at c.args.journal.now c.loop-place.place c.loop-place.judge c.entry.new.self c.loop-place.line _ c.in_ok-expected.field-0 c.loop-place.invariant (omega (arith, m, c.loop-place-test.true)) c.in_ok-expected.ensures.judged c.in_default.is c.in_ok-expected.ensures.providers c.in_ok-expected.ensures.entries (omega (arith, c.saturating_add-line.ensures, n, m, c.loop-place-test.true))
