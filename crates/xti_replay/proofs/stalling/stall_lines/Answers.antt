use Rattle.std.proofs.Common.{◌≡◌, ◌++◌, List, arith, sym, ap, ◌∙◌}
use Rattle.xti_model.specs.declared.script.StallLine.{StallLine}
use Rattle.xti_replay.specs.Stalls.{stall_at}
use Rattle.xti_replay.proofs.StallLines.{stalls-more, all-stalls, may-stall}
use Rattle.xti_replay.proofs.stalling.stall_lines.Goals as goal

pub add_stall-requires-clause-kept : goal.add_stall-requires-clause-kept
add_stall-requires-clause-kept c =
    let past = c.requires.kept.0 in
    (past, (c.loop-number.invariant past c.requires.kept.1).0, (may-stall c.args.lines.now past c.args.workers.now.items c.index.result.now c.stalling-number-end.result c.loop-number.number c.requires.kept.1 c.index.ensures c.stalling-number-end.ensures c.loop-number-test.true).0)

pub loop-number-preserved : goal.loop-number-preserved
loop-number-preserved c = λ past kept.
    let i = c.loop-number.invariant past kept in
    let may = (may-stall c.args.lines.now past c.args.workers.now.items c.index.result.now c.stalling-number-end.result c.loop-number.number kept c.index.ensures c.stalling-number-end.ensures c.loop-number-test.true).0 in
    let a = c.in_ok-add_stall.ensures past i.0 may in
    (a.1, a.0 ∙ ap (λ (l : List StallLine). l ++ stall_at c.args.lines.now past c.loop-number.number) i.1 ∙ sym (stalls-more (stall_at c.args.lines.now past) c.loop-number.number))

pub returns : goal.returns
returns c = λ past kept.
    let end : c.loop-number.number ≡ c.stalling-number-end.result = omega arith in
    all-stalls c.args.lines.now past c.args.workers.now.items c.index.result.now c.loop-number.number c.loop-number.stalls kept c.index.ensures (end ∙ c.stalling-number-end.ensures) (c.loop-number.invariant past kept).1
