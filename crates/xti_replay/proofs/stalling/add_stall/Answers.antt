use Rattle.std.proofs.Common.{arith, sym, subst, ap, set, ◌∙◌}
use Rattle.std.proofs.lemmas.List.{set-get_or}
use Rattle.std.proofs.lemmas.Result.{IfOk-weaker}
use Rattle.xti_replay.specs.Progress.{AreKept}
use Rattle.xti_replay.proofs.StallLines.{stall-none, stall-some}
use Rattle.xti_replay.proofs.stalling.add_stall.Goals as goal

pub index_mut-worker-requires : goal.index_mut-worker-requires
index_mut-worker-requires c = omega (arith, (c.in_ok-find_next.ensures c.requires.kept.0 c.requires.kept.1 c.requires.kept.2).kept.many, c.requires.number)

pub returns-then-is_finished : goal.returns-then-is_finished
returns-then-is_finished c = λ past kept may.
    let f = c.in_ok-find_next.ensures past kept may in (
      stall-none c.args.lines.now past c.args.number c.find_next.new.workers.items c.index_mut-worker.result.now c.args.stalls.now f c.requires.number c.index_mut-worker.ensures.value (sym c.is_finished.ensures ∙ c.if-is_finished.true),
      subst (AreKept c.args.lines.now past) (sym (ap (set c.find_next.new.workers.items c.args.number) c.index_mut-worker.ensures.value ∙ set-get_or c.find_next.new.workers.items c.args.number c.index_mut-worker.result.now)) f.kept,
    )

pub returns : goal.returns
returns c = IfOk-weaker c.push.result _ _ (λ _ pushed past kept may.
    let f = c.in_ok-find_next.ensures past kept may in
    let s = stall-some c.args.lines.now past c.args.number c.find_next.new.workers.items c.index_mut-worker.result.now c.take_act-act.new.self c.take_act-act.result c.args.stalls.now f c.requires.number c.index_mut-worker.ensures.value (sym c.is_finished.ensures ∙ c.if-is_finished.false)
    c.take_act-act.ensures.act c.take_act-act.ensures.left in
    (pushed ∙ s.0, s.1)) c.push.ensures.ok
