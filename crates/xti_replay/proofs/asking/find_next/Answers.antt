use Rattle.std.proofs.Common.{◌<◌, length, arith, ap, sym, ◌∙◌}
use Rattle.xti_replay.specs.declared.workers.Worker.{Worker}
use Rattle.std.specs.Prelude.{slice_set}
use Rattle.xti_replay.specs.Progress.{IsKept}
use Rattle.xti_replay.proofs.Each.{at-worker, part-same, nothing}
use Rattle.xti_replay.proofs.Steps.{found-next}
use Rattle.xti_replay.proofs.asking.find_next.Goals as goal

pub returns-in-Ok : goal.returns-in-Ok
returns-in-Ok c = λ past kept may.
    let lt : c.args.number < length c.args.workers.now.items = omega (arith, kept.many, c.requires.number) in
    let first : 0 < length c.args.workers.now.items = omega (arith, kept.many) in
    found-next c.args.lines.now past c.args.workers.now.items _ c.args.number c.index_mut.result.now c.in-Ok.next kept may lt c.index_mut.ensures.value
    (part-same c.args.workers.now.items c.args.number c.index_mut.result.now c.index-worker.result.now lt c.index_mut.ensures.value c.index-worker.ensures (nothing c.index-worker.result.now.part (sym c.is_some-else-is_some.ensures ∙ c.if-is_some-2.false)))
    (c.in-Ok.ensures past c.args.number
    (at-worker (IsKept c.args.lines.now past) c.args.workers.now.items c.args.number c.index-worker.result.now kept.each lt c.index-worker.ensures).told
    (at-worker (IsKept c.args.lines.now past) c.args.workers.now.items 0 c.index.result.now kept.each first c.index.ensures).told)
    (ap (λ (w : Worker). slice_set c.args.workers.now.items c.args.number w) c.set_next.ensures)
