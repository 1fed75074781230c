use Rattle.std.proofs.Common.{◌<◌, length, arith}
use Rattle.xti_replay.proofs.Each.{at-worker}
use Rattle.xti_replay.proofs.Histories.{IsTold, fresh-told, told-step, entry-small, entry-may}
use Rattle.xti_replay.proofs.beginning.workers_after.Goals as goal

pub loop-entry-init : goal.loop-entry-init
loop-entry-init c = fresh-told c.args.lines.now _ c.in_ok-workers.ensures

pub index_mut-worker-requires : goal.index_mut-worker-requires
index_mut-worker-requires c = omega (arith, c.loop-entry.invariant.many, entry-small c.requires.history.1 c.loop-entry.entry-index c.loop-entry-test.true c.entry-item.result c.entry-item.is)

pub advance-requires : goal.advance-requires
advance-requires c =
    let lt : c.entry-item.result.worker < length c.loop-entry.workers.items = omega (arith, c.loop-entry.invariant.many, entry-small c.requires.history.1 c.loop-entry.entry-index c.loop-entry-test.true c.entry-item.result c.entry-item.is) in
    entry-may c.requires.history.1 c.loop-entry.entry-index c.loop-entry-test.true c.entry-item.result c.entry-item.is c.index_mut-worker.result.now
    (at-worker (IsTold c.args.lines.now _) c.loop-entry.workers.items c.entry-item.result.worker c.index_mut-worker.result.now c.loop-entry.invariant.each lt c.index_mut-worker.ensures.value).told

pub loop-entry-preserved : goal.loop-entry-preserved
loop-entry-preserved c =
    told-step c.requires.history.1 c.loop-entry.entry-index c.loop-entry-test.true c.entry-item.result c.entry-item.is c.loop-entry.workers.items c.index_mut-worker.result.now c.advance.new.self c.loop-entry.invariant c.index_mut-worker.ensures.value c.advance.ensures.next
    (record { places = c.advance.ensures.places; count = c.in_ok-advance.ensures.count; part = c.in_ok-advance.ensures.part; names = c.in_ok-advance.ensures.names })
