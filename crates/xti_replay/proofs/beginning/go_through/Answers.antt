use Rattle.std.proofs.Common.{◌<◌, ◌∙◌, [], length, arith, refl}
use Rattle.xti_replay.proofs.Each.{at-worker}
use Rattle.xti_replay.proofs.Histories.{HasPart, fresh-parts, parts-step, world-step, entry-small}
use Rattle.xti_replay.proofs.beginning.go_through.Goals as goal

pub loop-entry-init : goal.loop-entry-init
loop-entry-init c = record { parts = fresh-parts [] _ c.in_ok-workers.ensures; cells = c.requires.opening; providers = refl }

pub index_mut-worker-requires : goal.index_mut-worker-requires
index_mut-worker-requires c = omega (arith, c.loop-entry.invariant.parts.many, entry-small c.requires.history.1 c.loop-entry.entry-index c.loop-entry-test.true c.entry-item.result c.entry-item.is)

pub loop-entry-preserved : goal.loop-entry-preserved
loop-entry-preserved c =
    let i = c.loop-entry.invariant in
    let lt : c.entry-item.result.worker < length c.loop-entry.workers.items = omega (arith, i.parts.many, entry-small c.requires.history.1 c.loop-entry.entry-index c.loop-entry-test.true c.entry-item.result c.entry-item.is) in
    let part = at-worker (HasPart _) c.loop-entry.workers.items c.entry-item.result.worker c.index_mut-worker.result.now i.parts.each lt c.index_mut-worker.ensures.value in
    record {
      parts = parts-step c.requires.history.1 c.loop-entry.entry-index c.loop-entry-test.true c.entry-item.result c.entry-item.is c.loop-entry.workers.items c.index_mut-worker.result.now c.keep_left.new.self i.parts c.index_mut-worker.ensures.value c.in_ok-keep_left.ensures.part;
      cells = world-step c.requires.history.1 c.loop-entry.entry-index c.loop-entry-test.true c.entry-item.result c.entry-item.is c.index_mut-worker.result.now c.loop-entry.world c.repeat.new.world part i.providers i.cells c.in_ok-repeat.ensures;
      providers = c.in_ok-repeat.ensures.providers ∙ i.providers;
    }
