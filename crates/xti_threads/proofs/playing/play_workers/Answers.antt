use Rattle.std.proofs.Common.{sym, subst, []}
use Rattle.xti_replay.specs.Progress.{Told}
use Rattle.xti_threads.specs.Starting.{EachFrom}
use Rattle.xti_threads.proofs.Played.{fresh-first, fresh-others, fresh-whole, sets-fresh}
use Rattle.xti_threads.proofs.playing.play_workers.Goals as goal

pub play_from-seats-requires-clause-sets : goal.play_from-seats-requires-clause-sets
play_from-seats-requires-clause-sets g c κs within =
    let lines = c.args.stage.now.lines.now in
    sets-fresh c.args.xti.now lines c.args.main.now c.remove-setup.result c.requires.main.0 c.requires.main.1
    (fresh-first lines c.in_ok-workers.workers.items c.remove-setup.result c.in_ok-workers.ensures c.remove-setup.ensures.value)

pub play_from-seats-requires-clause-whole : goal.play_from-seats-requires-clause-whole
play_from-seats-requires-clause-whole g c κs within = fresh-whole c.args.stage.now.lines.now c.in_ok-workers.workers.items c.remove-setup.result c.in_ok-workers.ensures c.remove-setup.ensures.value

pub play_from-seats-requires-clause-workers : goal.play_from-seats-requires-clause-workers
play_from-seats-requires-clause-workers g c κs within =
    let lines = c.args.stage.now.lines.now in
    subst (EachFrom (Told lines []) 1) (sym c.remove-setup.ensures.items) (fresh-others lines c.in_ok-workers.workers.items c.in_ok-workers.ensures)
