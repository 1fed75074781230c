use Rattle.xti_threads.proofs.Played.{set-up-ends}
use Rattle.xti_threads.proofs.playing.play_from.Goals as goal

pub play_others-requires-clause-setup : goal.play_others-requires-clause-setup
play_others-requires-clause-setup g c κs within =
    let done = c.set_up.ensures.finished c.if-set_up.true in
    let ends = set-up-ends c.args.workers.items done.0 done.1 c.requires.workers in
    (c.set_up.new.main.view.seen, ends.0, ends.1, ends.2, ends.3)
