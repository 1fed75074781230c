use Rattle.std.proofs.Common.{vec_len}
use Rattle.xti_threads.proofs.Played.{all-played, before-rests}
use Rattle.xti_threads.proofs.playing.play_others.Goals as goal

pub returns : goal.returns
returns g c =
    let r = c.requires.setup in
    let seated = c.in_ok-jobs.ensures.jobs r.0 r.3 r.4 in
    let leads = before-rests c.seat_all.new.main c.rest.new.seat seated.1 c.rest.ensures.seat c.rest.ensures.looks c.rest.ensures.standing in
    all-played (vec_len c.args.workers) c.in_ok-jobs.jobs c.run_all.result c.requires.many c.in_ok-jobs.ensures.many r.2 leads seated.0 c.run_all.ensures.many c.run_all.ensures.back
