use Rattle.xti_threads.proofs.Works.{job-works, rest-back}
use Rattle.xti_threads.proofs.working.work.Goals as goal

pub returns : goal.returns
returns g c =
    rest-back c.make_lines.new.seat c.rest.new.seat (c.make_lines.ensures c.args.job.seat.view.seen c.requires.setup (job-works c.requires.setup c.requires.job))
    c.rest.ensures.seat c.rest.ensures.looks c.rest.ensures.standing
