use Rattle.xti_threads.proofs.starting.run_scope.Goals as goal

pub join_all-requires-clause-started : goal.join_all-requires-clause-started
join_all-requires-clause-started g c = (c.args.shared.now.xti.now, c.args.shared.now.stage.lines.now, c.requires.jobs.0, c.in_ok-started.ensures.started c.requires.jobs.0 c.requires.jobs.2)

pub returns-clause-back : goal.returns-clause-back
returns-clause-back g c = λ past all. c.join_all.ensures.back c.args.shared.now.xti.now c.args.shared.now.stage.lines.now past (c.in_ok-started.ensures.started past all)
