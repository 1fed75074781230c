use Rattle.std.proofs.Common.{◌≡◌, ◌+◌, ◌≤◌, List, vec_len, vec_capacity}
use Rattle.xti_model.specs.declared.entry.Entry.{Entry}
use Rattle.xti_threads.specs.Working.{IsJob}
use Rattle.xti_threads.specs.Starting.{AllJobs, AllStarted, EachFrom}
use Rattle.xti_threads.proofs.starting.start_all.Given as goal

abbrev pub invariant-loop-job : goal.invariant-loop-job
invariant-loop-job g l = record {
  count : l.number ≡ vec_len l.started;
  many : l.number + l.job-iterator.rest.len ≡ vec_len l.fn.jobs;
  room : vec_len l.fn.jobs ≤ vec_capacity l.started;
  known : (setup : List Entry) → AllJobs l.fn.shared.xti.now l.fn.shared.stage.lines.now setup l.fn.jobs.items
      → EachFrom (IsJob l.fn.shared.xti.now l.fn.shared.stage.lines.now setup) (l.number + 1) l.job-iterator.rest.items
      × AllStarted l.fn.shared.xti.now l.fn.shared.stage.lines.now setup 1 l.started.items;
}
