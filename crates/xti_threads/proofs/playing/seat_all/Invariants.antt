use Rattle.std.proofs.Common.{◌≡◌, ◌+◌, ◌≤◌, List, vec_len, vec_capacity}
use Rattle.xti_model.specs.declared.entry.Entry.{Entry}
use Rattle.xti_replay.specs.Progress.{Told}
use Rattle.xti_threads.specs.Starting.{AllJobs, AllTold, EachFrom}
use Rattle.xti_threads.specs.Meeting.{Before}
use Rattle.xti_threads.proofs.playing.seat_all.Given as goal

abbrev pub invariant-loop-worker : goal.invariant-loop-worker
invariant-loop-worker g l = record {
  many : vec_len l.jobs + l.worker-iterator.rest.len ≡ vec_len l.fn.workers;
  room : vec_len l.fn.workers ≤ vec_capacity l.jobs;
  known : (past : List Entry) → Before l.fn.xti past 1 l.initial.main → AllTold l.fn.stage.lines.now past l.fn.workers.items
      → Before l.fn.xti past (vec_len l.jobs + 1) l.main
      × EachFrom (Told l.fn.stage.lines.now past) (vec_len l.jobs + 1) l.worker-iterator.rest.items
      × AllJobs l.fn.xti l.fn.stage.lines.now past l.jobs.items;
}
