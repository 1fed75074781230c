use Rattle.std.proofs.Common.{rules, arith, sym, subst, ◌≡◌, ◌+◌, ℕ, List, vec_len, length}
use Rattle.xti_replay.specs.Progress.{Told}
use Rattle.xti_threads.specs.declared.working.Job.{Job}
use Rattle.xti_threads.specs.Working.{IsJob}
use Rattle.xti_threads.specs.Starting.{AllJobs, EachFrom}
use Rattle.xti_threads.proofs.Threads.{from_snoc}
use Rattle.xti_threads.proofs.Played.{before-split, new-job}
use Rattle.xti_threads.proofs.playing.seat_all.Goals as goal

pub loop-worker-preserved : goal.loop-worker-preserved
loop-worker-preserved g c =
    let i = c.loop-worker.invariant in
    let many : vec_len c.push_reserved.new.self ≡ vec_len c.loop-worker.jobs + 1 = search rules in
    let count : vec_len c.loop-worker.jobs ≡ length c.loop-worker.jobs.items = search rules in
    let s = c.in-Ok.ensures.seats in record {
      many = omega (arith, i.many, many, c.in-Some.ensures.steps.1);
      room = omega (arith, i.room, c.push_reserved.ensures.capacity);
      known = λ past b told.
          let k = i.known past b told in
          let h = subst (EachFrom (Told c.args.stage.now.lines.now past) (vec_len c.loop-worker.jobs + 1)) c.in-Some.ensures.steps.0 k.1 in
          let job : IsJob c.args.xti.now c.args.stage.now.lines.now past (vec_len c.loop-worker.jobs + 1) (record { seat = c.in-Ok.seat; worker = c.in-Some.worker }) =
          new-job (vec_len c.loop-worker.jobs + 1) c.loop-worker.main c.in-Ok.seat c.in-Some.worker k.0 s.0 s.2 c.in-Ok.ensures.standing.1 (omega arith) (omega (arith, i.many, c.in-Some.ensures.steps.1, c.requires.many)) h.0 in (
            before-split (vec_len c.loop-worker.jobs + 1) (vec_len c.push_reserved.new.self + 1) c.loop-worker.main c.split.new.seat k.0 c.split.ensures.seat s.1 (omega (arith, many)),
            subst (λ (n : ℕ). EachFrom (Told c.args.stage.now.lines.now past) (n + 1) c.next.new.self.rest.items) (sym {A = ℕ} many) h.1,
            subst (AllJobs c.args.xti.now c.args.stage.now.lines.now past) (sym {A = List Job} c.push_reserved.ensures.items)
                (from_snoc (IsJob c.args.xti.now c.args.stage.now.lines.now past) 1 (vec_len c.loop-worker.jobs + 1) c.loop-worker.jobs.items (record { seat = c.in-Ok.seat; worker = c.in-Some.worker }) k.2 (omega (arith, count)) job),
          );
    }
