use Rattle.std.proofs.Common.{rules, arith, sym, subst, ◌≡◌, ◌+◌, ◌≤◌, List, vec_len, vec_capacity, length}
use Rattle.xti_model.specs.declared.entry.Entry.{Entry}
use Rattle.xti_threads.specs.declared.starting.Started.{Started}
use Rattle.xti_threads.specs.Working.{IsJob, AfterSetup}
use Rattle.xti_threads.specs.Starting.{HasStarted, AllStarted, EachFrom}
use Rattle.xti_threads.proofs.Threads.{from_snoc}
use Rattle.xti_threads.proofs.starting.start_all.Goals as goal

pub loop-job-init : goal.loop-job-init
loop-job-init g c = record {
  count = search rules;
  many = search rules;
  room = omega (arith, c.in_ok-started.ensures.capacity, c.len.ensures);
  known = λ setup all. (
    subst (EachFrom (IsJob c.args.shared.now.xti.now c.args.shared.now.stage.lines.now setup) 1) (sym c.into_iter-job-iterator.ensures.into_iter_gives.0) all,
    subst (AllStarted c.args.shared.now.xti.now c.args.shared.now.stage.lines.now setup 1) (sym c.in_ok-started.ensures.items) tt,
  );
}

pub overflow_add-number : goal.overflow_add-number
overflow_add-number g c = omega (arith, c.loop-job.invariant.many, c.requires.many)

pub start-requires-clause-job : goal.start-requires-clause-job
start-requires-clause-job g c κs within =
    let k = c.loop-job.invariant.known c.requires.jobs.0 c.requires.jobs.2 in
    let new = (subst (EachFrom (IsJob c.args.shared.now.xti.now c.args.shared.now.stage.lines.now c.requires.jobs.0) (c.loop-job.number + 1)) c.in-Some.ensures.steps.0 k.0).0 in
    subst (λ (z : List Entry). IsJob c.args.shared.now.xti.now c.args.shared.now.stage.lines.now z (c.loop-job.number + 1) c.in-Some.job) (sym new.seen) new

pub start-requires-clause-setup : goal.start-requires-clause-setup
start-requires-clause-setup g c κs within =
    let k = c.loop-job.invariant.known c.requires.jobs.0 c.requires.jobs.2 in
    let new = (subst (EachFrom (IsJob c.args.shared.now.xti.now c.args.shared.now.stage.lines.now c.requires.jobs.0) (c.loop-job.number + 1)) c.in-Some.ensures.steps.0 k.0).0 in
    subst (λ (z : List Entry). AfterSetup c.args.shared.now.stage.lines.now z c.args.shared.now.setup.now) (sym new.seen) c.requires.jobs.1

pub push_reserved-requires : goal.push_reserved-requires
push_reserved-requires g c = omega (arith, c.loop-job.invariant.count, c.loop-job.invariant.many, c.loop-job.invariant.room, c.in-Some.ensures.steps.1)

pub loop-job-preserved : goal.loop-job-preserved
loop-job-preserved g c =
    let i = c.loop-job.invariant in
    let many : vec_len c.push_reserved.new.self ≡ vec_len c.loop-job.started + 1 = search rules in
    let room : vec_len c.args.jobs ≤ vec_capacity c.push_reserved.new.self = omega (arith, i.room, c.push_reserved.ensures.capacity) in
    let count : vec_len c.loop-job.started ≡ length c.loop-job.started.items = search rules in record {
      count = omega (arith, i.count, many);
      many = omega (arith, i.many, c.in-Some.ensures.steps.1);
      room = room;
      known = λ setup all.
          let k = i.known setup all in
          let new = subst (EachFrom (IsJob c.args.shared.now.xti.now c.args.shared.now.stage.lines.now setup) (c.loop-job.number + 1)) c.in-Some.ensures.steps.0 k.0 in
          let started : HasStarted c.args.shared.now.xti.now c.args.shared.now.stage.lines.now setup (c.loop-job.number + 1) c.start.result =
          subst (λ (z : List Entry). HasStarted c.args.shared.now.xti.now c.args.shared.now.stage.lines.now z (c.loop-job.number + 1) c.start.result) new.0.seen c.start.ensures in (
            new.1,
            subst (AllStarted c.args.shared.now.xti.now c.args.shared.now.stage.lines.now setup 1) (sym {A = List Started} c.push_reserved.ensures.items)
                (from_snoc (HasStarted c.args.shared.now.xti.now c.args.shared.now.stage.lines.now setup) 1 (c.loop-job.number + 1) c.loop-job.started.items c.start.result k.1 (omega (arith, i.count, count)) started),
          );
    }

pub returns-clause-many : goal.returns-clause-many
returns-clause-many g c = omega (arith, c.loop-job.invariant.count, c.loop-job.invariant.many, c.in-None.ensures.steps.0)

pub returns-clause-started : goal.returns-clause-started
returns-clause-started g c setup all = (c.loop-job.invariant.known setup all).1
