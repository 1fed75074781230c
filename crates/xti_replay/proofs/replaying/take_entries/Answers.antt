use Rattle.std.proofs.Common.{◌≡◌, ◌-◌, ◌<◌, ◌+◌, List, arith, sym, subst}
use Rattle.xti_model.specs.declared.entry.Entry.{Entry}
use Rattle.xti_model.specs.Robin.{most_steps}
use Rattle.xti_replay.specs.Runs.{Leads}
use Rattle.xti_replay.proofs.WholeRuns.{leads-step, leads-end, leads-stop}
use Rattle.xti_replay.proofs.replaying.take_entries.Goals as goal

pub loop-step-init : goal.loop-step-init
loop-step-init c = λ s all k. k

pub next-requires : goal.next-requires
next-requires c = (c.loop-step.entries, (c.loop-step.invariant c.requires.0 c.requires.1 c.requires.2).stands)

pub returns-in-None : goal.returns-in-None
returns-in-None c = λ s all k.
    let i = c.loop-step.invariant s all k in
    let pos : 0 < most_steps - c.loop-step._step = omega arith in
    leads-end s all (most_steps - c.loop-step._step) c.loop-step.entries c.loop-step.run c.next.new.self c.in_ok-next.field-0 i pos (c.in_ok-next.ensures.goes_on c.loop-step.entries i.stands) c.next.ensures.lines c.in-None.is

pub loop-step-preserved : goal.loop-step-preserved
loop-step-preserved c = λ s all k.
    let i = c.loop-step.invariant s all k in
    let pos : 0 < most_steps - c.loop-step._step = omega arith in
    let less : most_steps - (c.loop-step._step + 1) ≡ most_steps - c.loop-step._step - 1 = omega arith in
    subst (λ (es : List Entry). Leads s all (most_steps - (c.loop-step._step + 1)) es c.next.new.self) (sym c.in_ok-push-in-Some.ensures.ok)
    (leads-step s all (most_steps - c.loop-step._step) _ c.loop-step.entries c.loop-step.run c.next.new.self c.in_ok-next.field-0 c.in-Some.entry i pos less (c.in_ok-next.ensures.goes_on c.loop-step.entries i.stands) c.next.ensures.providers c.next.ensures.lines c.in-Some.is)

pub returns : goal.returns
returns c = λ s all k.
    let none : most_steps - c.loop-step._step ≡ 0 = omega arith in
    leads-stop s all (most_steps - c.loop-step._step) c.loop-step.entries c.loop-step.run none (c.loop-step.invariant s all k)
