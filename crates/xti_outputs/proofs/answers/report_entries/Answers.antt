use Rattle.std.proofs.Common.{◌≡◌, ◌∷◌, ◌++◌, ◌-◌, ◌<◌, ◌+◌, List, [], arith, refl, subst, sym}
use Rattle.xti_model.specs.declared.entry.Entry.{Entry}
use Rattle.xti_model.specs.Robin.{most_steps}
use Rattle.xti_outputs.specs.Entries.{Reports}
use Rattle.xti_outputs.proofs.Answered.{last-added}
use Rattle.xti_replay.specs.Runs.{made_of}
use Rattle.xti_replay.proofs.WholeRuns.{leads-step, leads-end, leads-stop}
use Rattle.xti_outputs.proofs.answers.report_entries.Goals as goal

pub loop-step-init : goal.loop-step-init
loop-step-init c = λ s all past k. (past, λ summary p reported. reported, k)

pub step-requires : goal.step-requires
step-requires c = let i = c.loop-step.invariant c.requires.0 c.requires.1 c.requires.2 c.requires.3 in (i.0, i.2.stands)

pub add-requires : goal.add-requires
add-requires c =
    let i = c.loop-step.invariant c.requires.0 c.requires.1 c.requires.2 c.requires.3 in
    let pos : 0 < most_steps - c.loop-step._step = omega arith in
    let l = leads-step c.requires.0 c.requires.1 (most_steps - c.loop-step._step) _ i.0 c.loop-step.run c.step.new.self (made_of c.step.new.self) c.in-Some.entry.now i.2 pos refl (c.in_ok-step.ensures.goes_on i.0 i.2.stands) c.step.ensures.providers c.step.ensures.lines (sym c.in-Some.ensures) in
    omega (arith, l.stands.last, last-added 0 i.0 c.in-Some.entry.now)

pub returns-in-None : goal.returns-in-None
returns-in-None c = λ s all past k.
    let i = c.loop-step.invariant s all past k in
    let pos : 0 < most_steps - c.loop-step._step = omega arith in
    let e = leads-end s all (most_steps - c.loop-step._step) i.0 c.loop-step.run c.step.new.self (made_of c.step.new.self) i.2 pos (c.in_ok-step.ensures.goes_on i.0 i.2.stands) c.step.ensures.lines (sym c.in-None.ensures) in
    (λ summary p reported. subst (λ (es : List Entry). Reports summary p es c.loop-step.report) e.0 (i.1 summary p reported), e.1)

pub loop-step-preserved : goal.loop-step-preserved
loop-step-preserved c = λ s all past k.
    let i = c.loop-step.invariant s all past k in
    let pos : 0 < most_steps - c.loop-step._step = omega arith in
    let less : most_steps - (c.loop-step._step + 1) ≡ most_steps - c.loop-step._step - 1 = omega arith in (
      i.0 ++ c.in-Some.entry.now ∷ [],
      λ summary p reported. c.in_ok-add-in-Some.ensures summary p i.0 (i.1 summary p reported),
      leads-step s all (most_steps - c.loop-step._step) _ i.0 c.loop-step.run c.step.new.self (made_of c.step.new.self) c.in-Some.entry.now i.2 pos less (c.in_ok-step.ensures.goes_on i.0 i.2.stands) c.step.ensures.providers c.step.ensures.lines (sym c.in-Some.ensures),
    )

pub returns : goal.returns
returns c = λ s all past k.
    let i = c.loop-step.invariant s all past k in
    let none : most_steps - c.loop-step._step ≡ 0 = omega arith in
    let e = leads-stop s all (most_steps - c.loop-step._step) i.0 c.loop-step.run none i.2 in
    (λ summary p reported. subst (λ (es : List Entry). Reports summary p es c.loop-step.report) e.0 (i.1 summary p reported), e.1)
