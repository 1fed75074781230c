use Rattle.std.proofs.Common.{◌≡◌, refl, arith}
use Rattle.std.proofs.lemmas.Bool.{false≢true}
use Rattle.xti_c.proofs.Answering.{step_answers, step_rightly, unmade_answers, reads_call, copies_none}
use Rattle.xti_c.proofs.Lining.{step_tells, nothing_tells}
use Rattle.xti_c.proofs.stepping.make_step.Goals as goal

pub returns-in-Ok-Some-clause-answers : goal.returns-in-Ok-Some-clause-answers
returns-in-Ok-Some-clause-answers c =
    let asks = rw c.in-Ok-Some.field-0-is at c.in-Ok-Some.ensures.call in
    step_answers c.args.asked.now c.args.bytes.now c.args.world.now c.step_call.new.world c.in-Ok-Some.call c.go_of.result c.step_call.result.end _ _ asks c.go_of.ensures c.step_call.ensures.steps

pub returns-in-Ok-Some-clause-line : goal.returns-in-Ok-Some-clause-line
returns-in-Ok-Some-clause-line c =
    let asks = rw c.in-Ok-Some.field-0-is at c.in-Ok-Some.ensures.call in
    step_tells c.args.place c.args.asked.now c.args.bytes.now c.args.world.now c.in-Ok-Some.call c.go_of.result c.step_call.result _ _ asks c.go_of.ensures c.step_call.ensures.line

pub returns-in-Ok-Some-clause-sure : goal.returns-in-Ok-Some-clause-sure
returns-in-Ok-Some-clause-sure c =
    let asks = rw c.in-Ok-Some.field-0-is at c.in-Ok-Some.ensures.call in
    step_rightly c.args.asked.now c.args.bytes.now c.args.world.now c.in-Ok-Some.call c.go_of.result c.step_call.result.end asks c.go_of.ensures c.step_call.ensures.sure

pub returns-in-Ok-Some-clause-no_call : goal.returns-in-Ok-Some-clause-no_call
returns-in-Ok-Some-clause-no_call c =
    let asks = rw c.in-Ok-Some.field-0-is at c.in-Ok-Some.ensures.call in
    reads_call c.args.asked.now c.args.bytes.now _ c.in-Ok-Some.call asks

pub returns-in-Ok-None-clause-answers : goal.returns-in-Ok-None-clause-answers
returns-in-Ok-None-clause-answers c =
    let none = rw c.in-Ok-None.field-0-is at c.in-Ok-None.ensures.call in
    unmade_answers c.args.asked.now c.args.bytes.now c.args.world.now c.args.world.now 4 _ refl (omega arith) (omega arith) (λ _. none)

pub returns-in-Ok-None-clause-line : goal.returns-in-Ok-None-clause-line
returns-in-Ok-None-clause-line c = nothing_tells c.args.place c.args.asked.now c.args.bytes.now c.args.world.now 4 _ (omega arith)

pub returns-in-Ok-None-clause-sure : goal.returns-in-Ok-None-clause-sure
returns-in-Ok-None-clause-sure c = λ copies steps (e : 4 ≡ 3). omega arith

pub returns-in-Ok-None-clause-no_call : goal.returns-in-Ok-None-clause-no_call
returns-in-Ok-None-clause-no_call c = λ _. refl

-- out of memory in a copy
pub returns-in-Err-clause-answers : goal.returns-in-Err-clause-answers
returns-in-Err-clause-answers c =
    unmade_answers c.args.asked.now c.args.bytes.now c.args.world.now c.args.world.now 3 _ refl (omega arith) (omega arith) (λ (e : 3 ≡ 4). absurd (omega arith))

pub returns-in-Err-clause-line : goal.returns-in-Err-clause-line
returns-in-Err-clause-line c = nothing_tells c.args.place c.args.asked.now c.args.bytes.now c.args.world.now 3 _ (omega arith)

pub returns-in-Err-clause-sure : goal.returns-in-Err-clause-sure
returns-in-Err-clause-sure c = λ copies steps e. false≢true (c.in-Err.ensures.sure copies)

pub returns-in-Err-clause-no_call : goal.returns-in-Err-clause-no_call
returns-in-Err-clause-no_call c = λ no. absurd (false≢true (c.in-Err.ensures.sure (copies_none c.args.asked.now c.args.bytes.now no)))
