use Rattle.std.proofs.Common.{◌≡◌, ◌∙◌, arith}
use Rattle.std.proofs.lemmas.Bool.{false≢true}
use Rattle.xti_c.proofs.Answering.{small, made_steps, blocked_steps, unmade_steps, left_steps}
use Rattle.xti_c.proofs.Lining.{made_tells, untold_tells}
use Rattle.xti_c.proofs.stepping.step_call.Goals as goal
use Rattle.xti_c.proofs.stepping.step_call.Goals.{in-Ok-true, in-Ok-false, in-Err}

pub returns-then-end-gt1-clause-steps : goal.returns-then-end-gt1-clause-steps
returns-then-end-gt1-clause-steps c = elim c.match-step_into.branch [
  | in-Ok-true w ↦
      left_steps c.args.world.now c.step_into.new.self c.args.call c.args.go _ _ _ _ _ _ _ _ _ _ _ w.end-is w.told-is w.addr-is w.opt-is w.udata-is
      (made_steps c.args.world.now c.step_into.new.self c.args.call c.args.go c.step_into.new.outcome c.step_into.new.after w.tell-end.result
      c.args.told.now w.tell-end.new.told _ _ (rw w.in-Ok-true.field-0-test at w.in-Ok-true.ensures.step) c.step_into.ensures.providers
      w.tell-end.ensures.end w.tell-end.ensures.told w.tell-end.ensures.rooms)
  | in-Ok-false w ↦
      left_steps c.args.world.now c.step_into.new.self c.args.call c.args.go _ _ _ _ _ _ _ _ _ _ _ w.end-is w.told-is w.addr-is w.opt-is w.udata-is
      (blocked_steps c.args.world.now c.step_into.new.self c.args.call c.args.go _ (rw w.in-Ok-false.field-0-test at w.in-Ok-false.ensures.step)
      (w.in-Ok-false.ensures.still w.in-Ok-false.field-0-test))
  | in-Err w ↦
      left_steps c.args.world.now c.step_into.new.self c.args.call c.args.go _ _ _ _ _ _ _ _ _ _ _ w.end-is w.told-is w.addr-is w.opt-is w.udata-is
      (unmade_steps c.args.world.now c.step_into.new.self c.args.call c.args.go _ w.in-Err.ensures.err)
]

pub returns-then-end-gt1-clause-line : goal.returns-then-end-gt1-clause-line
returns-then-end-gt1-clause-line c = untold_tells c.args.place c.args.call c.args.go c.args.world.now c.match-step_into.end _

pub returns-then-end-gt1-clause-sure : goal.returns-then-end-gt1-clause-sure
returns-then-end-gt1-clause-sure c = elim c.match-step_into.branch [
  | in-Ok-true w ↦
      λ no (e : c.match-step_into.end ≡ 3).
      let few = small c.step_into.new.outcome in let end = w.tell-end.ensures.end in let is = w.end-is in omega arith
  | in-Ok-false w ↦ λ no (e : c.match-step_into.end ≡ 3). let is = w.end-is in omega arith
  | in-Err w ↦ λ no e. false≢true (w.in-Err.ensures.sure no)
]

pub returns-clause-steps : goal.returns-clause-steps
returns-clause-steps c = elim c.match-step_into.branch [
  | in-Ok-true w ↦
      left_steps c.args.world.now c.step_into.new.self c.args.call c.args.go _ _ _ _ _ _ _ _ _ _ _ w.end-is w.told-is w.addr-is w.opt-is w.udata-is
      (made_steps c.args.world.now c.step_into.new.self c.args.call c.args.go c.step_into.new.outcome c.step_into.new.after w.tell-end.result
      c.args.told.now w.tell-end.new.told _ _ (rw w.in-Ok-true.field-0-test at w.in-Ok-true.ensures.step) c.step_into.ensures.providers
      w.tell-end.ensures.end w.tell-end.ensures.told w.tell-end.ensures.rooms)
  | in-Ok-false w ↦
      left_steps c.args.world.now c.step_into.new.self c.args.call c.args.go _ _ _ _ _ _ _ _ _ _ _ w.end-is w.told-is w.addr-is w.opt-is w.udata-is
      (blocked_steps c.args.world.now c.step_into.new.self c.args.call c.args.go _ (rw w.in-Ok-false.field-0-test at w.in-Ok-false.ensures.step)
      (w.in-Ok-false.ensures.still w.in-Ok-false.field-0-test))
  | in-Err w ↦
      left_steps c.args.world.now c.step_into.new.self c.args.call c.args.go _ _ _ _ _ _ _ _ _ _ _ w.end-is w.told-is w.addr-is w.opt-is w.udata-is
      (unmade_steps c.args.world.now c.step_into.new.self c.args.call c.args.go _ w.in-Err.ensures.err)
]

pub returns-clause-line : goal.returns-clause-line
returns-clause-line c = elim c.match-step_into.branch [
  | in-Ok-true w ↦
      made_tells c.args.place c.args.call c.args.go c.args.world.now c.step_into.new.self c.step_into.new.outcome c.step_into.new.after
      c.match-step_into.end c.tell_step-line.result _ _ (rw w.in-Ok-true.field-0-test at w.in-Ok-true.ensures.step)
      (w.end-is ∙ w.tell-end.ensures.end) c.tell_step-line.ensures
  | in-Ok-false w ↦ let is = w.end-is in let few = c.if-end-gt1.false in absurd (omega arith)
  | in-Err w ↦ let is = w.end-is in let few = c.if-end-gt1.false in absurd (omega arith)
]

pub returns-clause-sure : goal.returns-clause-sure
returns-clause-sure c = λ no (e : c.match-step_into.end ≡ 3). let few = c.if-end-gt1.false in omega arith
