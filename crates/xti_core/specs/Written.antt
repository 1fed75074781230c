-- What a step answers, written where the caller keeps it.
use Rattle.std.specs.Prelude.{◌≡◌, ⊤, Bool, true, false, Result, Ok, Err, IfOk}
use Rattle.xti_base.specs.declared.kinds.Fd.{Fd}
use Rattle.xti_base.specs.declared.kinds.State.{State}
use Rattle.xti_model.specs.declared.call.Call.{Call}
use Rattle.xti_model.specs.declared.call.Call.TheVariants as call
use Rattle.xti_model.specs.declared.entry.Applied.{Applied}
use Rattle.xti_model.specs.declared.entry.Applied.TheVariants as applied
use Rattle.xti_model.specs.declared.entry.Go.{Go}
use Rattle.xti_model.specs.declared.entry.Outcome.{Outcome}
use Rattle.xti_lent.specs.Answers.{AnswersCall, IsSureOf, StaysBlocked}
use Rattle.xti_lent.specs.Lending.{Lending}
use Rattle.xti_switch.specs.Calls.{goes_through_switch}
use Rattle.xti_core.specs.Standing.{Standing, IsStep}

-- what is told by whether a step was made, its outcome and the state afterwards
abbrev pub answer : Bool → Outcome → State → Applied
answer true outcome after = applied.Step outcome after
answer false outcome after = applied.Blocked

-- the same, or an error
abbrev pub told : {E : Type 0} → Result Bool E → Outcome → State → Result Applied E
told (Ok made) outcome after = Ok (answer made outcome after)
told (Err e) outcome after = Err e

-- where no step was made, the outcome and the state are as they were
abbrev pub StayUnmade : {E : Type 0} → Result Bool E → Outcome → Outcome → State → State → Type 0
StayUnmade (Ok true) old new before after = ⊤
StayUnmade (Ok false) old new before after = (new ≡ old) × (after ≡ before)
StayUnmade (Err e) old new before after = (new ≡ old) × (after ≡ before)

-- the answer is told by whether a step was made, by the outcome and by the state
abbrev pub IsWritten : {E : Type 0} → Result Applied E → Result Bool E → Outcome → Outcome → State → State → Type 0
IsWritten (Ok (applied.Step outcome state)) r old new before after = (r ≡ Ok true) × (new ≡ outcome) × (after ≡ state)
IsWritten (Ok applied.Blocked) r old new before after = (r ≡ Ok false) × (new ≡ old) × (after ≡ before)
IsWritten (Err e) r old new before after = (r ≡ Err e) × (new ≡ old) × (after ≡ before)

-- one step of the call is made over lent cells, and its answer is this one; or memory runs out
pub record Steps {E : Type 0} (call : Call) (go : Go) (lent left : Lending) (r : Result Applied E) : Type 0 where
  pub step : IfOk r (AnswersCall call go lent left)
  pub still : IfOk r (StaysBlocked lent left)
  pub sure : IsSureOf call go lent r

-- so it is however far the call has come
abbrev pub AlwaysSteps : {E : Type 0} → Call → Lending → Lending → Result Applied E → Type 0
AlwaysSteps call lent left r = (g : Go) → Steps call g lent left r

-- so it is of a t_look of the descriptor
abbrev pub IsLook : {E : Type 0} → Fd → Lending → Lending → Result Applied E → Type 0
IsLook fd lent left r = AlwaysSteps (call.TLookAt fd) lent left r

-- so it is where the step goes through the switch
abbrev pub StepsBySwitch : {E : Type 0} → Call → Lending → Lending → Result Applied E → Type 0
StepsBySwitch call lent left r = (g : Go) → goes_through_switch call g ≡ true → Steps call g lent left r

-- the answer that is told so, and the cells that are left, are those of one step of the call
abbrev pub StepsTo : Call → Go → Standing → Standing → Outcome → State → Bool → Type 0
StepsTo call go old new outcome after made = IsStep call go old new (answer made outcome after)
