-- What a step on lent cells answers, and what it leaves of them.
use Rattle.std.specs.Prelude.{◌≡◌, ℕ, false, List, Option, Some, None, Result, IfOk, IsOk}
use Rattle.xti_model.specs.declared.call.Call.{Call}
use Rattle.xti_model.specs.declared.entry.Applied.{Applied}
use Rattle.xti_model.specs.declared.entry.Go.{Go}
use Rattle.xti_model.specs.declared.entry.Outcome.{Outcome}
use Rattle.xti_model.specs.declared.entry.Outcome.TheVariants.{Done}
use Rattle.xti_model.specs.declared.entry.Reply.{Reply}
use Rattle.xti_model.specs.Memory.{may_run_out}
use Rattle.xti_model.specs.Plan.{Plan, first, has_effect}
use Rattle.xti_model.specs.Step.{Step, step, step_of, made}
use Rattle.xti_model.specs.World.{Change, changed}
use Rattle.xti_end.specs.Taken.{taken}
use Rattle.xti_lent.specs.Lending.{Lending, cells}

-- the step has this outcome, and the lent cells are as they were
abbrev pub IsMade : Lending → ℕ → Outcome → Applied → Type 0
IsMade l fd outcome a = taken a (cells l) ≡ Some (made l.providers fd outcome (cells l))

-- the call is done with this reply, and the lent cells are as they were
abbrev pub IsDone : Lending → ℕ → Reply → Applied → Type 0
IsDone l fd reply a = IsMade l fd (Done reply) a

-- the answer, and the cells that are left, are those of this step
abbrev pub Answers : Option Step → Lending → Applied → Type 0
Answers s new a = taken a (cells new) ≡ s

-- of the plan's step
abbrev pub AnswersBy : Plan → Lending → Lending → Applied → Type 0
AnswersBy plan old new a = Answers (step_of old.providers (cells old) plan) new a

-- the same of the answer, if there is one
abbrev pub MakesBy : {E : Type 0} → Plan → Lending → Lending → Result Applied E → Type 0
MakesBy plan old new r = IfOk r (AnswersBy plan old new)

-- of one step of the call
abbrev pub AnswersCall : Call → Go → Lending → Lending → Applied → Type 0
AnswersCall call go old new a = Answers (step old.providers (cells old) call go) new a

-- where it is blocked, the lent cells are as they were
abbrev pub StaysBlocked : Lending → Lending → Applied → Type 0
StaysBlocked old new a = taken a (cells new) ≡ None → new ≡ old

-- memory does not run out where the plan's first row that holds changes nothing
abbrev pub IsSureBy : {E : Type 0} → Plan → Result Applied E → Type 0
IsSureBy plan r = has_effect (first plan.rows) ≡ false → IsOk r

-- memory does not run out where the definition says that it may not
abbrev pub IsSureOf : {E : Type 0} → Call → Go → Lending → Result Applied E → Type 0
IsSureOf call go l r = may_run_out l.providers (cells l) call go ≡ false → IsOk r

-- the call is done with this reply, and the lent cells changed so
abbrev pub IsDoneAfter : List Change → Lending → Lending → ℕ → Reply → Applied → Type 0
IsDoneAfter cs old new fd reply a = Answers (Some (made old.providers fd (Done reply) (changed old.providers (cells old) cs))) new a

-- the lent cells changed so
abbrev pub Changed : List Change → Lending → Lending → Type 0
Changed cs old new = cells new ≡ changed old.providers (cells old) cs

-- the lent cells are as they were; at most room for more was taken
abbrev pub IsUnchanged : Lending → Lending → Type 0
IsUnchanged old new = cells new ≡ cells old
