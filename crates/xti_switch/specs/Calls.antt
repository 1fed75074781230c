-- Which steps go through the switch.
use Rattle.std.specs.Prelude.{◌≡◌, Bool, true, false, Result}
use Rattle.xti_model.specs.declared.call.Call.{Call}
use Rattle.xti_model.specs.declared.call.Call.TheVariants as call
use Rattle.xti_model.specs.declared.entry.Applied.{Applied}
use Rattle.xti_model.specs.declared.entry.Go.{Go}
use Rattle.xti_model.specs.declared.entry.Go.TheVariants as go
use Rattle.xti_lent.specs.Answers.{AnswersCall, IsSureOf}
use Rattle.xti_lent.specs.Lending.{Lending}

-- the steps of calls that open and close endpoints, that give addresses and give them up, and that ask for connections, accept them and end them; of t_connect the first one
abbrev pub goes_through_switch : Call → Go → Bool
goes_through_switch (call.TOpen prov nonblock) g = true
goes_through_switch (call.TClose fd) g = true
goes_through_switch (call.TBind fd addr qlen amax) g = true
goes_through_switch (call.TUnbind fd) g = true
goes_through_switch (call.TConnect fd addr opt udata amax omax umax) go.Begin = true
goes_through_switch (call.TAccept fd resfd seq opt udata) g = true
goes_through_switch (call.TSndDis fd seq udata) g = true
goes_through_switch _ _ = false

-- the answer, and the cells that are left, are those of each such step of the call
abbrev pub AnswersThroughSwitch : Call → Lending → Lending → Applied → Type 0
AnswersThroughSwitch call old new a = (g : Go) → goes_through_switch call g ≡ true → AnswersCall call g old new a

-- memory does not run out in it where the definition says that it may not
abbrev pub IsSureThroughSwitch : {E : Type 0} → Call → Lending → Result Applied E → Type 0
IsSureThroughSwitch call l r = (g : Go) → goes_through_switch call g ≡ true → IsSureOf call g l r
