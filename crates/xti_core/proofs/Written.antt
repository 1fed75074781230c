-- An answer that is written in places of the caller's is the answer.
use Rattle.std.proofs.Common.{◌≡◌, Bool, true, false, refl, sym, subst}
use Rattle.std.specs.Prelude.{Result, Ok, Err, IfOk, IsOk, OnErr}
use Rattle.xti_base.specs.declared.kinds.State.{State}
use Rattle.xti_model.specs.declared.entry.Applied.{Applied}
use Rattle.xti_model.specs.declared.entry.Applied.TheVariants as applied
use Rattle.xti_model.specs.declared.entry.Outcome.{Outcome}
use Rattle.xti_model.specs.declared.call.Call.{Call}
use Rattle.xti_model.specs.declared.entry.Go.{Go}
use Rattle.xti_lent.specs.Answers.{AnswersCall, StaysBlocked}
use Rattle.xti_lent.specs.Lending.{Lending}
use Rattle.xti_core.specs.Written.{answer, told, IsWritten, StayUnmade, Steps}

-- what is written tells the answer
pub written-told : {E : Type 0} (r : Result Applied E) (w : Result Bool E) (old new : Outcome) (before after : State) → IsWritten r w old new before after → told w new after ≡ r
written-told (Ok (applied.Step o s)) w old new before after i = rw (i.0, i.1, i.2) refl
written-told (Ok applied.Blocked) w old new before after i = rw i.0 refl
written-told (Err e) w old new before after i = rw i.0 refl

-- so what is told is a step where the answer is
pub written-step : {E : Type 0} (call : Call) (go : Go) (lent left : Lending) (r : Result Applied E) (w : Result Bool E) (old new : Outcome) (before after : State) → IsWritten r w old new before after → Steps call go lent left r → Steps call go lent left (told w new after)
written-step call go lent left r w old new before after i h = subst (Steps call go lent left) (sym (written-told r w old new before after i)) h

-- an error is handed on
pub written-on-err : {E : Type 0} (P : Type 0) (r : Result Applied E) (w : Result Bool E) (old new : Outcome) (before after : State) → IsWritten r w old new before after → OnErr r P → OnErr w P
written-on-err P (Ok (applied.Step o s)) w old new before after i h = subst (λ x. OnErr x P) (sym i.0) tt
written-on-err P (Ok applied.Blocked) w old new before after i h = subst (λ x. OnErr x P) (sym i.0) tt
written-on-err P (Err e) w old new before after i h = subst (λ x. OnErr x P) (sym i.0) h

-- where no step was made, the places are as they were
pub written-places : {E : Type 0} (r : Result Applied E) (w : Result Bool E) (old new : Outcome) (before after : State) → IsWritten r w old new before after → StayUnmade w old new before after
written-places (Ok (applied.Step o s)) w old new before after i = subst (λ x. StayUnmade x old new before after) (sym i.0) tt
written-places (Ok applied.Blocked) w old new before after i = subst (λ x. StayUnmade x old new before after) (sym i.0) (i.1, i.2)
written-places (Err e) w old new before after i = subst (λ x. StayUnmade x old new before after) (sym i.0) (i.1, i.2)

-- what holds of the answer that is told
pub told-if-ok : {E : Type 0} (P : Applied → Type 0) (r : Result Bool E) (outcome : Outcome) (after : State) → IfOk (told r outcome after) P → IfOk r (λ made. P (answer made outcome after))
told-if-ok P (Ok made) outcome after h = h
told-if-ok P (Err e) outcome after h = tt

pub told-is-ok : {E : Type 0} (r : Result Bool E) (outcome : Outcome) (after : State) → IsOk (told r outcome after) → IsOk r
told-is-ok (Ok made) outcome after h = refl
told-is-ok (Err e) outcome after h = h

pub told-on-err : {E : Type 0} (P : Type 0) (r : Result Bool E) (outcome : Outcome) (after : State) → OnErr r P → OnErr (told r outcome after) P
told-on-err P (Ok made) outcome after h = tt
told-on-err P (Err e) outcome after h = h
