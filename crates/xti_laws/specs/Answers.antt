-- The form of an answer.
use Rattle.std.specs.Prelude.{◌≡◌, Bool, true, false}
use Rattle.xti_base.specs.declared.errno.Errno.{Errno}
use Rattle.xti_base.specs.declared.errno.Errno.TheVariants.{TLOOK, TBUFOVFLW}
use Rattle.xti_model.specs.declared.call.Call.{Call}
use Rattle.xti_model.specs.declared.entry.Go.{Go}
use Rattle.xti_model.specs.declared.entry.Outcome.{Outcome}
use Rattle.xti_model.specs.declared.entry.Outcome.TheVariants.{Done}
use Rattle.xti_model.specs.declared.entry.Reply.TheVariants as reply
use Rattle.xti_verbs.specs.declared.verb.Verb.{Verb}
use Rattle.xti_model.specs.declared.profile.Providers.{Providers}
use Rattle.xti_model.specs.World.{World}
use Rattle.xti_laws.specs.Given.{OfStep}
use Rattle.xti_verbs.specs.Verbs.{verb_of, answer_to, MayAnswer}

-- the errors that are told with an event or a number
abbrev pub has_field : Errno → Bool
has_field TLOOK = true
has_field TBUFOVFLW = true
has_field other = false

-- neither TLOOK without its event nor TBUFOVFLW without its number
abbrev pub IsWhole : Outcome → Type 0
IsWhole (Done (reply.Refused errno)) = has_field errno ≡ false
IsWhole other = Unit {0}

-- an answer of this call
abbrev pub AnswersInForm : Verb → Outcome → Type 0
AnswersInForm verb outcome = MayAnswer verb (answer_to outcome) × IsWhole outcome

-- the step answers in the form of its call
abbrev pub StepAnswersInForm : Providers → World → Call → Go → Type 0
StepAnswersInForm p w c g = OfStep p w c g (λ s. AnswersInForm (verb_of c) s.outcome)
