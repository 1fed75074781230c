-- How t_optmgmt refuses a request, and what it does with one that it does not refuse.
use Rattle.std.specs.Prelude.{◌≡◌, ℕ, List, [], ◌∷◌, length, Option, Some}
use Rattle.xti_base.specs.declared.errno.Errno.{Errno}
use Rattle.xti_base.specs.Negotiation.{Negotiated, Settings, negotiate}
use Rattle.xti_base.specs.Options.{options_bytes, the_options}
use Rattle.xti_model.specs.declared.entry.Applied.{Applied}
use Rattle.xti_model.specs.declared.entry.Reply.TheVariants.{Refused}
use Rattle.xti_model.specs.declared.profile.Providers.{Providers}
use Rattle.xti_model.specs.Endpoint.{Endpoint}
use Rattle.xti_model.specs.Plan.{Plan, Row, answers, field, first, overflows}
use Rattle.xti_model.specs.Step.{Step, step_by}
use Rattle.xti_model.specs.World.{World}
use Rattle.xti_model.specs.Calls.Show as Show
use Rattle.xti_end.specs.declared.negotiating.Request.{Request}
use Rattle.xti_end.specs.Held.{Held, alone, parts}
use Rattle.xti_end.specs.Taken.{taken}

-- how an endpoint negotiates options
abbrev pub negotiating : ℕ → Request → ℕ → Providers → Held → Plan
negotiating fd request omax p h = Show.option_plan p (alone h) fd request.action request.options.now omax

-- so many bytes answer the options, whatever the settings are
abbrev pub IsAnswerSize : ℕ → List ℕ → ℕ → Type 0
IsAnswerSize action options size = (s : Settings) → size ≡ length (options_bytes (negotiate s action (the_options options)).options)

-- the answered options are longer than the caller takes
abbrev pub answer_overflows : Negotiated → ℕ → List Row
answer_overflows n omax = overflows (field (options_bytes n.options) omax ∷ []) ∷ []

-- the request is refused with this error, whatever the negotiation gives
abbrev pub IsRefusedWith : ℕ → List ℕ → Errno → Type 0
IsRefusedWith action options errno = (n : Negotiated) (omax : ℕ) → first (Show.option_rows n action options omax) ≡ Some (answers (Refused errno))

-- the request is negotiated: only its answer may be too long
abbrev pub IsNegotiated : ℕ → List ℕ → Type 0
IsNegotiated action options = (n : Negotiated) (omax : ℕ) → first (Show.option_rows n action options omax) ≡ first (answer_overflows n omax)

-- the options are negotiated, and their answer is told, or lost where it is too long
abbrev pub option_step : Providers → World → ℕ → Negotiated → ℕ → List ℕ → ℕ → Endpoint → Option Step
option_step p w fd n action options omax e = step_by p w (Show.option_plan_of fd n action options omax e) (first (answer_overflows n omax))

-- the endpoint that was open made this step
abbrev pub Negotiates : Providers → ℕ → Request → ℕ → Held → Held → Applied → Type 0
Negotiates p fd request omax old new a =
    taken a (alone new) ≡ option_step p (alone old) fd (Show.negotiated p request.action request.options.now (parts old)) request.action request.options.now omax (parts old)
