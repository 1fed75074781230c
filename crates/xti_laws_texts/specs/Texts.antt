-- What the text of an answer tells.
use Rattle.std.specs.Prelude.{◌≡◌, Some}
use Rattle.xti_base.specs.declared.kinds.State.{State}
use Rattle.xti_model.specs.declared.entry.Outcome.{Outcome}
use Rattle.xti_model.specs.declared.entry.Outcome.TheVariants.{Done, Part}
use Rattle.xti_model.specs.declared.entry.Reply.TheVariants as reply
use Rattle.xti_journal_text.specs.JournalText.{answer_text}
use Rattle.xti_verbs.specs.declared.verb.Verb.{Verb}
use Rattle.xti_laws.specs.Answers.{AnswersInForm}
use Rattle.xti_laws.specs.Values.{IsNumber, AreLimits}
use Rattle.xti_journal.specs.Grammar.{IsAnswer}

-- ---- the numbers of an answer

-- each number of the outcome has 32 bits
abbrev pub AreNumbers : Outcome → Type 0
AreNumbers (Part taken) = IsNumber taken
AreNumbers (Done (reply.Opened fd)) = IsNumber fd.0
AreNumbers (Done (reply.Bound addr qlen)) = IsNumber qlen
AreNumbers (Done (reply.Listened seq addr opt udata)) = IsNumber seq.0
AreNumbers (Done (reply.Sent n)) = IsNumber n
AreNumbers (Done (reply.Got bytes flags)) = IsNumber flags
AreNumbers (Done (reply.Discon reason seq udata)) = IsNumber reason × IsNumber seq.0
AreNumbers (Done (reply.UData addr opt bytes flags)) = IsNumber flags
AreNumbers (Done (reply.UDErr addr opt code)) = IsNumber code
AreNumbers (Done (reply.Limits info)) = AreLimits info
AreNumbers (Done (reply.Options result opt)) = IsNumber result
AreNumbers (Done (reply.Overflow seq)) = IsNumber seq.0
AreNumbers other = Unit {0}

-- ---- the text of an answer

-- of the call's answers that journals have, none but this one has the same text
abbrev pub IsToldByText : Verb → Outcome → State → Type 0
IsToldByText verb outcome after =
    (other : Outcome) (state : State) → IsAnswer (Some verb) other → answer_text outcome after ≡ answer_text other state → (outcome ≡ other) × (after ≡ state)

-- this holds of each answer in the form of its call whose numbers have 32 bits, and of each state
abbrev pub OfAnswersInForm : (Verb → Outcome → State → Type 0) → Type 0
OfAnswersInForm holds = (v : Verb) (o : Outcome) (a : State) → AnswersInForm v o → AreNumbers o → holds v o a
