-- The reply of a call that was answered is of its kind, and is told by the typed answer.
use Rattle.std.proofs.Common.{◌≡◌, ◌≤◌, ℕ, true, sym, subst, arith}
use Rattle.std.specs.Prelude.{Result, Ok, Err, IfOk, MatchResult}
use Rattle.xti_model.specs.declared.call.Call.{Call}
use Rattle.xti_model.specs.declared.entry.Go.TheVariants.{Begin}
use Rattle.xti_model.specs.declared.entry.Outcome.{Outcome}
use Rattle.xti_model.specs.declared.entry.Outcome.TheVariants.{Done}
use Rattle.xti_model.specs.declared.entry.Reply.{Reply}
use Rattle.xti_model.specs.declared.entry.Reply.TheVariants as reply
use Rattle.xti_model.specs.History.{after}
use Rattle.xti_hall_rule.specs.declared.view.View.{View}
use Rattle.xti_hall.specs.Seats.{IsStanding, SeatView}
use Rattle.xti_verbs.specs.declared.verb.Verb.{Verb}
use Rattle.xti_verbs.specs.declared.answer.Answer.TheVariants.{Got, UData}
use Rattle.xti_verbs.specs.Verbs.{answer_of, answer_to, verb_of, MayAnswer}
use Rattle.xti_model.specs.declared.entry.Go.{Go}
use Rattle.xti_model.specs.declared.profile.Providers.{Providers}
use Rattle.xti_model.specs.Profile.{valid}
use Rattle.xti_model.specs.World.{World}
use Rattle.xti_laws.specs.Given.{OfStep}
use Rattle.xti_laws.specs.Replies.{lengths, lengths_of, IsShort, IsShortOutcome}
use Rattle.xti_laws.proofs.SoundSteps.{after-sound}
use Rattle.xti_laws.proofs.ShortReplies.{replies-short}
use Rattle.xti_laws.specs.Answers.{AnswersInForm}
use Rattle.xti_calls.specs.declared.answers.Fail.{Fail}
use Rattle.xti_calls.specs.declared.answers.Fail.TheVariants as fail
use Rattle.xti_calls.specs.Calling.{Answered}
use Rattle.xti_calls.specs.Typed.{MayBe, Says, Told, HasAtMost}
use Rattle.xti_calls.specs.Forms.{IsAnswered, Fails, Makes}
use Rattle.xti_calls.proofs.LastSteps.{IsStepOf, answered-step}

may-be : (verb : Verb) (r : Reply) → MayAnswer verb (answer_to (Done r)) → MayBe (answer_of verb) r
may-be verb reply.Plain h = h
may-be verb (reply.Opened fd) h = h
may-be verb (reply.Bound addr qlen) h = h
may-be verb (reply.Connected addr opt udata) h = h
may-be verb (reply.Listened seq addr opt udata) h = h
may-be verb (reply.Sent n) h = h
may-be verb (reply.Got bytes flags) h = h
may-be verb (reply.Discon reason seq udata) h = h
may-be verb (reply.RelData udata) h = h
may-be verb (reply.UData addr opt bytes flags) h = h
may-be verb (reply.UDErr addr opt code) h = h
may-be verb (reply.Seen event) h = h
may-be verb (reply.Stands state) h = h
may-be verb (reply.Limits info) h = h
may-be verb (reply.Addresses local peer) h = h
may-be verb (reply.Options result opt) h = h
may-be verb (reply.Refused errno) h = tt
may-be verb (reply.Look event) h = tt
may-be verb (reply.Overflow seq) h = tt

-- each step answers as the form of its call says
abbrev pub StepsAnswerInForm : Type 0
StepsAnswerInForm = (p : Providers) (w : World) (c : Call) (g : Go) → OfStep p w c g (λ s. AnswersInForm (verb_of c) s.outcome)

pub answered_may_be : StepsAnswerInForm → (v : View) (c : Call) (v' : View) (r : Reply) → IsStanding v' → Answered v c Begin v' r → MayBe (answer_of (verb_of c)) r
answered_may_be in-form v c v' r s a =
    let p : Providers = v'.setting.providers in
    let k : IsStepOf p c (Done r) = answered-step v c v' r s.legal s.mine a in
    may-be (verb_of c) r (subst (λ (o : Outcome). MayAnswer (verb_of c) (answer_to o)) (sym k.outcome) (in-form p (after p k.past) c k.so_far k.made k.is).0)

pub answered_short : (v : View) (c : Call) (v' : View) (r : Reply) → valid v'.setting.providers ≡ true → IsStanding v' → Answered v c Begin v' r → IsShort (lengths_of c) r
answered_short v c v' r ok s a =
    let p : Providers = v'.setting.providers in
    let k : IsStepOf p c (Done r) = answered-step v c v' r s.legal s.mine a in
    subst (IsShortOutcome (lengths_of c)) (sym k.outcome) (replies-short p (after p k.past) (after-sound p k.past ok) c k.so_far k.made k.is)

-- the data of a reply that is short have room
pub got_fits : (n m : ℕ) (reply : Result Reply Fail) → IfOk reply (MayBe Got) → IfOk reply (IsShort (lengths n 0 0)) → n ≤ m → IfOk reply (HasAtMost m)
got_fits n m (Ok (reply.Got bytes flags)) k s h = omega (arith, s, h)
got_fits n m (Ok (reply.UData addr opt bytes flags)) k s h = absurd (cc k)
got_fits n m other k s h = tt

pub datagram_fits : (a o n m : ℕ) (reply : Result Reply Fail) → IfOk reply (MayBe UData) → IfOk reply (IsShort (lengths a o n)) → n ≤ m → IfOk reply (HasAtMost m)
datagram_fits a o n m (Ok (reply.Got bytes flags)) k s h = absurd (cc k)
datagram_fits a o n m (Ok (reply.UData addr opt bytes flags)) k s h = omega (arith, s.2, h)
datagram_fits a o n m other k s h = tt

makes_said : {T : Type 0} (is : T → Reply → Type 0) (s : SeatView) (c : Call) (s' : SeatView) (r : Reply) (result : Result T Fail) → IsAnswered c s s' r → Says is r result → Makes c is s s' result
makes_said is s c s' r (Ok a) k h = (r, k, h)
makes_said is s c s' r (Err (fail.Err errno)) k h = subst (IsAnswered c s s') h k
makes_said is s c s' r (Err (fail.Look event)) k h = subst (IsAnswered c s s') h k
makes_said is s c s' r (Err (fail.Overflow seq)) k h = subst (IsAnswered c s s') h k
makes_said is s c s' r (Err (fail.Halt halt)) k h = absurd h
makes_said is s c s' r (Err (fail.Memory e)) k h = absurd h
makes_said is s c s' r (Err fail.Unfinished) k h = absurd h

-- what is told of the reply of a call, or of why it has none, is what the call makes
pub makes_told : {T : Type 0} (is : T → Reply → Type 0) (s : SeatView) (c : Call) (s' : SeatView) (reply : Result Reply Fail) (result : Result T Fail) →
    MatchResult reply (IsAnswered c s s') (Fails c s s') → Told is reply result → Makes c is s s' result
makes_told is s c s' (Ok r) result k h = makes_said is s c s' r result k h
makes_told is s c s' (Err fail) result k h = subst (Makes c is s s') (sym h) k
