-- Each row and each outcome is in the form of its call, and so is what each step answers.
use Rattle.std.proofs.Common.{ℕ, Bool, true, false, List, [], ◌∷◌, ◌≡◌, ◌&&◌, eqb, refl, sym, ap, ◌∙◌, cond, length, get_or, Option, Some, None}
use Rattle.std.specs.Prelude.{not}
use Rattle.std.specs.List.{concat, list_all}
use Rattle.std.proofs.lemmas.Bool.{false≢true, eqb-true}
use Rattle.xti_base.specs.declared.kinds.Prov.{Prov}
use Rattle.xti_base.specs.declared.errno.Errno.{Errno}
use Rattle.xti_base.specs.declared.errno.Errno.TheVariants.{TNODATA}
use Rattle.xti_model.specs.declared.call.Call.{Call}
use Rattle.xti_model.specs.declared.call.Call.TheVariants as call
use Rattle.xti_model.specs.declared.entry.Go.{Go}
use Rattle.xti_model.specs.declared.entry.Go.TheVariants as go
use Rattle.xti_model.specs.declared.entry.Outcome.{Outcome}
use Rattle.xti_model.specs.declared.entry.Outcome.TheVariants.{Done, Part}
use Rattle.xti_model.specs.declared.entry.Reply.TheVariants as reply
use Rattle.xti_model.specs.declared.profile.Providers.{Providers}
use Rattle.xti_model.specs.Endpoint.{Endpoint}
use Rattle.xti_model.specs.World.{World, endpoint, the_switch}
use Rattle.xti_model.specs.Switch.{opening_place}
use Rattle.xti_model.specs.Links.{linked}
use Rattle.xti_model.specs.Plan.{Plan, Row, Refusal, answers, waits, loses, first, if_open, on_open, later_plan}
use Rattle.xti_model.specs.Step.{Step, plan, step, step_of, send}
use Rattle.xti_model.specs.Calls.Open as Open
use Rattle.xti_model.specs.Calls.Listen as Listen
use Rattle.xti_model.specs.Calls.Send as Send
use Rattle.xti_verbs.specs.declared.verb.Verb.{Verb}
use Rattle.xti_verbs.specs.declared.verb.Verb.TheVariants as verb
use Rattle.xti_verbs.specs.declared.answer.Answer.{Answer}
use Rattle.xti_verbs.specs.declared.answer.Answer.TheVariants as answer
use Rattle.xti_verbs.specs.Verbs.{row_of, verb_of, answer_of, answer_to}
use Rattle.xti_laws.proofs.ToldOutcomes.{StepTells, RefusalTells, step-tells, later-told, told}
use Rattle.xti_laws.specs.Answers.{has_field, AnswersInForm}

-- ---- a test of outcomes

-- answers are numbered
abbrev number_of : Answer → ℕ
number_of answer.Plain = 0
number_of answer.Opened = 1
number_of answer.Bound = 2
number_of answer.Connected = 3
number_of answer.Listened = 4
number_of answer.Sent = 5
number_of answer.Got = 6
number_of answer.Discon = 7
number_of answer.RelData = 8
number_of answer.UData = 9
number_of answer.UDErr = 10
number_of answer.Seen = 11
number_of answer.Stands = 12
number_of answer.Limits = 13
number_of answer.Addresses = 14
number_of answer.Options = 15
number_of answer.Refused = 16
number_of answer.Look = 17
number_of answer.Overflow = 18
number_of answer.Part = 19

abbrev answer_with : ℕ → Answer
answer_with n = get_or (answer.Plain ∷ answer.Opened ∷ answer.Bound ∷ answer.Connected ∷ answer.Listened ∷ answer.Sent ∷ answer.Got ∷ answer.Discon ∷ answer.RelData ∷ answer.UData ∷ answer.UDErr ∷ answer.Seen ∷ answer.Stands ∷ answer.Limits ∷ answer.Addresses ∷ answer.Options ∷ answer.Refused ∷ answer.Look ∷ answer.Overflow ∷ []) n answer.Part

back : (a : Answer) → answer_with (number_of a) ≡ a
back answer.Plain = refl
back answer.Opened = refl
back answer.Bound = refl
back answer.Connected = refl
back answer.Listened = refl
back answer.Sent = refl
back answer.Got = refl
back answer.Discon = refl
back answer.RelData = refl
back answer.UData = refl
back answer.UDErr = refl
back answer.Seen = refl
back answer.Stands = refl
back answer.Limits = refl
back answer.Addresses = refl
back answer.Options = refl
back answer.Refused = refl
back answer.Look = refl
back answer.Overflow = refl
back answer.Part = refl

-- an error, a part, or what the call answers where it is done
abbrev fits : Verb → Outcome → Bool
fits v (Part n) = true
fits v (Done (reply.Refused errno)) = not (has_field errno)
fits v (Done (reply.Look event)) = true
fits v (Done (reply.Overflow seq)) = true
fits v outcome = eqb (number_of (answer_to outcome)) (number_of (answer_of v))

abbrev IsFit : Verb → Outcome → Type 0
IsFit v outcome = fits v outcome ≡ true

same : (a b : Answer) → eqb (number_of a) (number_of b) ≡ true → a ≡ b
same a b e = sym (back a) ∙ ap answer_with (eqb-true (number_of a) (number_of b) e) ∙ back b

alone : (e : Errno) → not (has_field e) ≡ true → has_field e ≡ false
alone e h = go (has_field e) h
  where
    go : (b : Bool) → not b ≡ true → b ≡ false
    go true i = absurd (false≢true i)
    go false i = refl

fit : (v : Verb) (o : Outcome) → IsFit v o → AnswersInForm v o
fit v (Part n) h = (tt, tt)
fit v (Done reply.Plain) h = (same answer.Plain (answer_of v) h, tt)
fit v (Done (reply.Opened fd)) h = (same answer.Opened (answer_of v) h, tt)
fit v (Done (reply.Bound addr qlen)) h = (same answer.Bound (answer_of v) h, tt)
fit v (Done (reply.Connected addr opt udata)) h = (same answer.Connected (answer_of v) h, tt)
fit v (Done (reply.Listened seq addr opt udata)) h = (same answer.Listened (answer_of v) h, tt)
fit v (Done (reply.Sent n)) h = (same answer.Sent (answer_of v) h, tt)
fit v (Done (reply.Got bytes flags)) h = (same answer.Got (answer_of v) h, tt)
fit v (Done (reply.Discon reason seq udata)) h = (same answer.Discon (answer_of v) h, tt)
fit v (Done (reply.RelData udata)) h = (same answer.RelData (answer_of v) h, tt)
fit v (Done (reply.UData addr opt bytes flags)) h = (same answer.UData (answer_of v) h, tt)
fit v (Done (reply.UDErr addr opt code)) h = (same answer.UDErr (answer_of v) h, tt)
fit v (Done (reply.Seen event)) h = (same answer.Seen (answer_of v) h, tt)
fit v (Done (reply.Stands state)) h = (same answer.Stands (answer_of v) h, tt)
fit v (Done (reply.Limits info)) h = (same answer.Limits (answer_of v) h, tt)
fit v (Done (reply.Addresses local peer)) h = (same answer.Addresses (answer_of v) h, tt)
fit v (Done (reply.Options result opt)) h = (same answer.Options (answer_of v) h, tt)
fit v (Done (reply.Refused errno)) h = (tt, alone errno h)
fit v (Done (reply.Look event)) h = (tt, tt)
fit v (Done (reply.Overflow seq)) h = (tt, tt)

-- ---- rows

abbrev refuses_well : Verb → Refusal → Bool
refuses_well v (answers r) = fits v (Done r)
refuses_well v (waits r) = fits v (Done r)
refuses_well v loses = true

abbrev all_refuse_well : Verb → List Row → Bool
all_refuse_well v rows = list_all (λ row. refuses_well v row.refusal) rows

first-fits : (v : Verb) (rows : List Row) → all_refuse_well v rows ≡ true → RefusalTells (IsFit v) (first rows)
first-fits v [] a = tt
first-fits v (row ∷ rows) a = go row.holds row.refusal a (first-fits v rows)
  where
    go : (b : Bool) (r : Refusal) → (refuses_well v r && all_refuse_well v rows) ≡ true → (all_refuse_well v rows ≡ true → RefusalTells (IsFit v) (first rows)) → RefusalTells (IsFit v) (cond b (Some r) (first rows))
    go b r a k = by (refuses_well v r) refl a
      where
        at : (b : Bool) (r : Refusal) → refuses_well v r ≡ true → RefusalTells (IsFit v) (first rows) → RefusalTells (IsFit v) (cond b (Some r) (first rows))
        at true (answers y) i t = i
        at true (waits y) i t = i
        at true loses i t = tt
        at false r i t = t

        by : (d : Bool) → refuses_well v r ≡ d → (d && all_refuse_well v rows) ≡ true → RefusalTells (IsFit v) (cond b (Some r) (first rows))
        by true i j = at b r i (k j)
        by false i j = absurd (false≢true j)

-- ---- calls

-- a call whose rows and whose outcome fit
fits-well : (v : Verb) (p : Providers) (w : World) (x : Plan) → all_refuse_well v x.rows ≡ true → IsFit v x.outcome → StepTells (IsFit v) (step_of p w x)
fits-well v p w x a b = step-tells (IsFit v) (λ n. refl) p w x (record { refused = first-fits v x.rows a; done = λ i. b })

at-open : (v : Verb) (p : Providers) (w : World) (fd : ℕ) (f : Endpoint → Plan) → ((e : Endpoint) → (all_refuse_well v (f e).rows ≡ true) × IsFit v (f e).outcome) → StepTells (IsFit v) (step_of p w (on_open p w fd f))
at-open v p w fd f k = go (endpoint p w fd)
  where
    go : (o : Option Endpoint) → StepTells (IsFit v) (step_of p w (if_open fd o f))
    go None = refl
    go (Some e) = fits-well v p w (f e) (k e).0 (k e).1

-- a send of one part or of several
module _ (v : Verb) (answers_number : (n : ℕ) → IsFit v (Done (reply.Sent n))) where
  send-outcome : (taken : ℕ) (b : Bool) → IsFit v (cond b (Done (reply.Sent taken)) (Part taken))
  send-outcome taken true = answers_number taken
  send-outcome taken false = refl

  sends : (p : Providers) (w : World) (fd parts : ℕ) (bytes : List ℕ) (flags : ℕ) (g : Go) → StepTells (IsFit v) (step_of p w (send p w fd parts bytes flags g))
  sends p w fd parts bytes flags go.Begin = at-open v p w fd (λ e. Send.plan_to p fd parts bytes flags 0 e (linked p w fd e)) (λ e. (refl, send-outcome _ _))
  sends p w fd parts bytes flags (go.More n) = by (endpoint p w fd)
    where
      by : (o : Option Endpoint) → StepTells (IsFit v) (step_of p w (later_plan n (if_open fd o (λ e. Send.plan_to p fd parts bytes flags n e (linked p w fd e)))))
      by None = answers_number n
      by (Some e) = step-tells (IsFit v) (λ m. refl) p w (later_plan n (Send.plan_to p fd parts bytes flags n e (linked p w fd e))) (record {
        refused = later-told (IsFit v) n (answers_number n) (Send.rows p parts bytes flags n (linked p w fd e) e);
        done = λ i. send-outcome _ _;
      })

opens : (p : Providers) (w : World) (prov : Prov) (nonblock : Bool) (o : Option ℕ) → StepTells (IsFit verb.Open) (step_of p w (Open.plan_where p (the_switch p w) prov nonblock o))
unfolding row_of
opens p w prov nonblock None = fits-well verb.Open p w (Open.plan_where p (the_switch p w) prov nonblock None) refl refl
opens p w prov nonblock (Some n) = fits-well verb.Open p w (Open.plan_where p (the_switch p w) prov nonblock (Some n)) refl refl

asked : (b : Bool) → IsFit verb.Connect (cond b (Done (reply.Refused TNODATA)) (Part 0))
asked true = refl
asked false = refl

step-fits : (p : Providers) (w : World) (c : Call) (g : Go) → StepTells (IsFit (verb_of c)) (step p w c g)
unfolding step plan row_of
step-fits p w (call.TOpen prov nonblock) g = opens p w prov nonblock (opening_place p (the_switch p w) prov)
step-fits p w (call.TClose fd) g = at-open verb.Close p w fd.0 _ (λ e. (refl, refl))
step-fits p w (call.TBind fd addr qlen amax) g = at-open verb.Bind p w fd.0 _ (λ e. (refl, refl))
step-fits p w (call.TUnbind fd) g = at-open verb.Unbind p w fd.0 _ (λ e. (refl, refl))
step-fits p w (call.TConnect fd addr opt udata amax omax umax) go.Begin = at-open verb.Connect p w fd.0 _ (λ e. (refl, asked e.nonblock))
step-fits p w (call.TConnect fd addr opt udata amax omax umax) (go.More n) = at-open verb.Connect p w fd.0 _ (λ e. (refl, refl))
step-fits p w (call.TRcvConnect fd amax omax umax) g = at-open verb.RcvConnect p w fd.0 _ (λ e. (refl, refl))
step-fits p w (call.TListen fd amax omax umax) g = at-open verb.Listen p w fd.0 _ (λ e. (refl, refl))
step-fits p w (call.TAccept fd resfd seq opt udata) g = at-open verb.Accept p w fd.0 (λ e. Listen.accept_with p fd.0 resfd.0 seq.0 opt udata e (endpoint p w resfd.0)) (λ e. by e (endpoint p w resfd.0))
  where
    by : (e : Endpoint) (o : Option Endpoint) → (all_refuse_well verb.Accept (Listen.accept_with p fd.0 resfd.0 seq.0 opt udata e o).rows ≡ true) × IsFit verb.Accept (Listen.accept_with p fd.0 resfd.0 seq.0 opt udata e o).outcome
    by e None = (refl, refl)
    by e (Some r) = (refl, refl)
step-fits p w (call.TSnd fd bytes flags) g = sends verb.Snd (λ n. refl) p w fd.0 1 bytes flags g
step-fits p w (call.TSndV fd parts flags) g = sends verb.SndV (λ n. refl) p w fd.0 (length parts) (concat parts) flags g
step-fits p w (call.TRcv fd max) g = at-open verb.Rcv p w fd.0 _ (λ e. (refl, refl))
step-fits p w (call.TRcvV fd sizes) g = at-open verb.RcvV p w fd.0 _ (λ e. (refl, refl))
step-fits p w (call.TSndDis fd seq udata) g = at-open verb.SndDis p w fd.0 _ (λ e. (refl, refl))
step-fits p w (call.TRcvDis fd umax) g = at-open verb.RcvDis p w fd.0 _ (λ e. (refl, refl))
step-fits p w (call.TSndRel fd) g = at-open verb.SndRel p w fd.0 _ (λ e. (refl, refl))
step-fits p w (call.TRcvRel fd) g = at-open verb.RcvRel p w fd.0 _ (λ e. (refl, refl))
step-fits p w (call.TSndRelData fd udata) g = at-open verb.SndRelData p w fd.0 _ (λ e. (refl, refl))
step-fits p w (call.TRcvRelData fd umax) g = at-open verb.RcvRelData p w fd.0 _ (λ e. (refl, refl))
step-fits p w (call.TSndUData fd addr opt bytes) g = at-open verb.SndUData p w fd.0 _ (λ e. (refl, refl))
step-fits p w (call.TSndVUData fd addr opt parts) g = at-open verb.SndVUData p w fd.0 _ (λ e. (refl, refl))
step-fits p w (call.TRcvUData fd max amax omax) g = at-open verb.RcvUData p w fd.0 _ (λ e. (refl, refl))
step-fits p w (call.TRcvVUData fd sizes amax omax) g = at-open verb.RcvVUData p w fd.0 _ (λ e. (refl, refl))
step-fits p w (call.TRcvUDErr fd amax omax) g = at-open verb.RcvUDErr p w fd.0 _ (λ e. (refl, refl))
step-fits p w (call.TLookAt fd) g = at-open verb.Look p w fd.0 _ (λ e. (refl, refl))
step-fits p w (call.TGetState fd) g = at-open verb.GetState p w fd.0 _ (λ e. (refl, refl))
step-fits p w (call.TSync fd) g = at-open verb.Sync p w fd.0 _ (λ e. (refl, refl))
step-fits p w (call.TGetInfo fd) g = at-open verb.GetInfo p w fd.0 _ (λ e. (refl, refl))
step-fits p w (call.TGetProtAddr fd amax pmax) g = at-open verb.GetProtAddr p w fd.0 _ (λ e. (refl, refl))
step-fits p w (call.TOptMgmt fd action opt omax) g = at-open verb.OptMgmt p w fd.0 _ (λ e. (refl, refl))
step-fits p w (call.SetMode fd nonblock) g = at-open verb.SetMode p w fd.0 _ (λ e. (refl, refl))

pub in-form : (p : Providers) (w : World) (c : Call) (g : Go) (s : Step) → step p w c g ≡ Some s → AnswersInForm (verb_of c) s.outcome
in-form p w c g s i = fit (verb_of c) s.outcome (told (IsFit (verb_of c)) (step p w c g) s (step-fits p w c g) i)
