-- Each row refuses by an error that is answered, and so does each step.
use Rattle.std.proofs.Common.{ℕ, Bool, true, false, List, [], ◌∷◌, ◌++◌, ◌≡◌, ◌&&◌, refl, ap, ◌∙◌, cond, length, Option, Some, None}
use Rattle.std.specs.Prelude.{option_and_then}
use Rattle.std.specs.List.{All, concat, list_all}
use Rattle.std.proofs.lemmas.Bool.{false≢true}
use Rattle.std.proofs.lemmas.List.Elements.{All-nil, All-cons}
use Rattle.xti_base.specs.declared.kinds.Prov.{Prov}
use Rattle.xti_base.specs.declared.errno.Errno.TheVariants.{TNODATA}
use Rattle.xti_model.specs.declared.call.Call.{Call}
use Rattle.xti_model.specs.declared.call.Call.TheVariants as call
use Rattle.xti_model.specs.declared.entry.Entry.{Entry}
use Rattle.xti_model.specs.declared.entry.Go.{Go}
use Rattle.xti_model.specs.declared.entry.Go.TheVariants as go
use Rattle.xti_model.specs.declared.entry.Outcome.TheVariants.{Done, Part}
use Rattle.xti_model.specs.declared.entry.Reply.TheVariants as reply
use Rattle.xti_model.specs.declared.profile.Providers.{Providers}
use Rattle.xti_model.specs.Endpoint.{Endpoint}
use Rattle.xti_model.specs.World.{World, endpoint, opening, the_switch}
use Rattle.xti_model.specs.Switch.{opening_place}
use Rattle.xti_model.specs.Links.{linked}
use Rattle.xti_model.specs.Plan.{Plan, Row, Refusal, answers, waits, loses, first, if_open, on_open, later_plan}
use Rattle.xti_model.specs.Step.{Step, plan, step, step_of, send}
use Rattle.xti_model.specs.History.{Going, Fits, Legal, LegalFrom, doing, step_at, step_going, left_by}
use Rattle.xti_model.specs.Calls.Open as Open
use Rattle.xti_model.specs.Calls.Listen as Listen
use Rattle.xti_model.specs.Calls.Send as Send
use Rattle.xti_laws.specs.NeverAnswered.{is_answer, IsAnswer, HasAnswer}
use Rattle.xti_laws.proofs.ToldOutcomes.{StepTells, RefusalTells, step-tells, later-told, told}

abbrev refuses_well : Refusal → Bool
refuses_well (answers r) = is_answer (Done r)
refuses_well (waits r) = is_answer (Done r)
refuses_well loses = true

abbrev all_refuse_well : List Row → Bool
all_refuse_well rows = list_all (λ row. refuses_well row.refusal) rows

first-answer : (rows : List Row) → all_refuse_well rows ≡ true → RefusalTells IsAnswer (first rows)
first-answer [] a = tt
first-answer (row ∷ rows) a = go row.holds row.refusal a (first-answer rows)
  where
    go : (b : Bool) (r : Refusal) → (refuses_well r && all_refuse_well rows) ≡ true → (all_refuse_well rows ≡ true → RefusalTells IsAnswer (first rows)) → RefusalTells IsAnswer (cond b (Some r) (first rows))
    go b r a k = by (refuses_well r) refl a
      where
        at : (b : Bool) (r : Refusal) → refuses_well r ≡ true → RefusalTells IsAnswer (first rows) → RefusalTells IsAnswer (cond b (Some r) (first rows))
        at true (answers y) i t = i
        at true (waits y) i t = i
        at true loses i t = tt
        at false r i t = t

        by : (d : Bool) → refuses_well r ≡ d → (d && all_refuse_well rows) ≡ true → RefusalTells IsAnswer (cond b (Some r) (first rows))
        by true i j = at b r i (k j)
        by false i j = absurd (false≢true j)

-- a call whose rows and whose outcome answer
answers-well : (p : Providers) (w : World) (x : Plan) → all_refuse_well x.rows ≡ true → is_answer x.outcome ≡ true → StepTells IsAnswer (step_of p w x)
answers-well p w x a b = step-tells IsAnswer (λ n. refl) p w x (record { refused = first-answer x.rows a; done = λ i. b })

at-open : (p : Providers) (w : World) (fd : ℕ) (f : Endpoint → Plan) → ((e : Endpoint) → (all_refuse_well (f e).rows ≡ true) × (is_answer (f e).outcome ≡ true)) → StepTells IsAnswer (step_of p w (on_open p w fd f))
at-open p w fd f k = go (endpoint p w fd)
  where
    go : (o : Option Endpoint) → StepTells IsAnswer (step_of p w (if_open fd o f))
    go None = refl
    go (Some e) = answers-well p w (f e) (k e).0 (k e).1

send-outcome : (e : Endpoint) (total taken : ℕ) (b : Bool) → is_answer (cond b (Done (reply.Sent taken)) (Part taken)) ≡ true
send-outcome e total taken true = refl
send-outcome e total taken false = refl

sends : (p : Providers) (w : World) (fd parts : ℕ) (bytes : List ℕ) (flags : ℕ) (g : Go) → StepTells IsAnswer (step_of p w (send p w fd parts bytes flags g))
sends p w fd parts bytes flags go.Begin = at-open p w fd (λ e. Send.plan_to p fd parts bytes flags 0 e (linked p w fd e)) (λ e. (refl, send-outcome e (length bytes) _ _))
sends p w fd parts bytes flags (go.More n) = by (endpoint p w fd)
  where
    by : (o : Option Endpoint) → StepTells IsAnswer (step_of p w (later_plan n (if_open fd o (λ e. Send.plan_to p fd parts bytes flags n e (linked p w fd e)))))
    by None = refl
    by (Some e) = step-tells IsAnswer (λ m. refl) p w (later_plan n (Send.plan_to p fd parts bytes flags n e (linked p w fd e))) (record {
      refused = later-told IsAnswer n refl (Send.rows p parts bytes flags n (linked p w fd e) e);
      done = λ i. send-outcome e (length bytes) _ _;
    })

opens : (p : Providers) (w : World) (prov : Prov) (nonblock : Bool) (o : Option ℕ) → StepTells IsAnswer (step_of p w (Open.plan_where p (the_switch p w) prov nonblock o))
opens p w prov nonblock None = answers-well p w (Open.plan_where p (the_switch p w) prov nonblock None) refl refl
opens p w prov nonblock (Some n) = answers-well p w (Open.plan_where p (the_switch p w) prov nonblock (Some n)) refl refl

asked : (b : Bool) → is_answer (cond b (Done (reply.Refused TNODATA)) (Part 0)) ≡ true
asked true = refl
asked false = refl

step-answer : (p : Providers) (w : World) (c : Call) (g : Go) → StepTells IsAnswer (step p w c g)
unfolding step plan
step-answer p w (call.TOpen prov nonblock) g = opens p w prov nonblock (opening_place p (the_switch p w) prov)
step-answer p w (call.TClose fd) g = at-open p w fd.0 _ (λ e. (refl, refl))
step-answer p w (call.TBind fd addr qlen amax) g = at-open p w fd.0 _ (λ e. (refl, refl))
step-answer p w (call.TUnbind fd) g = at-open p w fd.0 _ (λ e. (refl, refl))
step-answer p w (call.TConnect fd addr opt udata amax omax umax) go.Begin = at-open p w fd.0 _ (λ e. (refl, asked e.nonblock))
step-answer p w (call.TConnect fd addr opt udata amax omax umax) (go.More n) = at-open p w fd.0 _ (λ e. (refl, refl))
step-answer p w (call.TRcvConnect fd amax omax umax) g = at-open p w fd.0 _ (λ e. (refl, refl))
step-answer p w (call.TListen fd amax omax umax) g = at-open p w fd.0 _ (λ e. (refl, refl))
step-answer p w (call.TAccept fd resfd seq opt udata) g = at-open p w fd.0 (λ e. Listen.accept_with p fd.0 resfd.0 seq.0 opt udata e (endpoint p w resfd.0)) (λ e. by e (endpoint p w resfd.0))
  where
    by : (e : Endpoint) (o : Option Endpoint) → (all_refuse_well (Listen.accept_with p fd.0 resfd.0 seq.0 opt udata e o).rows ≡ true) × (is_answer (Listen.accept_with p fd.0 resfd.0 seq.0 opt udata e o).outcome ≡ true)
    by e None = (refl, refl)
    by e (Some r) = (refl, refl)
step-answer p w (call.TSnd fd bytes flags) g = sends p w fd.0 1 bytes flags g
step-answer p w (call.TSndV fd parts flags) g = sends p w fd.0 (length parts) (concat parts) flags g
step-answer p w (call.TRcv fd max) g = at-open p w fd.0 _ (λ e. (refl, refl))
step-answer p w (call.TRcvV fd sizes) g = at-open p w fd.0 _ (λ e. (refl, refl))
step-answer p w (call.TSndDis fd seq udata) g = at-open p w fd.0 _ (λ e. (refl, refl))
step-answer p w (call.TRcvDis fd umax) g = at-open p w fd.0 _ (λ e. (refl, refl))
step-answer p w (call.TSndRel fd) g = at-open p w fd.0 _ (λ e. (refl, refl))
step-answer p w (call.TRcvRel fd) g = at-open p w fd.0 _ (λ e. (refl, refl))
step-answer p w (call.TSndRelData fd udata) g = at-open p w fd.0 _ (λ e. (refl, refl))
step-answer p w (call.TRcvRelData fd umax) g = at-open p w fd.0 _ (λ e. (refl, refl))
step-answer p w (call.TSndUData fd addr opt bytes) g = at-open p w fd.0 _ (λ e. (refl, refl))
step-answer p w (call.TSndVUData fd addr opt parts) g = at-open p w fd.0 _ (λ e. (refl, refl))
step-answer p w (call.TRcvUData fd max amax omax) g = at-open p w fd.0 _ (λ e. (refl, refl))
step-answer p w (call.TRcvVUData fd sizes amax omax) g = at-open p w fd.0 _ (λ e. (refl, refl))
step-answer p w (call.TRcvUDErr fd amax omax) g = at-open p w fd.0 _ (λ e. (refl, refl))
step-answer p w (call.TLookAt fd) g = at-open p w fd.0 _ (λ e. (refl, refl))
step-answer p w (call.TGetState fd) g = at-open p w fd.0 _ (λ e. (refl, refl))
step-answer p w (call.TSync fd) g = at-open p w fd.0 _ (λ e. (refl, refl))
step-answer p w (call.TGetInfo fd) g = at-open p w fd.0 _ (λ e. (refl, refl))
step-answer p w (call.TGetProtAddr fd amax pmax) g = at-open p w fd.0 _ (λ e. (refl, refl))
step-answer p w (call.TOptMgmt fd action opt omax) g = at-open p w fd.0 _ (λ e. (refl, refl))
step-answer p w (call.SetMode fd nonblock) g = at-open p w fd.0 _ (λ e. (refl, refl))

pub answer : (p : Providers) (w : World) (c : Call) (g : Go) (s : Step) → step p w c g ≡ Some s → IsAnswer s.outcome
answer p w c g s i = told IsAnswer (step p w c g) s (step-answer p w c g) i

-- the outcome of an entry of a legal history is that of a step
fitting : (p : Providers) (w : World) (o : Option Going) (e : Entry) → Fits (option_and_then (step_going p w) o) e → HasAnswer e
fitting p w None e f = absurd f
fitting p w (Some g) e f = go (step p w g.call g.so_far) f (step-answer p w g.call g.so_far)
  where
    go : (o : Option Step) → Fits o e → StepTells IsAnswer o → HasAnswer e
    go None f k = absurd f
    go (Some s) f k = ap is_answer f.0 ∙ k

legal-from : (p : Providers) (w : World) (past es : List Entry) → LegalFrom p w past es → All HasAnswer es
legal-from p w past [] h = All-nil HasAnswer
legal-from p w past (e ∷ es) h = All-cons HasAnswer e es (fitting p w (doing past e) e h.0) (legal-from p (left_by w (step_at p w past e)) (past ++ e ∷ []) es h.1)

pub answers-in-legal : (p : Providers) (entries : List Entry) → Legal p entries → All HasAnswer entries
answers-in-legal p entries h = legal-from p (opening p) [] entries h
