-- What steps tell of their progress.
use Rattle.std.proofs.Common.{ℕ, Bool, true, false, List, ◌≡◌, ◌+◌, ◌-◌, ◌<◌, ◌≤◌, refl, cond, eqb, ◌||◌, length, Option, Some, None, arith}
use Rattle.std.specs.Prelude.{nat_lt, min}
use Rattle.std.specs.List.{concat}
use Rattle.std.proofs.lemmas.Bool.{and_parts, false≢true, not-false, eqb-false, ltb-true}
use Rattle.xti_base.specs.declared.errno.Errno.TheVariants.{TNODATA}
use Rattle.xti_base.specs.declared.kinds.Prov.{Prov}
use Rattle.xti_model.specs.declared.call.Call.{Call}
use Rattle.xti_model.specs.declared.call.Call.TheVariants as call
use Rattle.xti_model.specs.declared.entry.Go.{Go}
use Rattle.xti_model.specs.declared.entry.Go.TheVariants as go
use Rattle.xti_model.specs.declared.entry.Outcome.TheVariants.{Done, Part}
use Rattle.xti_model.specs.declared.entry.Reply.{Reply}
use Rattle.xti_model.specs.declared.entry.Reply.TheVariants as reply
use Rattle.xti_model.specs.declared.profile.Providers.{Providers}
use Rattle.xti_model.specs.Endpoint.{Endpoint}
use Rattle.xti_model.specs.World.{World, endpoint, the_switch}
use Rattle.xti_model.specs.Switch.{opening_place}
use Rattle.xti_model.specs.Links.{linked}
use Rattle.xti_model.specs.Symbols.{bytes_waiting}
use Rattle.xti_model.specs.Sending.{ready_for, room_for, byte_bound, waiting}
use Rattle.xti_model.specs.Arguments.{is_expedited}
use Rattle.xti_model.specs.Plan.{Plan, if_open, on_open, later_plan}
use Rattle.xti_model.specs.Step.{Step, plan, step, step_of, send}
use Rattle.xti_model.specs.Calls.Open as Open
use Rattle.xti_model.specs.Calls.Connect as Connect
use Rattle.xti_model.specs.Calls.Listen as Listen
use Rattle.xti_model.specs.Calls.Send as Send
use Rattle.xti_laws.proofs.StepWays.{is_denial, all_deny}
use Rattle.xti_laws.specs.Progress.{GoesOn, IsRequest, IsWhole, Progress}
use Rattle.xti_model.specs.History.{taken_before}
use Rattle.xti_laws.proofs.ToldOutcomes.{StepTells, Tells, step-tells, denied, later-told, later-none, Clear, clear, open-tells, told}

whole-denial : (r : Reply) → is_denial r ≡ true → IsWhole (Done r)
whole-denial (reply.Refused e) h = tt
whole-denial (reply.Look e) h = tt
whole-denial r h = absurd (false≢true h)

-- a send
part : (p : Providers) (number : ℕ) (bytes : List ℕ) (flags taken : ℕ) (peer : Option Endpoint) (e : Endpoint) → taken ≤ length bytes → Clear (Send.rows p number bytes flags taken peer e)
    → GoesOn (length bytes) taken (Send.outcome e (length bytes) (taken + Send.taken_now peer e (is_expedited flags) (length bytes - taken)))
part p number bytes flags taken peer e h c = go (eqb (taken + min (length bytes - taken) room) (length bytes)) refl e.nonblock
  where
    room : ℕ
    room = room_for (is_expedited flags) e peer

    some-room : 0 < room
    some-room = (let k = ltb-true (bytes_waiting (waiting (is_expedited flags) peer)) (byte_bound (is_expedited flags) e peer) (and_parts (nat_lt (bytes_waiting (waiting (is_expedited flags) peer)) (byte_bound (is_expedited flags) e peer)) _ (not-false (ready_for (is_expedited flags) e peer) c.1.1.1.1.1.1.0)).0 in omega arith)

    go : (b : Bool) → eqb (taken + min (length bytes - taken) room) (length bytes) ≡ b → (d : Bool)
        → GoesOn (length bytes) taken (cond (b || d) (Done (reply.Sent (taken + min (length bytes - taken) room))) (Part (taken + min (length bytes - taken) room)))
    go true i d = (omega arith, omega arith)
    go false i true = (omega arith, omega arith)
    go false i false = (let k = eqb-false (taken + min (length bytes - taken) room) (length bytes) i in let l : 0 < room = some-room in (omega (arith, l), omega arith))

sends : (p : Providers) (w : World) (fd number : ℕ) (bytes : List ℕ) (flags : ℕ) (g : Go) → taken_before g ≤ length bytes → StepTells (GoesOn (length bytes) (taken_before g)) (step_of p w (send p w fd number bytes flags g))
sends p w fd number bytes flags go.Begin h = step-tells (GoesOn (length bytes) 0) (λ n. tt) p w (Send.plan p w fd number bytes flags 0)
    (open-tells (GoesOn (length bytes) 0) fd (endpoint p w fd) (λ e. Send.plan_to p fd number bytes flags 0 e (linked p w fd e)) tt
    (λ e i. record { refused = denied (GoesOn (length bytes) 0) denial (Send.rows p number bytes flags 0 (linked p w fd e) e) refl; done = λ j. part p number bytes flags 0 (linked p w fd e) e h (clear (Send.rows p number bytes flags 0 (linked p w fd e) e) j) }))
  where
    denial : (r : Reply) → is_denial r ≡ true → GoesOn (length bytes) 0 (Done r)
    denial (reply.Refused e) k = tt
    denial (reply.Look e) k = tt
    denial r k = absurd (false≢true k)
sends p w fd number bytes flags (go.More n) h = step-tells (GoesOn (length bytes) n) (λ m. tt) p w (later_plan n (Send.plan p w fd number bytes flags n)) (by (endpoint p w fd))
  where
    by : (o : Option Endpoint) → Tells (GoesOn (length bytes) n) (later_plan n (if_open fd o (λ e. Send.plan_to p fd number bytes flags n e (linked p w fd e))))
    by None = record { refused = (omega arith, h); done = λ i. tt }
    by (Some e) = record {
      refused = later-told (GoesOn (length bytes) n) n (omega arith, h) (Send.rows p number bytes flags n (linked p w fd e) e);
      done = λ j. part p number bytes flags n (linked p w fd e) e h (clear (Send.rows p number bytes flags n (linked p w fd e) e) (later-none n (Send.rows p number bytes flags n (linked p w fd e) e) j));
    }

-- a call that is done at once, or waits
wholly : (p : Providers) (w : World) (fd : ℕ) (f : Endpoint → Plan) → ((e : Endpoint) → (all_deny (f e).rows ≡ true) × IsWhole (f e).outcome) → StepTells IsWhole (step_of p w (on_open p w fd f))
wholly p w fd f k = step-tells IsWhole (λ n. tt) p w (on_open p w fd f) (open-tells IsWhole fd (endpoint p w fd) f tt (λ e i. record { refused = denied IsWhole whole-denial (f e).rows (k e).0; done = λ j. (k e).1 }))

opens : (p : Providers) (w : World) (prov : Prov) (nonblock : Bool) (o : Option ℕ) → StepTells IsWhole (step_of p w (Open.plan_where p (the_switch p w) prov nonblock o))
opens p w prov nonblock None = step-tells IsWhole (λ n. tt) p w (Open.plan_where p (the_switch p w) prov nonblock None) (record { refused = denied IsWhole whole-denial (Open.rows p (the_switch p w) prov) refl; done = λ j. tt })
opens p w prov nonblock (Some n) = step-tells IsWhole (λ n. tt) p w (Open.plan_where p (the_switch p w) prov nonblock (Some n)) (record { refused = denied IsWhole whole-denial (Open.rows p (the_switch p w) prov) refl; done = λ j. tt })

requests : (p : Providers) (w : World) (fd : ℕ) (address options udata : List ℕ) → StepTells IsRequest (step_of p w (Connect.plan p w fd address options udata))
requests p w fd address options udata = step-tells IsRequest (λ n. tt) p w (Connect.plan p w fd address options udata)
    (open-tells IsRequest fd (endpoint p w fd) (λ e. Connect.plan_to fd address options udata e (Connect.found p w fd address e)) tt (λ e i. record { refused = denied IsRequest denial (Connect.rows address options udata e) refl; done = λ j. by e.nonblock }))
  where
    denial : (r : Reply) → is_denial r ≡ true → IsRequest (Done r)
    denial (reply.Refused e) k = tt
    denial (reply.Look e) k = tt
    denial r k = absurd (false≢true k)

    by : (b : Bool) → IsRequest (cond b (Done (reply.Refused TNODATA)) (Part 0))
    by true = tt
    by false = refl

pub progress : (p : Providers) (w : World) (c : Call) (g : Go) (s : Step) → step p w c g ≡ Some s → Progress c g s.outcome
unfolding step plan
progress p w (call.TOpen prov nonblock) g s = told IsWhole _ s (opens p w prov nonblock (opening_place p (the_switch p w) prov))
progress p w (call.TClose fd) g s = told IsWhole _ s (wholly p w fd.0 _ (λ e. (refl, tt)))
progress p w (call.TBind fd addr qlen amax) g s = told IsWhole _ s (wholly p w fd.0 _ (λ e. (refl, tt)))
progress p w (call.TUnbind fd) g s = told IsWhole _ s (wholly p w fd.0 _ (λ e. (refl, tt)))
progress p w (call.TConnect fd addr opt udata amax omax umax) go.Begin s = told IsRequest _ s (requests p w fd.0 addr opt udata)
progress p w (call.TConnect fd addr opt udata amax omax umax) (go.More n) s = told IsWhole _ s (wholly p w fd.0 _ (λ e. (refl, tt)))
progress p w (call.TRcvConnect fd amax omax umax) g s = told IsWhole _ s (wholly p w fd.0 _ (λ e. (refl, tt)))
progress p w (call.TListen fd amax omax umax) g s = told IsWhole _ s (wholly p w fd.0 _ (λ e. (refl, tt)))
progress p w (call.TAccept fd resfd seq opt udata) g s = told IsWhole _ s (wholly p w fd.0 (λ e. Listen.accept_with p fd.0 resfd.0 seq.0 opt udata e (endpoint p w resfd.0)) (λ e. by e (endpoint p w resfd.0)))
  where
    by : (e : Endpoint) (o : Option Endpoint) → (all_deny (Listen.accept_with p fd.0 resfd.0 seq.0 opt udata e o).rows ≡ true) × IsWhole (Listen.accept_with p fd.0 resfd.0 seq.0 opt udata e o).outcome
    by e None = (refl, tt)
    by e (Some r) = (refl, tt)
progress p w (call.TSnd fd bytes flags) g s = λ i h. told (GoesOn (length bytes) (taken_before g)) _ s (sends p w fd.0 1 bytes flags g h) i
progress p w (call.TSndV fd parts flags) g s = λ i h. told (GoesOn (length (concat parts)) (taken_before g)) _ s (sends p w fd.0 (length parts) (concat parts) flags g h) i
progress p w (call.TRcv fd max) g s = told IsWhole _ s (wholly p w fd.0 _ (λ e. (refl, tt)))
progress p w (call.TRcvV fd sizes) g s = told IsWhole _ s (wholly p w fd.0 _ (λ e. (refl, tt)))
progress p w (call.TSndDis fd seq udata) g s = told IsWhole _ s (wholly p w fd.0 _ (λ e. (refl, tt)))
progress p w (call.TRcvDis fd umax) g s = told IsWhole _ s (wholly p w fd.0 _ (λ e. (refl, tt)))
progress p w (call.TSndRel fd) g s = told IsWhole _ s (wholly p w fd.0 _ (λ e. (refl, tt)))
progress p w (call.TRcvRel fd) g s = told IsWhole _ s (wholly p w fd.0 _ (λ e. (refl, tt)))
progress p w (call.TSndRelData fd udata) g s = told IsWhole _ s (wholly p w fd.0 _ (λ e. (refl, tt)))
progress p w (call.TRcvRelData fd umax) g s = told IsWhole _ s (wholly p w fd.0 _ (λ e. (refl, tt)))
progress p w (call.TSndUData fd addr opt bytes) g s = told IsWhole _ s (wholly p w fd.0 _ (λ e. (refl, tt)))
progress p w (call.TSndVUData fd addr opt parts) g s = told IsWhole _ s (wholly p w fd.0 _ (λ e. (refl, tt)))
progress p w (call.TRcvUData fd max amax omax) g s = told IsWhole _ s (wholly p w fd.0 _ (λ e. (refl, tt)))
progress p w (call.TRcvVUData fd sizes amax omax) g s = told IsWhole _ s (wholly p w fd.0 _ (λ e. (refl, tt)))
progress p w (call.TRcvUDErr fd amax omax) g s = told IsWhole _ s (wholly p w fd.0 _ (λ e. (refl, tt)))
progress p w (call.TLookAt fd) g s = told IsWhole _ s (wholly p w fd.0 _ (λ e. (refl, tt)))
progress p w (call.TGetState fd) g s = told IsWhole _ s (wholly p w fd.0 _ (λ e. (refl, tt)))
progress p w (call.TSync fd) g s = told IsWhole _ s (wholly p w fd.0 _ (λ e. (refl, tt)))
progress p w (call.TGetInfo fd) g s = told IsWhole _ s (wholly p w fd.0 _ (λ e. (refl, tt)))
progress p w (call.TGetProtAddr fd amax pmax) g s = told IsWhole _ s (wholly p w fd.0 _ (λ e. (refl, tt)))
progress p w (call.TOptMgmt fd action opt omax) g s = told IsWhole _ s (wholly p w fd.0 _ (λ e. (refl, tt)))
progress p w (call.SetMode fd nonblock) g s = told IsWhole _ s (wholly p w fd.0 _ (λ e. (refl, tt)))
