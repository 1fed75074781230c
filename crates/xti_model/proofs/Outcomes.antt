-- Each step of a call leaves fewer steps to make: a send takes a byte or more, and a connect goes on once.
use Rattle.std.specs.Prelude.{ℕ, ◌+◌, ◌-◌, ◌<◌, ◌≤◌, ◌==◌, ◌||◌, ◌&&◌, not, nat_lt, min, Bool, true, false, List, [], ◌∷◌, length, map, Option, Some, None, IfSome, ◌≡◌, ◌≢◌, if◌then◌else◌}
use Rattle.std.specs.List.{concat, AllByRecursion}
use Rattle.std.proofs.lemmas.Option.{none-some}
use Rattle.std.proofs.lemmas.Bool.Decides.{nat_tests}
use Rattle.xti_model.specs.Arguments.{is_expedited}
use Rattle.std.proofs.Common.{refl, sym, arith}
use Rattle.xti_base.specs.declared.errno.Errno.TheVariants.{TBADF, TNODATA}
use Rattle.xti_model.specs.declared.call.Call.{Call}
use Rattle.xti_model.specs.declared.call.Call.TheVariants as call
use Rattle.xti_model.specs.declared.entry.Go.{Go}
use Rattle.xti_model.specs.declared.entry.Go.TheVariants as go
use Rattle.xti_model.specs.declared.entry.Outcome.{Outcome}
use Rattle.xti_model.specs.declared.entry.Outcome.TheVariants.{Done, Part}
use Rattle.xti_model.specs.declared.entry.Reply.{Reply}
use Rattle.xti_model.specs.declared.entry.Reply.TheVariants.{Refused, Sent}
use Rattle.xti_model.specs.declared.profile.Providers.{Providers}
use Rattle.xti_model.specs.Endpoint.{Endpoint}
use Rattle.xti_model.specs.World.{World, endpoint, the_switch}
use Rattle.xti_model.specs.Switch.{opening_place}
use Rattle.xti_model.specs.Links.{linked}
use Rattle.xti_model.specs.Sending.{room_for, waiting, byte_bound, end_bound}
use Rattle.xti_model.specs.Symbols.{bytes_waiting, ends_waiting}
use Rattle.xti_model.specs.Plan.{Plan, Row, Refusal, answers, waits, loses, first, later, later_row, later_plan, on_open, if_open}
use Rattle.xti_model.specs.Step.{Step, step_by, step_of, step, plan}
use Rattle.xti_model.specs.Calls.Open as Open
use Rattle.xti_model.specs.Calls.Connect as Connect
use Rattle.xti_model.specs.Calls.Listen as Listen
use Rattle.xti_model.specs.Calls.Send as Send

abbrev pub send_left : List ℕ → Go → ℕ
send_left bytes go.Begin = 1 + length bytes
send_left bytes (go.More n) = 1 + (length bytes - n)

-- the most steps that a call makes from here
abbrev pub left : Call → Go → ℕ
left (call.TConnect fd addr opt udata amax omax umax) go.Begin = 1 + length addr
left (call.TSnd fd bytes flags) g = send_left bytes g
left (call.TSndV fd parts flags) g = send_left (concat parts) g
left other g = 1

-- a send has taken no more bytes than there are
abbrev pub IsPossibleSend : List ℕ → Go → Type 0
IsPossibleSend bytes go.Begin = Unit
IsPossibleSend bytes (go.More n) = n ≤ length bytes

abbrev pub IsPossible : Call → Go → Type 0
IsPossible (call.TSnd fd bytes flags) g = IsPossibleSend bytes g
IsPossible (call.TSndV fd parts flags) g = IsPossibleSend (concat parts) g
IsPossible other g = Unit

-- where the call goes on after the outcome, fewer steps are left
abbrev pub Falls : Call → Go → Outcome → Type 0
Falls c g (Done reply) = Unit
Falls c g (Part n) = IsPossible c (go.More n) × (left c (go.More n) < left c g)

pub send_left-positive : (bytes : List ℕ) (g : Go) → 0 < send_left bytes g
send_left-positive bytes go.Begin = omega arith
send_left-positive bytes (go.More n) = omega arith

pub left-positive : (c : Call) (g : Go) → 0 < left c g
left-positive (call.TConnect fd addr opt udata amax omax umax) go.Begin = omega arith
left-positive (call.TSnd fd bytes flags) g = send_left-positive bytes g
left-positive (call.TSndV fd parts flags) g = send_left-positive (concat parts) g
left-positive other g = omega arith

-- a step's outcome is a reply, or the plan's where no row holds
pub step_of-outcome : (Q : Outcome → Type 0) → ((r : Reply) → Q (Done r)) → (p : Providers) (w : World) (plan : Plan) →
    (first plan.rows ≡ None → Q plan.outcome) → IfSome (step_of p w plan) (λ s. Q s.outcome)
step_of-outcome Q done p w plan h = by (first plan.rows) refl
  where
    waited : (b : Bool) (s : Step) → Q s.outcome → IfSome (if b then Some s else None) (λ s. Q s.outcome)
    waited true s q = q
    waited false s q = tt

    by : (r : Option Refusal) → first plan.rows ≡ r → IfSome (step_by p w plan r) (λ s. Q s.outcome)
    by None e = h e
    by (Some (answers reply)) e = done reply
    by (Some (waits reply)) e = waited plan.nonblock _ (done reply)
    by (Some loses) e = done _

pub on_open-outcome : (Q : Outcome → Type 0) → ((r : Reply) → Q (Done r)) → (p : Providers) (w : World) (fd : ℕ) (f : Endpoint → Plan) →
    ((e : Endpoint) → first (f e).rows ≡ None → Q (f e).outcome) → IfSome (step_of p w (on_open p w fd f)) (λ s. Q s.outcome)
on_open-outcome Q done p w fd f h = step_of-outcome Q done p w (on_open p w fd f) (by (endpoint p w fd))
  where
    by : (e : Option Endpoint) → first (if_open fd e f).rows ≡ None → Q (if_open fd e f).outcome
    by None n = done (Refused TBADF)
    by (Some e) n = h e n

-- a call on an open endpoint, whose outcome is a reply
pub replies : (c : Call) (g : Go) (p : Providers) (w : World) (fd : ℕ) (f : Endpoint → Plan) →
    ((e : Endpoint) → Falls c g (f e).outcome) → IfSome (step_of p w (on_open p w fd f)) (λ s. Falls c g s.outcome)
replies c g p w fd f h = on_open-outcome (Falls c g) (λ r. tt) p w fd f (λ e n. h e)

-- where no row holds, each of them does not
pub first-none : (rows : List Row) → first rows ≡ None → AllByRecursion (λ row. row.holds ≡ false) rows
first-none [] n = tt
first-none (row ∷ rows) n = by row.holds refl n (first-none rows)
  where
    by : (b : Bool) → row.holds ≡ b → (if b then Some row.refusal else first rows) ≡ None → (first rows ≡ None → AllByRecursion (λ row. row.holds ≡ false) rows) →
        (row.holds ≡ false) × AllByRecursion (λ row. row.holds ≡ false) rows
    by true e n ih = absurd (none-some row.refusal (sym n))
    by false e n ih = (e, ih n)

pub later-none : (taken : ℕ) (rows : List Row) → first (map (later_row taken) rows) ≡ None → first rows ≡ None
later-none taken [] n = refl
later-none taken (row ∷ rows) n = by row.holds n (later-none taken rows)
  where
    by : (b : Bool) → (if b then Some (later taken row.refusal) else first (map (later_row taken) rows)) ≡ None →
        (first (map (later_row taken) rows) ≡ None → first rows ≡ None) → (if b then Some row.refusal else first rows) ≡ None
    by true n ih = absurd (none-some (later taken row.refusal) (sym n))
    by false n ih = ih n

pub later_plan-outcome : (Q : Outcome → Type 0) → ((r : Reply) → Q (Done r)) → (p : Providers) (w : World) (taken fd : ℕ) (f : Endpoint → Plan) →
    ((e : Endpoint) → first (f e).rows ≡ None → Q (f e).outcome) → IfSome (step_of p w (later_plan taken (on_open p w fd f))) (λ s. Q s.outcome)
later_plan-outcome Q done p w taken fd f h = step_of-outcome Q done p w (later_plan taken (on_open p w fd f)) (by (endpoint p w fd))
  where
    by : (e : Option Endpoint) → first (later_plan taken (if_open fd e f)).rows ≡ None → Q (later_plan taken (if_open fd e f)).outcome
    by None n = done (Refused TBADF)
    by (Some e) n = h e (later-none taken (f e).rows n)

-- a connect goes on only with an address
pub connects : (fd : ℕ) (addr opt udata : List ℕ) (e : Endpoint) (found : Option Connect.Found) → first (Connect.plan_to fd addr opt udata e found).rows ≡ None → 0 < length addr
connects fd addr opt udata e found n = named (length addr) (first-none (Connect.rows addr opt udata e) n).1.1.0
  where
    named : (n : ℕ) → ((n == 0) || nat_lt 64 n) ≡ false → 0 < n
    named n h = grind (arith, nat_tests)

pub room_left : (waiting bound ends most : ℕ) → not (nat_lt waiting bound && nat_lt ends most) ≡ false → 0 < bound - waiting
room_left waiting bound ends most h = grind (arith, nat_tests)

pub goes_on : (total taken room n : ℕ) → taken ≤ total → 0 < room → n ≡ taken + min (total - taken) room → (n == total) ≡ false → (n ≤ total) × (total - n < total - taken)
goes_on total taken room n k r e h = let ne : n ≢ total = grind (arith, nat_tests) in (omega arith, omega arith)

-- where a send goes on, it has taken a byte or more, and not all
pub sends : (p : Providers) (parts : ℕ) (bytes : List ℕ) (flags taken : ℕ) (e : Endpoint) (peer : Option Endpoint) (Q : Outcome → Type 0) → ((r : Reply) → Q (Done r)) →
    taken ≤ length bytes → ((n : ℕ) → (n ≤ length bytes) × (length bytes - n < length bytes - taken) → Q (Part n)) →
    (n : ℕ) → n ≡ taken + Send.taken_now peer e (is_expedited flags) (length bytes - taken) →
    first (Send.rows p parts bytes flags taken peer e) ≡ None → Q (Send.outcome e (length bytes) n)
sends p parts bytes flags taken e peer Q done k part n now h = by (n == length bytes) refl
  where
    room : 0 < room_for (is_expedited flags) e peer
    room = room_left (bytes_waiting (waiting (is_expedited flags) peer)) (byte_bound (is_expedited flags) e peer) (ends_waiting (waiting (is_expedited flags) peer)) (end_bound (is_expedited flags))
        (first-none (Send.rows p parts bytes flags taken peer e) h).1.1.1.1.1.1.0

    waits_on : (b : Bool) → (n == length bytes) ≡ false → Q (if b then Done (Sent n) else Part n)
    waits_on true ne = done (Sent n)
    waits_on false ne = part n (goes_on (length bytes) taken (room_for (is_expedited flags) e peer) n k room now ne)

    by : (b : Bool) → (n == length bytes) ≡ b → Q (if b || e.nonblock then Done (Sent n) else Part n)
    by true q = done (Sent n)
    by false q = waits_on e.nonblock q

pub step-falls : (p : Providers) (w : World) (c : Call) (g : Go) → IsPossible c g → IfSome (step p w c g) (λ s. Falls c g s.outcome)
unfolding step plan
step-falls p w (call.TOpen prov nonblock) g k = step_of-outcome (Falls (call.TOpen prov nonblock) g) (λ r. tt) p w (Open.plan p w prov nonblock) (λ h. by (opening_place p (the_switch p w) prov))
  where
    by : (place : Option ℕ) → Falls (call.TOpen prov nonblock) g (Open.plan_where p (the_switch p w) prov nonblock place).outcome
    by None = tt
    by (Some place) = tt
step-falls p w (call.TClose fd) g k = replies (call.TClose fd) g p w fd.0 _ (λ e. tt)
step-falls p w (call.TBind fd addr qlen amax) g k = replies (call.TBind fd addr qlen amax) g p w fd.0 _ (λ e. tt)
step-falls p w (call.TUnbind fd) g k = replies (call.TUnbind fd) g p w fd.0 _ (λ e. tt)
step-falls p w (call.TConnect fd addr opt udata amax omax umax) go.Begin k =
    on_open-outcome (Falls (call.TConnect fd addr opt udata amax omax umax) go.Begin) (λ r. tt) p w fd.0 _ (λ e h. by e.nonblock (connects fd.0 addr opt udata e (Connect.found p w fd.0 addr e) h))
  where
    by : (b : Bool) → 0 < length addr → Falls (call.TConnect fd addr opt udata amax omax umax) go.Begin (if b then Done (Refused TNODATA) else Part 0)
    by true h = tt
    by false h = (tt, omega arith)
step-falls p w (call.TConnect fd addr opt udata amax omax umax) (go.More n) k = replies (call.TConnect fd addr opt udata amax omax umax) (go.More n) p w fd.0 _ (λ e. tt)
step-falls p w (call.TRcvConnect fd amax omax umax) g k = replies (call.TRcvConnect fd amax omax umax) g p w fd.0 _ (λ e. tt)
step-falls p w (call.TListen fd amax omax umax) g k = replies (call.TListen fd amax omax umax) g p w fd.0 _ (λ e. tt)
step-falls p w (call.TAccept fd resfd seq opt udata) g k = replies (call.TAccept fd resfd seq opt udata) g p w fd.0 _ (λ e. by e (endpoint p w resfd.0))
  where
    by : (e : Endpoint) (r : Option Endpoint) → Falls (call.TAccept fd resfd seq opt udata) g (Listen.accept_with p fd.0 resfd.0 seq.0 opt udata e r).outcome
    by e None = tt
    by e (Some r) = tt
step-falls p w (call.TSnd fd bytes flags) go.Begin k =
    on_open-outcome (Falls (call.TSnd fd bytes flags) go.Begin) (λ r. tt) p w fd.0 _
    (λ e h. sends p 1 bytes flags 0 e (linked p w fd.0 e) (Falls (call.TSnd fd bytes flags) go.Begin) (λ r. tt) (omega arith) (λ n h. (h.0, omega (arith, h.1))) _ refl h)
step-falls p w (call.TSnd fd bytes flags) (go.More n) k =
    later_plan-outcome (Falls (call.TSnd fd bytes flags) (go.More n)) (λ r. tt) p w n fd.0 _
    (λ e h. sends p 1 bytes flags n e (linked p w fd.0 e) (Falls (call.TSnd fd bytes flags) (go.More n)) (λ r. tt) k (λ m h. (h.0, omega (arith, h.1))) _ refl h)
step-falls p w (call.TSndV fd parts flags) go.Begin k =
    on_open-outcome (Falls (call.TSndV fd parts flags) go.Begin) (λ r. tt) p w fd.0 _
    (λ e h. sends p (length parts) (concat parts) flags 0 e (linked p w fd.0 e) (Falls (call.TSndV fd parts flags) go.Begin) (λ r. tt) (omega arith) (λ n h. (h.0, omega (arith, h.1))) _ refl h)
step-falls p w (call.TSndV fd parts flags) (go.More n) k =
    later_plan-outcome (Falls (call.TSndV fd parts flags) (go.More n)) (λ r. tt) p w n fd.0 _
    (λ e h. sends p (length parts) (concat parts) flags n e (linked p w fd.0 e) (Falls (call.TSndV fd parts flags) (go.More n)) (λ r. tt) k (λ m h. (h.0, omega (arith, h.1))) _ refl h)
step-falls p w (call.TRcv fd max) g k = replies (call.TRcv fd max) g p w fd.0 _ (λ e. tt)
step-falls p w (call.TRcvV fd sizes) g k = replies (call.TRcvV fd sizes) g p w fd.0 _ (λ e. tt)
step-falls p w (call.TSndDis fd seq udata) g k = replies (call.TSndDis fd seq udata) g p w fd.0 _ (λ e. tt)
step-falls p w (call.TRcvDis fd umax) g k = replies (call.TRcvDis fd umax) g p w fd.0 _ (λ e. tt)
step-falls p w (call.TSndRel fd) g k = replies (call.TSndRel fd) g p w fd.0 _ (λ e. tt)
step-falls p w (call.TRcvRel fd) g k = replies (call.TRcvRel fd) g p w fd.0 _ (λ e. tt)
step-falls p w (call.TSndRelData fd udata) g k = replies (call.TSndRelData fd udata) g p w fd.0 _ (λ e. tt)
step-falls p w (call.TRcvRelData fd umax) g k = replies (call.TRcvRelData fd umax) g p w fd.0 _ (λ e. tt)
step-falls p w (call.TSndUData fd addr opt bytes) g k = replies (call.TSndUData fd addr opt bytes) g p w fd.0 _ (λ e. tt)
step-falls p w (call.TSndVUData fd addr opt parts) g k = replies (call.TSndVUData fd addr opt parts) g p w fd.0 _ (λ e. tt)
step-falls p w (call.TRcvUData fd max amax omax) g k = replies (call.TRcvUData fd max amax omax) g p w fd.0 _ (λ e. tt)
step-falls p w (call.TRcvVUData fd sizes amax omax) g k = replies (call.TRcvVUData fd sizes amax omax) g p w fd.0 _ (λ e. tt)
step-falls p w (call.TRcvUDErr fd amax omax) g k = replies (call.TRcvUDErr fd amax omax) g p w fd.0 _ (λ e. tt)
step-falls p w (call.TLookAt fd) g k = replies (call.TLookAt fd) g p w fd.0 _ (λ e. tt)
step-falls p w (call.TGetState fd) g k = replies (call.TGetState fd) g p w fd.0 _ (λ e. tt)
step-falls p w (call.TSync fd) g k = replies (call.TSync fd) g p w fd.0 _ (λ e. tt)
step-falls p w (call.TGetInfo fd) g k = replies (call.TGetInfo fd) g p w fd.0 _ (λ e. tt)
step-falls p w (call.TGetProtAddr fd amax pmax) g k = replies (call.TGetProtAddr fd amax pmax) g p w fd.0 _ (λ e. tt)
step-falls p w (call.TOptMgmt fd action opt omax) g k = replies (call.TOptMgmt fd action opt omax) g p w fd.0 _ (λ e. tt)
step-falls p w (call.SetMode fd nonblock) g k = replies (call.SetMode fd nonblock) g p w fd.0 _ (λ e. tt)
