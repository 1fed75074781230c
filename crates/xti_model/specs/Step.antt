-- One step of a world: what each call does, and what is answered.
use Rattle.std.specs.Prelude.{ℕ, Bool, List, [], length, sum, Option, Some, None, is_none, if◌then◌else◌}
use Rattle.std.specs.List.{concat}
use Rattle.xti_base.specs.declared.kinds.State.{State}
use Rattle.xti_model.specs.declared.call.Call.{Call}
use Rattle.xti_model.specs.declared.call.Call.TheVariants as call
use Rattle.xti_model.specs.declared.entry.Go.{Go}
use Rattle.xti_model.specs.declared.entry.Go.TheVariants as go
use Rattle.xti_model.specs.declared.entry.Outcome.{Outcome}
use Rattle.xti_model.specs.declared.entry.Outcome.TheVariants.{Done}
use Rattle.xti_model.specs.declared.entry.Reply.TheVariants.{Overflow}
use Rattle.xti_model.specs.declared.profile.Providers.{Providers}
use Rattle.xti_model.specs.World.{World, endpoint, state_of, changed}
use Rattle.xti_model.specs.Plan.{Plan, Refusal, answers, waits, loses, first, later_plan}
use Rattle.xti_model.specs.Calls.Open as Open
use Rattle.xti_model.specs.Calls.Close as Close
use Rattle.xti_model.specs.Calls.Bind as Bind
use Rattle.xti_model.specs.Calls.Connect as Connect
use Rattle.xti_model.specs.Calls.Listen as Listen
use Rattle.xti_model.specs.Calls.Send as Send
use Rattle.xti_model.specs.Calls.Receive as Receive
use Rattle.xti_model.specs.Calls.Disconnect as Disconnect
use Rattle.xti_model.specs.Calls.Release as Release
use Rattle.xti_model.specs.Calls.Datagrams as Datagrams
use Rattle.xti_model.specs.Calls.Show as Show

-- a send begins, or goes on with so many bytes taken
abbrev pub send : Providers → World → ℕ → ℕ → List ℕ → ℕ → Go → Plan
send p w fd parts bytes flags go.Begin = Send.plan p w fd parts bytes flags 0
send p w fd parts bytes flags (go.More n) = later_plan n (Send.plan p w fd parts bytes flags n)

-- the second step takes the confirmation
abbrev pub connect : Providers → World → ℕ → List ℕ → List ℕ → List ℕ → ℕ → ℕ → ℕ → Go → Plan
connect p w fd address options udata amax omax umax go.Begin = Connect.plan p w fd address options udata
connect p w fd address options udata amax omax umax (go.More n) = Connect.confirm_plan p w fd amax omax umax

-- what a call does
unfoldable pub plan : Providers → World → Call → Go → Plan
plan p w (call.TOpen prov nonblock) go = Open.plan p w prov nonblock
plan p w (call.TClose fd) go = Close.plan p w fd.0
plan p w (call.TBind fd addr qlen amax) go = Bind.plan p w fd.0 addr qlen amax
plan p w (call.TUnbind fd) go = Bind.unbind_plan p w fd.0
plan p w (call.TConnect fd addr opt udata amax omax umax) go = connect p w fd.0 addr opt udata amax omax umax go
plan p w (call.TRcvConnect fd amax omax umax) go = Connect.confirm_plan p w fd.0 amax omax umax
plan p w (call.TListen fd amax omax umax) go = Listen.listen_plan p w fd.0 amax omax umax
plan p w (call.TAccept fd resfd seq opt udata) go = Listen.accept_plan p w fd.0 resfd.0 seq.0 opt udata
plan p w (call.TSnd fd bytes flags) go = send p w fd.0 1 bytes flags go
plan p w (call.TSndV fd parts flags) go = send p w fd.0 (length parts) (concat parts) flags go
plan p w (call.TRcv fd max) go = Receive.plan p w fd.0 1 max
plan p w (call.TRcvV fd sizes) go = Receive.plan p w fd.0 (length sizes) (sum sizes)
plan p w (call.TSndDis fd seq udata) go = Disconnect.send_plan p w fd.0 seq.0 udata
plan p w (call.TRcvDis fd umax) go = Disconnect.receive_plan p w fd.0 umax
plan p w (call.TSndRel fd) go = Release.send_plan p w fd.0 []
plan p w (call.TRcvRel fd) go = Release.receive_plan p w fd.0
plan p w (call.TSndRelData fd udata) go = Release.send_plan p w fd.0 udata
plan p w (call.TRcvRelData fd umax) go = Release.receive_data_plan p w fd.0 umax
plan p w (call.TSndUData fd addr opt bytes) go = Datagrams.send_plan p w fd.0 addr opt 1 bytes
plan p w (call.TSndVUData fd addr opt parts) go = Datagrams.send_plan p w fd.0 addr opt (length parts) (concat parts)
plan p w (call.TRcvUData fd max amax omax) go = Datagrams.receive_plan p w fd.0 1 max amax omax
plan p w (call.TRcvVUData fd sizes amax omax) go = Datagrams.receive_plan p w fd.0 (length sizes) (sum sizes) amax omax
plan p w (call.TRcvUDErr fd amax omax) go = Datagrams.error_plan p w fd.0 amax omax
plan p w (call.TLookAt fd) go = Show.look_plan p w fd.0
plan p w (call.TGetState fd) go = Show.state_plan p w fd.0
plan p w (call.TSync fd) go = Show.state_plan p w fd.0
plan p w (call.TGetInfo fd) go = Show.info_plan p w fd.0
plan p w (call.TGetProtAddr fd amax pmax) go = Show.addresses_plan p w fd.0 amax pmax
plan p w (call.TOptMgmt fd action opt omax) go = Show.option_plan p w fd.0 action opt omax
plan p w (call.SetMode fd nonblock) go = Show.mode_plan p w fd.0 nonblock

-- the first refusal that holds
abbrev pub first_refusal : Providers → World → Call → Go → Option Refusal
first_refusal p w c go = first (plan p w c go).rows

-- what is answered, the state of the call's endpoint afterwards, and the next world
pub record Step : Type 0 where
  pub outcome : Outcome
  pub after : State
  pub world : World

-- the outcome, and the state of the endpoint in the new world
abbrev pub made : Providers → ℕ → Outcome → World → Step
made p fd outcome w = record { outcome = outcome; after = state_of (endpoint p w fd); world = w }

-- by the first row that holds
abbrev pub step_by : Providers → World → Plan → Option Refusal → Option Step
step_by p w plan None = Some (made p plan.fd plan.outcome (changed p w plan.changes))
step_by p w plan (Some (answers reply)) = Some (made p plan.fd (Done reply) w)
step_by p w plan (Some (waits reply)) = if plan.nonblock then Some (made p plan.fd (Done reply) (changed p w plan.marks)) else None
step_by p w plan (Some loses) = Some (made p plan.fd (Done (Overflow (record { 0 = plan.lost_number }))) (changed p w plan.lost))

-- the step that a plan is
abbrev pub step_of : Providers → World → Plan → Option Step
step_of p w plan = step_by p w plan (first plan.rows)

-- the step, or none where it is blocked
unfoldable pub step : Providers → World → Call → Go → Option Step
step p w c go = step_of p w (plan p w c go)

-- the step can't be made now
abbrev pub is_blocked : Providers → World → Call → Go → Bool
is_blocked p w c go = is_none (step p w c go)
