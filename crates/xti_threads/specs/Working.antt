-- What a worker's thread is given, and what it hands back.
use Rattle.std.specs.Prelude.{◌≡◌, ◌+◌, ◌<◌, ℕ, List, [], ◌++◌, None, true}
use Rattle.std.specs.List.{list_all}
use mathlib.Core.List.{IsPrefix}
use Rattle.xti_base.specs.declared.limits.TheConstants.{WORKERS}
use Rattle.xti_model.specs.declared.call.Call.{Call}
use Rattle.xti_model.specs.declared.entry.Entry.{Entry}
use Rattle.xti_model.specs.declared.entry.Go.TheVariants as go
use Rattle.xti_model.specs.declared.entry.Outcome.TheVariants.{Done}
use Rattle.xti_model.specs.declared.entry.Reply.{Reply}
use Rattle.xti_model.specs.declared.script.Line.{Line}
use Rattle.xti_model.specs.Robin.{is_through}
use Rattle.xti_model.specs.Complete.{is_setup}
use Rattle.xti_model.specs.Following.{IsFollowed}
use Rattle.xti_hall_rule.specs.declared.view.View.{View}
use Rattle.xti_hall.specs.Seats.{SeatView, IsStanding}
use Rattle.xti_calls.specs.declared.shared.Xti.{Xti}
use Rattle.xti_calls.specs.Calling.{Answered, AreSteps}
use Rattle.xti_calls.specs.Library.{IsOf}
use Rattle.xti_replay.specs.declared.workers.Worker.{Worker}
use Rattle.xti_replay.specs.Progress.{Told, LearnsNextLine}
use Rattle.xti_threads.specs.declared.stage.Shared.{Shared}
use Rattle.xti_threads.specs.declared.stage.Stage.{Stage}
use Rattle.xti_threads.specs.declared.working.Job.{Job}

-- worker 0 alone has made calls, and is finished; and what it knows
pub record AfterSetup (lines : List Line) (setup : List Entry) (w : Worker) : Type 0 where
  pub told : Told lines setup 0 w
  pub finished : is_through lines setup 0 ≡ true
  pub alone : list_all is_setup setup ≡ true

-- its next line is begun, and was answered so
pub record HasBegun (lines : List Line) (reply : Reply) (old new : Worker) : Type 0 where
  pub places : new.places ≡ old.places
  pub count : new.begun ≡ old.begun + 1
  pub whole : new.part ≡ None
  pub names : LearnsNextLine lines (Done reply) old new

-- some steps of the call were made, or none
pub record HasSteps (v : View) (c : Call) (v' : View) : Type 0 where
  pub steps : List Entry
  pub mine : v'.mine ≡ v.mine ++ steps
  pub are : AreSteps c go.Begin steps

-- the call was answered, and its worker knows what
pub record HasAnswer (lines : List Line) (v : View) (c : Call) (v' : View) (old new : Worker) : Type 0 where
  pub reply : Reply
  pub answered : Answered v c go.Begin v' reply
  pub begun : HasBegun lines reply old new

-- the call that the seat has made was answered, and its worker, which has begun its next line, knows what
abbrev pub Hears : {G R : Type 0} → Stage G R → SeatView → Call → SeatView → Worker → Worker → Type 0
Hears stage s c s' old new = HasAnswer stage.lines.now s.view c s'.view old new

module _ (x : Xti) (lines : List Line) (setup : List Entry) where
  -- the seat of the worker with this number, after the entries of the setup: its own entries are calls of its lines, in order, each once
  pub record CameBack (number : ℕ) (s : SeatView) : Type 0 where
    pub of_x : IsOf x s
    pub number_is : s.view.number ≡ number
    pub standing : IsStanding s.view
    pub seen : IsPrefix setup s.view.seen
    pub follows : IsFollowed lines (setup ++ s.view.mine) number

  -- the same between two of its lines, with what its worker knows
  pub record Works (number : ℕ) (s : SeatView) (w : Worker) : Type 0 where
    pub back : CameBack number s
    pub other : 0 < number
    pub small : number < WORKERS
    pub told : Told lines (setup ++ s.view.mine) number w

  -- a seat that has made no call, and its worker
  pub record IsJob (number : ℕ) (j : Job) : Type 0 where
    pub of_x : IsOf x j.seat
    pub number_is : j.seat.view.number ≡ number
    pub other : 0 < number
    pub small : number < WORKERS
    pub standing : IsStanding j.seat.view
    pub seen : j.seat.view.seen ≡ setup
    pub mine : j.seat.view.mine ≡ []
    pub told : Told lines setup number j.worker

-- the job of the worker with this number, whose seat has seen the setup alone
abbrev pub IsNewJob : Xti → List Line → ℕ → Job → Type 0
IsNewJob x lines number j = IsJob x lines j.seat.view.seen number j

-- the seat of this job, which has made calls of its worker's lines alone
abbrev pub JobBack : Xti → List Line → Job → ℕ → SeatView → Type 0
JobBack x lines j number s = CameBack x lines j.seat.view.seen number s

module _ {G R : Type 0} (shared : Shared G R) (number : ℕ) where
  -- worker 0 is finished after some setup, and this worker is between two of its lines
  abbrev pub MayWork : SeatView → Worker → Type 0
  MayWork s w = (past : List Entry) × AfterSetup shared.stage.lines.now past shared.setup.now × Works shared.xti.now shared.stage.lines.now past number s w

  -- whatever the setup was, the worker stays between two of its lines
  abbrev pub Stays : SeatView → Worker → SeatView → Worker → Type 0
  Stays s w s' w' = (past : List Entry) → AfterSetup shared.stage.lines.now past shared.setup.now → Works shared.xti.now shared.stage.lines.now past number s w → Works shared.xti.now shared.stage.lines.now past number s' w'

  -- whatever the setup was, the seat of a worker that was between two of its lines can come back
  abbrev pub MayComeBack : SeatView → Worker → SeatView → Type 0
  MayComeBack s w s' = (past : List Entry) → AfterSetup shared.stage.lines.now past shared.setup.now → Works shared.xti.now shared.stage.lines.now past number s w → CameBack shared.xti.now shared.stage.lines.now past number s'
