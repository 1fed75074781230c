-- Workers that were started, and their seats, in the order of their numbers.
use Rattle.std.specs.Prelude.{◌≡◌, ◌+◌, ℕ, List, [], ◌∷◌, Vec}
use Rattle.std.specs.declared.alloc.Global.{Global}
use Rattle.xti_model.specs.declared.entry.Entry.{Entry}
use Rattle.xti_model.specs.declared.script.Line.{Line}
use Rattle.xti_hall.specs.Seats.{SeatView}
use Rattle.xti_calls.specs.declared.shared.Xti.{Xti}
use Rattle.xti_replay.specs.declared.workers.Worker.{Worker}
use Rattle.xti_replay.specs.Progress.{Told}
use Rattle.xti_threads.specs.declared.working.Job.{Job}
use Rattle.xti_threads.specs.declared.starting.Started.{Started}
use Rattle.xti_threads.specs.declared.starting.Started.TheVariants.{Runs, Ended}
use Rattle.xti_threads.specs.Working.{AfterSetup, CameBack, IsJob}

-- of each member and its number
abbrev pub EachFrom : {X : Type 0} → (ℕ → X → Type 0) → ℕ → List X → Type 0
EachFrom P n [] = Unit {0}
EachFrom P n (x ∷ xs) = P n x × EachFrom P (n + 1) xs

-- workers that have begun no line, from 1 on
abbrev pub AllTold : List Line → List Entry → List Worker → Type 0
AllTold lines setup workers = EachFrom (Told lines setup) 1 workers

module _ (x : Xti) (lines : List Line) (setup : List Entry) where
  -- a thread whose promise is of this worker, or its seat
  abbrev pub HasStarted : ℕ → Started → Type 0
  HasStarted number (Runs h) =
      (h.promise.xti.now ≡ x) × (h.promise.lines.now ≡ lines) × (h.promise.was.value.seat.view.seen ≡ setup) × (h.promise.number ≡ number)
  HasStarted number (Ended s) = CameBack x lines setup number s

  abbrev pub AllStarted : ℕ → List Started → Type 0
  AllStarted n all = EachFrom HasStarted n all

  -- seats with the numbers from 1 on
  abbrev pub AllJobs : List Job → Type 0
  AllJobs jobs = EachFrom (IsJob x lines setup) 1 jobs

  abbrev pub AllBack : List SeatView → Type 0
  AllBack seats = EachFrom (CameBack x lines setup) 1 seats

-- a thread that has this job, or its seat
abbrev pub HasStartedJob : Xti → List Line → Job → ℕ → Started → Type 0
HasStartedJob x lines j number s = HasStarted x lines j.seat.view.seen number s

-- worker 0, which is this, is finished after some setup, and these are the jobs of the others
abbrev pub MayRun : Xti → List Line → Worker → Vec Job Global → Type 0
MayRun x lines w jobs = (past : List Entry) × AfterSetup lines past w × AllJobs x lines past jobs.items

-- whatever the setup was, each of these jobs was started
abbrev pub EachStarted : Xti → List Line → Vec Job Global → Vec Started Global → Type 0
EachStarted x lines jobs started = (past : List Entry) → AllJobs x lines past jobs.items → AllStarted x lines past 1 started.items

-- whatever the setup was, the seat of each of these jobs came back
abbrev pub EachBack : Xti → List Line → Vec Job Global → Vec SeatView Global → Type 0
EachBack x lines jobs seats = (past : List Entry) → AllJobs x lines past jobs.items → AllBack x lines past seats.items

-- it was started as some worker of some library
abbrev pub IsStarted : Started → Type 0
IsStarted started = (x : Xti) × (lines : List Line) × (setup : List Entry) × (number : ℕ) × HasStarted x lines setup number started

-- as whichever worker it was started, that worker's seat came back
abbrev pub HandsBack : Started → SeatView → Type 0
HandsBack started s = (x : Xti) (lines : List Line) (setup : List Entry) (number : ℕ) → HasStarted x lines setup number started → CameBack x lines setup number s

-- they were started as the workers of some library, from 1 on
abbrev pub AreStarted : List Started → Type 0
AreStarted all = (x : Xti) × (lines : List Line) × (setup : List Entry) × AllStarted x lines setup 1 all

-- as the workers of whichever library they were started, the seats of these came back
abbrev pub HandBackAll : List Started → List SeatView → Type 0
HandBackAll all seats = (x : Xti) (lines : List Line) (setup : List Entry) → AllStarted x lines setup 1 all → AllBack x lines setup seats
