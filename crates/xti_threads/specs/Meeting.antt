-- Main's seat after the setup, before the threads start and after they have ended.
use Rattle.std.specs.Prelude.{◌≡◌, ◌+◌, ◌<◌, ℕ, List, Vec, Option, MatchOption, true, vec_len}
use Rattle.std.specs.declared.alloc.Global.{Global}
use Rattle.std.specs.List.{list_all}
use mathlib.Core.List.{IsPrefix}
use Rattle.xti_base.specs.declared.limits.TheConstants.{WORKERS}
use Rattle.xti_model.specs.declared.entry.Entry.{Entry}
use Rattle.xti_model.specs.declared.script.Line.{Line}
use Rattle.xti_model.specs.Robin.{is_through}
use Rattle.xti_model.specs.Complete.{Follows, IsHistoryOf, is_setup}
use Rattle.xti_hall_rule.specs.Histories.{own}
use Rattle.xti_hall.specs.Seats.{SeatView, IsStanding}
use Rattle.xti_calls.specs.declared.shared.Xti.{Xti}
use Rattle.xti_calls.specs.Library.{IsOf, providers_of}
use Rattle.xti_replay.specs.declared.workers.Worker.{Worker}
use Rattle.xti_threads.specs.declared.working.Job.{Job}
use Rattle.xti_threads.specs.Working.{AfterSetup}
use Rattle.xti_threads.specs.Setting.{HasSetUp}
use Rattle.xti_threads.specs.Starting.{AllBack, AllJobs, AllTold}

-- worker 0 alone has made calls, those of its lines, and is finished
pub record IsSetUp (lines : List Line) (past : List Entry) : Type 0 where
  pub alone : list_all is_setup past ≡ true
  pub follows : Follows past lines 0
  pub finished : is_through lines past 0 ≡ true

-- main's seat, which has made the calls of the setup and no more
pub record Leads (x : Xti) (setup : List Entry) (next : ℕ) (s : SeatView) : Type 0 where
  pub of_x : IsOf x s
  pub next_is : s.view.next ≡ next
  pub number_is : s.view.number ≡ 0
  pub mine : s.view.mine ≡ own 0 setup
  pub begins : IsPrefix setup s.view.seen
  pub standing : IsStanding s.view

-- and has seen no more
pub record Before (x : Xti) (setup : List Entry) (next : ℕ) (s : SeatView) : Type 0 where
  pub of_x : IsOf x s
  pub next_is : s.view.next ≡ next
  pub number_is : s.view.number ≡ 0
  pub mine : s.view.mine ≡ own 0 setup
  pub seen : s.view.seen ≡ setup
  pub standing : IsStanding s.view

-- main's seat rests after the setup, and these are the seats of all others
pub record AllPlayed (x : Xti) (lines : List Line) (main : SeatView) (seats : Vec SeatView Global) : Type 0 where
  pub many : vec_len seats < WORKERS
  pub past : List Entry
  pub set_up : IsSetUp lines past
  pub leads : Leads x past (vec_len seats + 1) main
  pub back : AllBack x lines past seats.items

-- after some setup main's seat has seen no more, and these workers, from 1 on, have begun no line
abbrev pub MaySeat : Xti → List Line → SeatView → List Worker → Type 0
MaySeat x lines main workers = (past : List Entry) × Before x past 1 main × AllTold lines past workers

-- whatever the setup was, these are the jobs of the workers, and main's seat has seen no more
abbrev pub HasSeated : Xti → List Line → SeatView → Vec Worker Global → SeatView → Vec Job Global → Type 0
HasSeated x lines old workers new jobs = (past : List Entry) → Before x past 1 old → AllTold lines past workers.items → AllJobs x lines past jobs.items × Before x past (vec_len workers + 1) new

-- worker 0 is finished after some setup, and knows it; main's seat has seen no more, and the other workers have begun no line
abbrev pub MayPlayOthers : Xti → List Line → Worker → SeatView → List Worker → Type 0
MayPlayOthers x lines setup main workers = (past : List Entry) × AfterSetup lines past setup × IsSetUp lines past × Before x past 1 main × AllTold lines past workers

-- main's seat alone has made calls, or it rests and these are the seats of all others
abbrev pub HasPlayed : Xti → List Line → SeatView → Option (Vec SeatView Global) → Type 0
HasPlayed x lines main seats = MatchOption seats (HasSetUp x lines main) (AllPlayed x lines main)

-- in whichever library all have played, what main's seat has seen is a history of the lines
abbrev pub TellsHistory : List Line → SeatView → Vec SeatView Global → Type 0
TellsHistory lines main seats = (x : Xti) → AllPlayed x lines main seats → IsHistoryOf (providers_of x) lines main.view.seen
