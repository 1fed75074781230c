-- Main's seat while it makes worker 0's calls.
use Rattle.std.specs.Prelude.{◌≡◌, List, None, true}
use Rattle.xti_model.specs.declared.script.Line.{Line}
use Rattle.xti_model.specs.Robin.{is_through}
use Rattle.xti_model.specs.Following.{IsFollowed}
use Rattle.xti_hall_rule.specs.Rule.{newcomer}
use Rattle.xti_hall.specs.Seats.{SeatView, IsStanding}
use Rattle.xti_gather.specs.Cells.{whole}
use Rattle.xti_calls.specs.declared.shared.Xti.{Xti}
use Rattle.xti_calls.specs.Library.{IsOf, providers_of}
use Rattle.xti_replay.specs.declared.workers.Worker.{Worker}
use Rattle.xti_replay.specs.Progress.{Told}

-- the first seat of a library that keeps its history, before the first call
abbrev pub IsNewMain : Xti → SeatView → Type 0
IsNewMain x s = IsOf x s × (s.view ≡ newcomer (whole (providers_of x) true))

-- its own entries are calls of worker 0's lines, in order, each once; its spare numbers are all but 0
pub record HasSetUp (x : Xti) (lines : List Line) (s : SeatView) : Type 0 where
  pub of_x : IsOf x s
  pub number_is : s.view.number ≡ 0
  pub next_is : s.view.next ≡ 1
  pub standing : IsStanding s.view
  pub follows : IsFollowed lines s.view.mine 0

-- and what worker 0 knows
pub record SetsUp (x : Xti) (lines : List Line) (s : SeatView) (w : Worker) : Type 0 where
  pub seat : HasSetUp x lines s
  pub told : Told lines s.view.mine 0 w

-- worker 0 has made a line, and no call of it is part way
abbrev pub LineMade : Xti → List Line → SeatView → Worker → Type 0
LineMade x lines s w = SetsUp x lines s w × (w.part ≡ None)

-- worker 0 has made all its lines
abbrev pub AllMade : Xti → List Line → SeatView → Worker → Type 0
AllMade x lines s w = SetsUp x lines s w × (is_through lines s.view.mine 0 ≡ true)
