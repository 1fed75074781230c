-- Worker 0's calls by main's seat are those of its lines.
use Rattle.std.proofs.Common.{◌≡◌, List, [], Some, None, refl, ◌∙◌, arith, inl}
use Rattle.xti_model.specs.declared.call.Call.{Call}
use Rattle.xti_model.specs.declared.script.Line.{Line}
use Rattle.xti_hall.specs.Seats.{SeatView, IsStanding}
use Rattle.xti_calls.specs.declared.shared.Xti.{Xti}
use Rattle.xti_calls.specs.Library.{GoesOn}
use Rattle.xti_replay.specs.declared.workers.Worker.{Worker}
use Rattle.xti_replay.specs.Progress.{IsNext}
use Rattle.xti_threads.specs.Working.{HasAnswer, HasSteps}
use Rattle.xti_threads.specs.Setting.{HasSetUp, SetsUp}
use Rattle.xti_threads.proofs.Between.{Between, between-follows, between-told}
use Rattle.xti_threads.proofs.Works.{of-later, steps-answered}

-- worker 0 between two of its lines
pub sets-between : {x : Xti} {lines : List Line} {s : SeatView} {w : Worker} → SetsUp x lines s w → w.part ≡ None → Between lines [] 0 s.view w w
sets-between {x} {lines} {s} {w} k whole = record {
  others = refl;
  number = k.seat.number_is;
  standing = k.seat.standing;
  may = record { setup = inl refl; within = λ l. omega arith };
  follows = k.seat.follows;
  told = k.told;
  setup_told = k.told;
  whole = whole;
}

module _ {x : Xti} {lines : List Line} {s : SeatView} {w : Worker} (k : SetsUp x lines s w) (b : Between lines [] 0 s.view w w) (c : Call) (next : IsNext lines s.view.mine 0 (Some c)) (s' : SeatView) (on : GoesOn s s') (standing : IsStanding s'.view) where
  -- the seat after some steps of the call of the next line
  pub sets-back : HasSteps s.view c s'.view → HasSetUp x lines s'
  sets-back m = record {
    of_x = of-later x s s' k.seat.of_x on;
    number_is = on.1.number ∙ k.seat.number_is;
    next_is = on.1.next ∙ k.seat.next_is;
    standing = standing;
    follows = between-follows b c s'.view m.steps next standing on.1 m.mine m.are;
  }

  -- and worker 0, where the call was answered
  pub sets-on : (new : Worker) → HasAnswer lines s.view c s'.view w new → SetsUp x lines s' new
  sets-on new m = record {
    seat = sets-back (steps-answered m.answered);
    told = between-told b c s'.view new m.reply next standing on.1 m.answered m.begun;
  }
