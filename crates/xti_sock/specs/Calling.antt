-- What a call tells the one who makes it.
use Rattle.std.specs.Prelude.{◌≡◌, true, Result, MatchResult, OnOk}
use Rattle.xti_model.specs.declared.call.Call.{Call}
use Rattle.xti_model.specs.declared.entry.Reply.{Reply}
use Rattle.xti_sock.specs.Sights.{Sight, IsStanding, Later}
use Rattle.xti_sock.specs.SightSteps.{Answered, Stopped, StoppedAtStall}
use Rattle.xti_sock.specs.declared.caller.CallEnd.{CallEnd}
use Rattle.xti_sock.specs.declared.caller.CallEnd.TheVariants.{OutOfMemory, Stalled}

-- why it has no answer
abbrev pub Halted : Call → Sight → Sight → CallEnd → Type 0
Halted c s t (OutOfMemory taken) = Stopped c s t taken
Halted c s t (Stalled taken at) = StoppedAtStall c s t taken at

-- the call was made, and answered so
pub record Calls (s : Sight) (c : Call) (result : Result Reply CallEnd) (t : Sight) : Type 0 where
  pub later : Later s t
  pub standing : IsStanding t
  pub made : MatchResult result (Answered c s t) (Halted c s t)
  pub free : OnOk result (t.free ≡ true)
