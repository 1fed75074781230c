-- What a socket sees of a seat.
use Rattle.std.specs.Prelude.{◌≡◌, ℕ, Result, Err, None, is_none}
use Rattle.xti_model.specs.declared.entry.Reply.{Reply}
use Rattle.xti_model.specs.History.{unfinished_from}
use Rattle.xti_hall_rule.specs.declared.view.View.{View}
use Rattle.xti_hall_rule.specs.declared.view.Mark.TheVariants.{Resting}
use Rattle.xti_hall.specs.declared.stall.Stall.{Stall}
use Rattle.xti_hall.specs.Stalls.{IsStall}
use Rattle.xti_wants.specs.declared.want.Want.{Want}
use Rattle.xti_calls.specs.declared.calling.Halt.{Halt}
use Rattle.xti_calls.specs.declared.calling.Halt.TheVariants as halt
use Rattle.xti_sock.specs.Sights.{Sight}
use Rattle.xti_sock.specs.declared.caller.CallEnd.{CallEnd}
use Rattle.xti_sock.specs.declared.caller.CallEnd.TheVariants.{OutOfMemory, Stalled}

abbrev pub sight_of : View → Sight
sight_of v = record {
  providers = v.setting.providers;
  number = v.number;
  seen = v.seen;
  mine = v.mine;
  free = is_none (unfinished_from None None v.mine);
}

-- what a stop of a call is to a socket
abbrev pub end_of : Halt → CallEnd
end_of (halt.OutOfMemory taken) = OutOfMemory taken
end_of (halt.Stalled taken stall) = Stalled taken stall.at

-- a call that stopped as nobody could go on: each seat that is out rests there, or waits for what is blocked; this one counts as
-- resting from now on
pub record IsStalled (v : View) (at : ℕ) : Type 0 where
  pub want : Want
  pub stall : Stall
  pub is_stall : IsStall v want stall
  pub at_is : at ≡ stall.at
  pub rests : v.mark ≡ Resting

abbrev pub TellsStall : Result Reply CallEnd → View → Type 0
TellsStall (Err (Stalled taken at)) v = IsStalled v at
TellsStall other v = Unit {0}
