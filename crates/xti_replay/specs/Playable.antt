-- Scripts that can be played.
use Rattle.std.specs.Prelude.{◌≡◌, ◌+◌, ◌≤◌, Bool, true, List, length, nat_lt, IsTrue}
use Rattle.std.specs.List.{list_all}
use Rattle.xti_base.specs.declared.limits.TheConstants.{WORKERS}
use Rattle.xti_model.specs.declared.script.Line.{Line}
use Rattle.xti_model.specs.declared.script.Script.{Script}
use Rattle.xti_model.specs.Profile.{valid}
use Rattle.xti_model.specs.Work.{script_bytes}
use Rattle.xti_model.specs.Robin.{most_steps}

-- of a worker that a script may have
abbrev pub is_playable : Line → Bool
is_playable line = nat_lt line.worker WORKERS

abbrev pub are_playable : List Line → Bool
are_playable lines = list_all is_playable lines

-- the providers' values are valid, each line can be played, and the lines and the bytes of their arguments are within the bound on steps
pub record IsPlayable (s : Script) : Type 0 where
  pub providers : valid s.providers ≡ true
  pub lines : IsTrue (are_playable s.lines)
  pub bound : length s.lines + script_bytes s.lines ≤ most_steps
