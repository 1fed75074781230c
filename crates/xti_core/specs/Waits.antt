-- Calls that are blocked.
use Rattle.std.specs.Prelude.{ℕ, ◌≡◌, None}
use Rattle.xti_model.specs.declared.call.Call.{Call}
use Rattle.xti_model.specs.declared.entry.Go.{Go}
use Rattle.xti_model.specs.declared.profile.Providers.{Providers}
use Rattle.xti_model.specs.Calls.Datagrams.{receive_from}
use Rattle.xti_model.specs.Endpoint.{Endpoint}
use Rattle.xti_model.specs.Step.{step, step_of}
use Rattle.xti_model.specs.World.{World}

-- no step of the call can be made there
abbrev pub IsBlocked : Providers → World → Call → Type 0
IsBlocked p w call = (g : Go) → step p w call g ≡ None

-- whatever it asks for, a receive of a datagram is blocked there
abbrev pub AwaitsDatagram : Endpoint → Type 0
AwaitsDatagram e = (p : Providers) (w : World) (fd max amax omax : ℕ) → step_of p w (receive_from fd 1 max amax omax e) ≡ None
