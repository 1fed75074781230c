-- Which steps may run out of memory.
use Rattle.std.specs.Prelude.{◌||◌, ◌&&◌, Bool, true, false, Option, Some, None, is_some}
use Rattle.xti_model.specs.declared.call.Call.{Call}
use Rattle.xti_model.specs.declared.call.Call.TheVariants as call
use Rattle.xti_model.specs.declared.entry.Go.{Go}
use Rattle.xti_model.specs.declared.profile.Providers.{Providers}
use Rattle.xti_model.specs.Endpoint.{Endpoint}
use Rattle.xti_model.specs.Events.{some_wait}
use Rattle.xti_model.specs.Plan.{has_effect}
use Rattle.xti_model.specs.Step.{first_refusal}
use Rattle.xti_model.specs.World.{World, endpoint}

-- others hear of a close: whoever it is connected to or asks, and whoever asks it
abbrev pub has_others : Option Endpoint → Bool
has_others None = false
has_others (Some e) = is_some e.peer || is_some e.target || some_wait e.pending || some_wait e.outstanding

-- the calls whose effect may take memory
abbrev pub takes_memory : Providers → World → Call → Bool
takes_memory p w (call.TOpen prov nonblock) = false
takes_memory p w (call.TClose fd) = has_others (endpoint p w fd.0)
takes_memory p w (call.TUnbind fd) = false
takes_memory p w (call.TLookAt fd) = false
takes_memory p w (call.TGetState fd) = false
takes_memory p w (call.TSync fd) = false
takes_memory p w (call.TGetInfo fd) = false
takes_memory p w (call.SetMode fd nonblock) = false
takes_memory p w other = true

-- a step without an effect, refused or blocked, takes none
abbrev pub may_run_out : Providers → World → Call → Go → Bool
may_run_out p w c g = takes_memory p w c && has_effect (first_refusal p w c g)
