-- How many indications are outstanding after a step: the state table's change of ocnt.
use Rattle.std.specs.Prelude.{ℕ, ◌+◌, ◌-◌, ◌==◌, ◌≡◌, true, false, Some, is_some}
use Rattle.xti_base.specs.declared.kinds.State.{State}
use Rattle.xti_base.specs.declared.kinds.State.TheVariants.{T_INCON}
use Rattle.xti_model.specs.declared.call.Call.{Call}
use Rattle.xti_model.specs.declared.call.Call.TheVariants as call
use Rattle.xti_model.specs.declared.entry.Go.{Go}
use Rattle.xti_model.specs.declared.profile.Providers.{Providers}
use Rattle.xti_model.specs.Endpoint.{Endpoint, find_number}
use Rattle.xti_model.specs.World.{World, endpoint}
use Rattle.xti_model.specs.Events.{some_wait}
use Rattle.xti_model.specs.Plan.{has_effect}
use Rattle.xti_model.specs.Step.{first_refusal}
use Rattle.xti_model.specs.StateTable.{Move, by_listen, by_accept_here, by_accept_there, by_snddis, by_rcvdis, by_close, move_of}
use Rattle.xti_model.specs.Calls.Disconnect.{is_asked, oldest}
use Rattle.xti_laws.specs.States.{state_at, ocnt_of, told, next, OpensWhereItAgrees}

-- a listen has one more outstanding; an accept one less, and so in T_INCON a snddis or rcvdis; a closed endpoint has none
abbrev pub count_after : Move → State → ℕ → ℕ
count_after by_listen from ocnt = ocnt + 1
count_after by_accept_here from ocnt = ocnt - 1
count_after by_accept_there from ocnt = ocnt - 1
count_after by_snddis T_INCON ocnt = ocnt - 1
count_after by_rcvdis T_INCON ocnt = ocnt - 1
count_after by_close from ocnt = 0
count_after other from ocnt = ocnt

abbrev pub ocnt_at : Providers → World → ℕ → ℕ
ocnt_at p w fd = ocnt_of (endpoint p w fd)

-- where a disconnect waits at a listener in T_INCON, the oldest is of an outstanding indication
abbrev pub OldestIsOutstanding : Endpoint → Type 0
OldestIsOutstanding e = is_asked e ≡ true → some_wait e.disconnects ≡ true → is_some (find_number (oldest e).number e.outstanding) ≡ true

-- so it is at the endpoint where a rcvdis takes one
abbrev pub TakesOutstanding : Providers → World → Call → Type 0
TakesOutstanding p w (call.TRcvDis fd umax) = (e : Endpoint) → endpoint p w fd.0 ≡ Some e → OldestIsOutstanding e
TakesOutstanding p w other = Unit

-- so it is wherever a rcvdis takes one
abbrev pub AlwaysTakesOutstanding : Providers → World → Type 0
AlwaysTakesOutstanding p w = (c : Call) → TakesOutstanding p w c

-- a step with an effect changes the count of the call's endpoint by its row
abbrev pub CountsByTheTable : Providers → World → Call → Go → Type 0
CountsByTheTable p w c g =
    OpensWhereItAgrees p w c → TakesOutstanding p w c → has_effect (first_refusal p w c g) ≡ true →
    ocnt_at p (next p w c g) (told p w c g) ≡ count_after (move_of c g) (state_at p w (told p w c g)) (ocnt_at p w (told p w c g))

-- a step without an effect leaves every count
abbrev pub KeepsEveryCount : Providers → World → Call → Go → Type 0
KeepsEveryCount p w c g = has_effect (first_refusal p w c g) ≡ false → (x : ℕ) → ocnt_at p (next p w c g) x ≡ ocnt_at p w x

-- every step leaves the counts of all others
abbrev pub KeepsOtherCounts : Providers → World → Call → Go → Type 0
KeepsOtherCounts p w c g = OpensWhereItAgrees p w c → (x : ℕ) → (x == told p w c g) ≡ false → ocnt_at p (next p w c g) x ≡ ocnt_at p w x
