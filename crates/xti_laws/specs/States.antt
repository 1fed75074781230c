-- What the law of states says: the states before and after a step are a row of the state table.
use Rattle.std.specs.Prelude.{ℕ, ◌==◌, ◌<◌, ◌≡◌, not, Bool, true, false, Option, Some, None}
use Rattle.xti_base.specs.Kinds.{same_state}
use Rattle.xti_base.specs.declared.kinds.State.{State}
use Rattle.xti_base.specs.declared.kinds.State.TheVariants.{T_UNINIT}
use Rattle.xti_model.specs.declared.call.Call.{Call}
use Rattle.xti_model.specs.declared.call.Call.TheVariants as call
use Rattle.xti_model.specs.declared.entry.Go.{Go}
use Rattle.xti_model.specs.declared.profile.Providers.{Providers}
use Rattle.xti_model.specs.Endpoint.{Endpoint, ocnt}
use Rattle.xti_model.specs.World.{World, Cell, endpoint_cell, switch_cell, endpoint, state_of, places, the_switch}
use Rattle.xti_model.specs.Switch.{opening_place}
use Rattle.xti_model.specs.Plan.{has_effect}
use Rattle.xti_model.specs.Step.{plan, step, first_refusal}
use Rattle.xti_model.specs.History.{left_by}
use Rattle.xti_model.specs.Sound.{AgreesAt}
use Rattle.xti_model.specs.StateTable.{move_of, passed, is_in_table}

abbrev pub state_at : Providers → World → ℕ → State
state_at p w fd = state_of (endpoint p w fd)

abbrev pub ocnt_of : Option Endpoint → ℕ
ocnt_of None = 0
ocnt_of (Some e) = ocnt e

-- the descriptor whose state is told
abbrev pub told : Providers → World → Call → Go → ℕ
told p w c g = (plan p w c g).fd

abbrev pub next : Providers → World → Call → Go → World
next p w c g = left_by w (step p w c g)

-- no open endpoint is in T_UNINIT
abbrev pub is_initialised : Option Endpoint → Bool
is_initialised None = true
is_initialised (Some e) = not (same_state e.state T_UNINIT)

abbrev pub AllInitialised : Providers → World → Type 0
AllInitialised p w = (fd : ℕ) → is_initialised (endpoint p w fd) ≡ true

abbrev pub is_initialised_cell : Cell → Bool
is_initialised_cell (endpoint_cell generation body) = is_initialised body
is_initialised_cell (switch_cell s) = true

-- where a place opens, the switch agrees with its cell
abbrev pub OpensWhereItAgrees : Providers → World → Call → Type 0
OpensWhereItAgrees p w (call.TOpen prov nonblock) = (place : ℕ) → opening_place p (the_switch p w) prov ≡ Some place → (place < places p) × AgreesAt p w place
OpensWhereItAgrees p w other = Unit

-- a step with an effect takes the call's endpoint from its state to another by a row of the table
abbrev pub TakesByTheTable : Providers → World → Call → Go → Type 0
TakesByTheTable p w c g =
    OpensWhereItAgrees p w c → is_initialised (endpoint p w (told p w c g)) ≡ true → has_effect (first_refusal p w c g) ≡ true →
    is_in_table (move_of c g) (state_at p w (told p w c g)) (ocnt_of (endpoint p w (told p w c g))) (state_at p (next p w c g) (told p w c g)) ≡ true

-- the other responding endpoint of an accept too
abbrev pub PassesByTheTable : Providers → World → Call → Go → Type 0
PassesByTheTable p w (call.TAccept fd resfd seq opt udata) g =
    (resfd.0 == fd.0) ≡ false → has_effect (first_refusal p w (call.TAccept fd resfd seq opt udata) g) ≡ true →
    is_in_table passed (state_at p w resfd.0) (ocnt_of (endpoint p w resfd.0)) (state_at p (next p w (call.TAccept fd resfd seq opt udata) g) resfd.0) ≡ true
PassesByTheTable p w other g = Unit

-- a step without an effect, refused or blocked, leaves every state
abbrev pub KeepsEveryState : Providers → World → Call → Go → Type 0
KeepsEveryState p w c g = has_effect (first_refusal p w c g) ≡ false → (x : ℕ) → state_at p (next p w c g) x ≡ state_at p w x

abbrev pub is_responding : Call → ℕ → Bool
is_responding (call.TAccept fd resfd seq opt udata) x = x == resfd.0
is_responding other x = false

-- every step leaves the states of all others
abbrev pub KeepsOtherStates : Providers → World → Call → Go → Type 0
KeepsOtherStates p w c g = OpensWhereItAgrees p w c → (x : ℕ) → (x == told p w c g) ≡ false → is_responding c x ≡ false → state_at p (next p w c g) x ≡ state_at p w x
