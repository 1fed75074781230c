-- The world between two carries: two datagram endpoints that are bound, and nothing waits.
use Rattle.std.specs.Prelude.{◌≡◌, ℕ, true, false, List, [], ◌∷◌, ◌++◌, ◌⊎◌, Some, replicate, codes}
use Rattle.xti_base.specs.declared.kinds.Fd.{Fd}
use Rattle.xti_base.specs.declared.kinds.Prov.TheVariants.{Ticlts}
use Rattle.xti_base.specs.declared.kinds.State.TheVariants.{T_IDLE}
use Rattle.xti_model.specs.Profile.{usual}
use Rattle.xti_model.specs.Endpoint.{Endpoint, opened}
use Rattle.xti_model.specs.World.{World, Binding, Place, Switch, endpoint_cell, switch_cell, closed_place, closed_places, opening}
use Rattle.xti_core.specs.Standing.{Standing}

abbrev pub sender_address : List ℕ
sender_address = codes "sender"

abbrev pub receiver_address : List ℕ
receiver_address = codes "receiver"

abbrev pub sender_fd : Fd
sender_fd = record { 0 = 0 }

abbrev pub receiver_fd : Fd
receiver_fd = record { 0 = 1 }

-- a datagram endpoint that is bound to the address, at which nothing waits
abbrev pub idle_at : List ℕ → Endpoint
idle_at address = record (opened usual.ticlts Ticlts true) { state = T_IDLE; address = Some address }

abbrev pub binding_at : List ℕ → ℕ → Binding
binding_at address fd = record { prov = Ticlts; address = address; fd = fd; listening = false }

abbrev pub open_place : Place
open_place = record { generation = 0; is_open = true }

-- both addresses are bound, and two of the 64 places are open
abbrev pub both_bound : Switch
both_bound = record {
  bindings = binding_at sender_address 0 ∷ binding_at receiver_address 1 ∷ [];
  places = open_place ∷ open_place ∷ replicate 62 closed_place;
}

-- the world of these two endpoints
unfoldable pub world_of : Endpoint → Endpoint → World
world_of sender receiver =
    record { number = 0; cell = endpoint_cell 0 (Some sender) } ∷
    record { number = 1; cell = endpoint_cell 0 (Some receiver) } ∷
    closed_places 2 62 ++ record { number = 64; cell = switch_cell both_bound } ∷ []

abbrev pub standing_with : Endpoint → Endpoint → Standing
standing_with sender receiver = record { providers = usual; cells = world_of sender receiver }

-- before any call
unfoldable pub start : Standing
start = record { providers = usual; cells = opening usual }

unfoldable pub ready : Standing
ready = standing_with (idle_at sender_address) (idle_at receiver_address)

-- from one endpoint to the other, which is bound to the address
abbrev pub IsRoute : Fd → List ℕ → Fd → Type 0
IsRoute from address to =
    ((from ≡ sender_fd) × (address ≡ receiver_address) × (to ≡ receiver_fd))
    ⊎ ((from ≡ receiver_fd) × (address ≡ sender_address) × (to ≡ sender_fd))
