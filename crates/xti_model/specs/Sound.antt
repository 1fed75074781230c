-- When an endpoint's cell is sound, and when the switch agrees with the cells of the places.
use Rattle.std.specs.Prelude.{ℕ, ◌+◌, ◌==◌, ◌<◌, ◌≡◌, ◌&&◌, ◌||◌, nat_lt, nat_le, Bool, true, List, [], ◌∷◌, length, filter, Option, Some, None, is_some, is_none}
use Rattle.xti_base.specs.declared.limits.TheConstants.{MOST_QUEUE, MOST_ADDRESS}
use Rattle.xti_model.specs.declared.profile.Providers.{Providers}
use Rattle.xti_model.specs.Endpoint.{Endpoint, address_of, ocnt}
use Rattle.xti_model.specs.World.{World, Cell, endpoint_cell, switch_cell, Numbered, Switch, Binding, places, descriptor, place_of, cell_at, the_switch}
use Rattle.xti_model.specs.Switch.{place_at}

-- how many requests to connect an endpoint has not answered
abbrev pub requests : Endpoint → ℕ
requests e = length e.pending + ocnt e

-- with any of them it has neither a peer nor a request of its own
abbrev pub is_only_asked : Endpoint → Bool
is_only_asked e = (requests e == 0) || (is_none e.peer && is_none e.target)

-- what every call takes for granted of an endpoint
abbrev pub is_sound : Endpoint → Bool
is_sound e = nat_le e.qlen MOST_QUEUE && nat_le (length (address_of e)) MOST_ADDRESS && nat_le (requests e) e.qlen && is_only_asked e

-- the same of a place
abbrev pub is_sound_body : Option Endpoint → Bool
is_sound_body None = true
is_sound_body (Some e) = is_sound e

-- the same of any cell
abbrev pub is_sound_cell : Cell → Bool
is_sound_cell (endpoint_cell generation body) = is_sound_body body
is_sound_cell (switch_cell s) = true

-- the bindings of the descriptors that have this place
abbrev pub bindings_at : Providers → Switch → ℕ → List Binding
bindings_at p s place = filter (λ b. place_of p b.fd == place) s.bindings

-- the one binding of an endpoint that has an address
abbrev pub binding_to : ℕ → Endpoint → Option (List ℕ) → List Binding
binding_to fd e None = []
binding_to fd e (Some address) = record { prov = e.prov; address = address; fd = fd; listening = nat_lt 0 e.qlen } ∷ []

-- a closed place has none
abbrev pub binding_of : ℕ → Option Endpoint → List Binding
binding_of fd None = []
binding_of fd (Some e) = binding_to fd e e.address

-- what the switch knows of a place is what its cell has
pub record Agrees (p : Providers) (s : Switch) (place generation : ℕ) (body : Option Endpoint) : Type 0 where
  pub generation_known : (place_at s place).generation ≡ generation
  pub openness_known : (place_at s place).is_open ≡ is_some body
  pub bindings_known : bindings_at p s place ≡ binding_of (descriptor p generation place) body

-- the same of the place's cell
abbrev pub CellAgrees : Providers → Switch → ℕ → Cell → Type 0
CellAgrees p s place (endpoint_cell generation body) = Agrees p s place generation body
CellAgrees p s place (switch_cell other) = ⊥

-- the cell must be there
abbrev pub ThereAgrees : Providers → Switch → ℕ → Option Numbered → Type 0
ThereAgrees p s place None = ⊥
ThereAgrees p s place (Some c) = CellAgrees p s place c.cell

-- the cell of the place is there, and the switch agrees with it
abbrev pub AgreesAt : Providers → World → ℕ → Type 0
AgreesAt p w place = ThereAgrees p (the_switch p w) place (cell_at w place)

-- the switch knows each place, and agrees with its cell
pub record Agreement (p : Providers) (w : World) : Type 0 where
  pub places_known : length (the_switch p w).places ≡ places p
  pub each_agrees : (place : ℕ) → place < places p → AgreesAt p w place
