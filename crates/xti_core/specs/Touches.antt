-- The cells of calls, as far as lent cells tell them.
use Rattle.std.specs.Prelude.{◌≡◌, ◌≤◌, ◌+◌, ℕ, List, ◌∷◌, ◌++◌, length, Option, option_map, option_to_list}
use Rattle.xti_base.specs.declared.kinds.Fd.{Fd}
use Rattle.xti_base.specs.declared.kinds.Prov.{Prov}
use Rattle.xti_base.specs.declared.limits.TheConstants.{MOST_TOUCHED}
use Rattle.xti_model.specs.declared.profile.Providers.{Providers}
use Rattle.xti_model.specs.Cells.{listed}
use Rattle.xti_model.specs.Endpoint.{Endpoint}
use Rattle.xti_model.specs.Switch.{opening_place}
use Rattle.xti_model.specs.Touched.{of_open, peer_cell, target_cell, caller_cell, caller_cells, bound_cell, listener_cell, marked_cells}
use Rattle.xti_model.specs.World.{Switch, the_switch, place_of, switch_number}
use Rattle.xti_lent.specs.Lending.{Lending, cells}

-- the number of a descriptor that is named
abbrev pub number_of : Option Fd → Option ℕ
number_of fd = option_map (λ (x : Fd). x.0) fd

-- the switch, as far as it is lent
abbrev pub lent_switch : Lending → Switch
lent_switch l = the_switch l.providers (cells l)

-- these cells, and one more where it is named, each once
abbrev pub ListsWith : Option ℕ → List ℕ → List ℕ → Type 0
ListsWith cell cells result = (ns : List ℕ) → cells ≡ listed ns → result ≡ listed (option_to_list cell ++ ns)

-- the other endpoints that an endpoint knows: its peer, its listener and its callers
abbrev pub known : Providers → Endpoint → List ℕ
known p e = peer_cell p e ++ target_cell p e ++ caller_cells p e

-- whom a disconnect tells: its peer, its listener, and the caller with the number
abbrev pub told : Providers → ℕ → Endpoint → List ℕ
told p number e = peer_cell p e ++ target_cell p e ++ caller_cell p number e

-- whom an endpoint's datagram mark names, as far as the switch is lent
abbrev pub marked_by : Lending → Endpoint → List ℕ
marked_by l e = marked_cells l.providers (cells l) e

-- whom an endpoint knows, and whom it may send to again
abbrev pub looked_at : Lending → Endpoint → List ℕ
looked_at l e = peer_cell l.providers e ++ marked_by l e

-- two more can be named
abbrev pub HasRoomForTwo : List ℕ → Type 0
HasRoomForTwo ns = length ns + 2 ≤ MOST_TOUCHED

-- the cell of the descriptor, that of the switch, and others
abbrev pub with_switch : Lending → ℕ → List ℕ → List ℕ
with_switch l fd ns = listed (place_of l.providers fd ∷ switch_number l.providers ∷ ns)

-- whoever is bound to the address at the provider of the endpoint
abbrev pub receiving_cell : Lending → ℕ → List ℕ → List ℕ
receiving_cell l fd address = of_open l.providers (cells l) fd (bound_cell l.providers (cells l) address)

-- whoever else listens there
abbrev pub listening_cell : Lending → ℕ → List ℕ → List ℕ
listening_cell l fd address = of_open l.providers (cells l) fd (listener_cell l.providers (cells l) fd address)

-- the caller of the endpoint with the number
abbrev pub calling_cell : Lending → ℕ → ℕ → List ℕ
calling_cell l fd number = of_open l.providers (cells l) fd (caller_cell l.providers number)

-- the peer of the endpoint
abbrev pub connected_cell : Lending → ℕ → List ℕ
connected_cell l fd = of_open l.providers (cells l) fd (peer_cell l.providers)

-- of t_open
abbrev pub opening_cells : Lending → Prov → List ℕ
opening_cells l prov = listed (switch_number l.providers ∷ option_to_list (opening_place l.providers (lent_switch l) prov))

-- of t_close
abbrev pub closing_cells : Lending → ℕ → List ℕ
closing_cells l fd = with_switch l fd (of_open l.providers (cells l) fd (known l.providers))

-- of t_accept
abbrev pub accepting_cells : Lending → ℕ → ℕ → ℕ → List ℕ
accepting_cells l fd resfd number = with_switch l fd (place_of l.providers resfd ∷ calling_cell l fd number)

-- of t_snddis
abbrev pub disconnecting_cells : Lending → ℕ → ℕ → List ℕ
disconnecting_cells l fd number = listed (place_of l.providers fd ∷ of_open l.providers (cells l) fd (told l.providers number))

-- of t_look
abbrev pub looking_cells : Lending → ℕ → List ℕ
looking_cells l fd = listed (place_of l.providers fd ∷ of_open l.providers (cells l) fd (looked_at l))
