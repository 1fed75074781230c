-- The world between two exchanges of a copy, and the steps up to it and from it on.
use Rattle.std.proofs.Common.{ℕ, true, false, List, [], ◌∷◌, ◌++◌, ◌≡◌, refl, Some, replicate, codes}
use Rattle.std.specs.Fmt.{digits}
use Rattle.xti_base.specs.Options.{begins_option, is_option_list, options_within}
use Rattle.xti_base.specs.declared.kinds.Prov.TheVariants.{Ticotsord}
use Rattle.xti_base.specs.declared.kinds.State.TheVariants.{T_IDLE, T_DATAXFER}
use Rattle.xti_model.specs.Endpoint.{Endpoint, opened}
use Rattle.xti_model.specs.World.{World, Binding, Place, Switch, endpoint_cell, switch_cell, closed_places, closed_place, opening}
use Rattle.xti_model.specs.Profile.{usual}
use Rattle.xti_model.specs.Step.{plan, step}
use Rattle.xti_laws_streams.specs.Copying.{service, before, ending}
use Rattle.xti_laws_streams.proofs.Singles.{AreSteps, left}

unfoldable pub listener_end : Endpoint
listener_end = record (opened usual.ticotsord Ticotsord true) { state = T_IDLE; address = Some service; qlen = 1; last_number = 1 }

unfoldable pub client_end : Endpoint
client_end = record (opened usual.ticotsord Ticotsord true) { state = T_DATAXFER; address = Some (codes "#0"); peer = Some 2; peer_address = Some service }

-- these bytes wait
unfoldable pub receiver_end : List ℕ → Endpoint
receiver_end waiting = record (opened usual.ticotsord Ticotsord true) { state = T_DATAXFER; address = Some service; peer = Some 1; peer_address = Some (codes "#0"); normal = waiting }

unfoldable pub open_place : Place
open_place = record { generation = 0; is_open = true }

unfoldable pub the_bindings : List Binding
the_bindings =
    record { prov = Ticotsord; address = service; fd = 0; listening = true } ∷
    record { prov = Ticotsord; address = codes "#0"; fd = 1; listening = false } ∷
    record { prov = Ticotsord; address = service; fd = 2; listening = false } ∷
    []

unfoldable pub connected_switch : Switch
connected_switch = record { bindings = the_bindings; places = open_place ∷ open_place ∷ open_place ∷ replicate 61 closed_place }

-- the two ends are connected, and these bytes wait at the receiver
unfoldable pub connected : List ℕ → World
connected waiting =
    record { number = 0; cell = endpoint_cell 0 (Some listener_end) } ∷
    record { number = 1; cell = endpoint_cell 0 (Some client_end) } ∷
    record { number = 2; cell = endpoint_cell 0 (Some (receiver_end waiting)) } ∷
    closed_places 3 61 ++ record { number = 64; cell = switch_cell connected_switch } ∷ []

pub before-leaves : left (opening usual) before ≡ connected []
unfolding connected listener_end client_end receiver_end open_place the_bindings connected_switch digits opening step plan is_option_list options_within begins_option
before-leaves = refl

pub before-steps : AreSteps (opening usual) before
unfolding digits opening step plan is_option_list options_within begins_option
before-steps = ((refl, refl), ((refl, refl), ((refl, refl), ((refl, refl), ((refl, refl), ((refl, refl), ((refl, refl), ((refl, refl), ((refl, refl), tt)))))))))

pub ending-steps : AreSteps (connected []) ending
unfolding connected listener_end client_end receiver_end open_place the_bindings connected_switch digits opening step plan is_option_list options_within begins_option
ending-steps = ((refl, refl), ((refl, refl), ((refl, refl), ((refl, refl), ((refl, refl), ((refl, refl), ((refl, refl), ((refl, refl), ((refl, refl), tt)))))))))
