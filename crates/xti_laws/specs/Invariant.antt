-- What holds of every world, after any calls.
use Rattle.std.specs.Prelude.{ℕ, true, false, ◌+◌, ◌<◌, ◌≤◌, ◌≡◌, ◌==◌, List, length, map, filter, Some}
use Rattle.xti_base.specs.declared.kinds.Prov.{Prov}
use Rattle.xti_base.specs.declared.kinds.Prov.TheVariants.{Ticlts}
use Rattle.xti_model.specs.declared.profile.Providers.{Providers}
use Rattle.xti_model.specs.Endpoint.{Endpoint}
use Rattle.xti_model.specs.World.{World, Switch, Place, switch_number, last_generation, endpoint, the_switch}
use Rattle.xti_model.specs.Switch.{is_bound, is_listening, place_at}
use Rattle.xti_model.specs.Robin.{numbers}
use Rattle.xti_model.specs.Sound.{Agreement}
use Rattle.xti_laws.specs.Requests.{SoundLinks, BoundToOpen}
use Rattle.xti_laws.specs.Endpoints.{SoundEndpoint}
use Rattle.xti_laws.specs.Connections.{Matched, PeersThere}

-- the cells of the places in their order, and then that of the switch; the agreement says that they are these
abbrev pub HasEachCell : Providers → World → Type 0
HasEachCell p w = map (λ c. c.number) w ≡ numbers 0 (switch_number p + 1)

abbrev pub SoundEndpoints : Providers → World → Type 0
SoundEndpoints p w = (fd : ℕ) (e : Endpoint) → endpoint p w fd ≡ Some e → SoundEndpoint e

-- no two datagram endpoints are bound to one address, and no two listeners of one provider
pub record BoundOnce (s : Switch) : Type 0 where
  pub datagrams : (address : List ℕ) → length (filter (is_bound Ticlts address) s.bindings) ≤ 1
  pub listeners : (prov : Prov) (address : List ℕ) → length (filter (is_listening prov address) s.bindings) ≤ 1

-- a place is of the last generation at most, and of an earlier one where it is open
abbrev pub SoundPlace : Providers → Place → Type 0
SoundPlace p place = (place.generation ≤ last_generation p) × (place.is_open ≡ true → place.generation < last_generation p)

abbrev pub SoundPlaces : Providers → Switch → Type 0
SoundPlaces p s = (n : ℕ) → SoundPlace p (place_at s n)

-- the switch and the cells: each cell is there, and the switch knows what is open and bound
pub record Registered (p : Providers) (w : World) : Type 0 where
  pub cells : HasEachCell p w
  pub agreement : Agreement p w
  pub bound_once : BoundOnce (the_switch p w)
  pub places : SoundPlaces p (the_switch p w)

-- two that name each other are different endpoints of one provider
abbrev pub Paired : Providers → World → Type 0
Paired p w = (x y : ℕ) (e d : Endpoint) → endpoint p w x ≡ Some e → endpoint p w y ≡ Some d → e.peer ≡ Some y → d.peer ≡ Some x → (e.prov ≡ d.prov) × ((x == y) ≡ false)

-- a world
pub record SoundWorld (p : Providers) (w : World) : Type 0 where
  pub registered : Registered p w
  pub endpoints : SoundEndpoints p w
  pub links : SoundLinks p w
  pub bound : BoundToOpen p w
  pub pairs : Paired p w
  pub matched : Matched p w
  pub there : PeersThere p w
