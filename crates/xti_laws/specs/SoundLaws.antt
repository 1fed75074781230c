-- What the laws of sound worlds say beside the invariant.
use Rattle.std.specs.Prelude.{ℕ, Bool, true, false, List, [], ◌∷◌, Option, Some, None, ◌≡◌, ◌≤◌, ◌<◌}
use Rattle.xti_base.specs.declared.kinds.Prov.{Prov}
use Rattle.xti_model.specs.Provider.{is_provider}
use Rattle.xti_model.specs.declared.call.Call.{Call}
use Rattle.xti_model.specs.declared.call.Call.TheVariants as call
use Rattle.xti_model.specs.declared.profile.Providers.{Providers}
use Rattle.xti_base.specs.declared.kinds.State.TheVariants.{T_UNBND, T_IDLE}
use Rattle.xti_model.specs.declared.entry.Entry.{Entry}
use Rattle.xti_model.specs.History.{Legal, after}
use Rattle.xti_model.specs.Endpoint.{Endpoint, Indication}
use Rattle.xti_base.specs.declared.limits.TheConstants.{LAST_SEQUENCE}
use Rattle.xti_model.specs.World.{World, Cell, Switch, endpoint_cell, switch_cell, endpoint, last_generation}
use Rattle.xti_model.specs.Sound.{CellAgrees, is_sound_cell}
use Rattle.xti_laws.specs.Requests.{SoundRequests}
use Rattle.xti_laws.specs.Endpoints.{SoundEndpoint}
use Rattle.xti_laws.specs.Requests.{is_one_of}

abbrev pub SoundBody : Option Endpoint → Type 0
SoundBody None = Unit
SoundBody (Some e) = SoundEndpoint e × SoundRequests e

-- a place's cell: what is open there is sound, and the generation is at most the last
abbrev pub SoundCell : Providers → Cell → Type 0
SoundCell p (endpoint_cell generation body) = SoundBody body × (generation ≤ last_generation p)
SoundCell p (switch_cell s) = ⊥

-- what holds of a place's cell, and of the switch with it, as they are lent to a step
pub record SoundWhenLent (p : Providers) (s : Switch) (place : ℕ) (cell : Cell) : Type 0 where
  pub is_sound : SoundCell p cell
  pub is_sound_alone : is_sound_cell cell ≡ true
  pub switch_agrees : CellAgrees p s place cell

-- an endpoint of the provider is open with the descriptor, and bound to the address
pub record OpenAndBound (p : Providers) (w : World) (prov : Prov) (address : List ℕ) (fd : ℕ) : Type 0 where
  pub there : Endpoint
  pub is_open : endpoint p w fd ≡ Some there
  pub is_of : there.prov ≡ prov
  pub is_bound_to : there.address ≡ Some address

-- and it has a queue
pub record OpenAndListening (p : Providers) (w : World) (prov : Prov) (address : List ℕ) (fd : ℕ) : Type 0 where
  pub there : Endpoint
  pub is_open : endpoint p w fd ≡ Some there
  pub is_of : there.prov ≡ prov
  pub is_bound_to : there.address ≡ Some address
  pub has_queue : 0 < there.qlen

-- a fact of each open endpoint, after every legal history, of whatever providers
abbrev pub OfAllProviders : (Endpoint → Type 0) → Type 0
OfAllProviders fact = (p : Providers) (entries : List Entry) → Legal p entries → (fd : ℕ) (e : Endpoint) → endpoint p (after p entries) fd ≡ Some e → fact e

-- an endpoint of datagrams has nothing of a connection
pub record DatagramsAlone (e : Endpoint) : Type 0 where
  pub state : is_one_of (T_UNBND ∷ T_IDLE ∷ []) e.state ≡ true
  pub no_requests : (e.qlen ≡ 0) × (e.pending ≡ []) × (e.outstanding ≡ []) × (e.target ≡ None)
  pub no_peer : (e.peer ≡ None) × (e.peer_address ≡ None) × (e.confirmation ≡ None) × (e.disconnects ≡ []) × (e.release ≡ None)
  pub no_data : (e.normal ≡ []) × (e.expedited ≡ []) × (e.mid_expedited ≡ false) × (e.unfinished_normal ≡ 0) × (e.unfinished_expedited ≡ 0) × (e.flow_normal ≡ false) × (e.flow_expedited ≡ false)

-- the numbers of requests have 32 bits
abbrev pub NumberFits : Indication → Type 0
NumberFits i = i.number ≤ LAST_SEQUENCE

-- each open endpoint's provider passes the test
abbrev pub OpenProvidersPass : (Prov → Bool) → Providers → World → Type 0
OpenProvidersPass test p w = (fd : ℕ) (e : Endpoint) → endpoint p w fd ≡ Some e → test e.prov ≡ true

-- what an open that succeeds opens passes the test
abbrev pub OpensPassing : (Prov → Bool) → Call → Type 0
OpensPassing test (call.TOpen prov nonblock) = is_provider prov ≡ true → test prov ≡ true
OpensPassing test other = Unit {0}
