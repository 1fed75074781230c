-- The facts across cells: who asks and who is asked name each other.
use Rattle.std.specs.Prelude.{ℕ, ◌+◌, ◌<◌, ◌≤◌, ◌==◌, ◌≡◌, ◌⊎◌, Bool, true, false, List, [], ◌∷◌, Some, None, is_some, if◌then◌else◌}
use Rattle.xti_base.specs.declared.kinds.Prov.{Prov}
use Rattle.std.specs.List.{list_any}
use Rattle.xti_base.specs.Kinds.{same_state}
use Rattle.xti_base.specs.declared.kinds.State.{State}
use Rattle.xti_base.specs.declared.kinds.State.TheVariants.{T_OUTCON}
use Rattle.xti_model.specs.declared.profile.Providers.{Providers}
use Rattle.xti_model.specs.Endpoint.{Endpoint, Indication, Disconnect, Target, has_number, find_number}
use Rattle.xti_model.specs.World.{World, Binding, endpoint, the_switch}
use Rattle.xti_model.specs.declared.call.Call.{Call}
use Rattle.xti_model.specs.declared.entry.Go.{Go}
use Rattle.xti_model.specs.Step.{Step, step}
use Rattle.xti_model.specs.StateTable.{with_connection}
use Rattle.xti_model.specs.Calls.Disconnect.{is_asked}

abbrev pub is_one_of : List State → State → Bool
is_one_of states s = list_any (same_state s) states

-- whether it is a state of a connection
abbrev pub is_connected : State → Bool
is_connected s = is_one_of with_connection s

-- how many indications have the number
abbrev pub indications_with : ℕ → List Indication → ℕ
indications_with n [] = 0
indications_with n (i ∷ is) = (if has_number n i then 1 else 0) + indications_with n is

-- whether the disconnect is of the request with this number
abbrev pub is_about : ℕ → Disconnect → Bool
is_about n d = d.number == n

-- how many disconnects have it
abbrev pub disconnects_with : ℕ → List Disconnect → ℕ
disconnects_with n [] = 0
disconnects_with n (d ∷ ds) = (if is_about n d then 1 else 0) + disconnects_with n ds

-- Of an endpoint by itself: it asks for a connection in T_OUTCON alone, without a peer or a disconnect; it has no peer where it is in no connection; without a peer no data,
-- release or confirmation wait; requests are outstanding in T_INCON alone; the numbers of requests differ and none is above the last one; and each disconnect in T_INCON is of an
-- outstanding request, at most one of each.
pub record SoundRequests (e : Endpoint) : Type 0 where
  pub asking : is_some e.target ≡ true → (e.state ≡ T_OUTCON) × (e.peer ≡ None) × (e.disconnects ≡ [])
  pub unlinked : is_connected e.state ≡ false → e.peer ≡ None
  pub empty : e.peer ≡ None → (e.normal ≡ []) × (e.expedited ≡ []) × (e.release ≡ None) × (e.confirmation ≡ None)
  pub outstanding : is_asked e ≡ false → e.outstanding ≡ []
  pub once : (n : ℕ) → indications_with n e.pending + indications_with n e.outstanding ≤ 1
  pub below : (n : ℕ) → e.last_number < n → indications_with n e.pending + indications_with n e.outstanding ≡ 0
  pub known : is_asked e ≡ true → (n : ℕ) → disconnects_with n e.disconnects ≤ indications_with n e.outstanding

-- a request with this number and caller stands at the listener: it is pending, or outstanding and not taken back
pub record Stands (e : Endpoint) (n caller : ℕ) : Type 0 where
  pub i : Indication
  pub is_caller : i.caller ≡ caller
  pub is_found : (find_number n e.pending ≡ Some i) ⊎ ((find_number n e.outstanding ≡ Some i) × (disconnects_with n e.disconnects ≡ 0))

abbrev pub request_to : ℕ → ℕ → Target
request_to l n = record { listener = l; number = n }

-- the caller of a request that stands has it as its target, and is of the listener's provider
pub record AskingCaller (p : Providers) (w : World) (prov : Prov) (l n caller : ℕ) : Type 0 where
  pub e : Endpoint
  pub is_open : endpoint p w caller ≡ Some e
  pub has_target : e.target ≡ Some (request_to l n)
  pub same_provider : e.prov ≡ prov

-- the listener of a target is open, and the caller's request stands there
pub record AskedListener (p : Providers) (w : World) (t : Target) (caller : ℕ) : Type 0 where
  pub e : Endpoint
  pub is_open : endpoint p w t.listener ≡ Some e
  pub stands : Stands e t.number caller

-- each endpoint is sound by itself; requests that stand and targets name each other, but for callers that are exempt, whose requests do not stand
pub record SoundLinksExcept (p : Providers) (w : World) (exempt : ℕ → Bool) : Type 0 where
  pub good : (fd : ℕ) (e : Endpoint) → endpoint p w fd ≡ Some e → SoundRequests e
  pub asked : (l n c : ℕ) (e : Endpoint) → endpoint p w l ≡ Some e → Stands e n c → (exempt c ≡ false) × AskingCaller p w e.prov l n c
  pub asks : (c : ℕ) (e : Endpoint) (t : Target) → exempt c ≡ false → endpoint p w c ≡ Some e → e.target ≡ Some t → AskedListener p w t c

abbrev pub nobody : ℕ → Bool
nobody c = false

-- who asks and who is asked name each other
abbrev pub SoundLinks : Providers → World → Type 0
SoundLinks p w = SoundLinksExcept p w nobody

-- an endpoint of the provider is open with the descriptor
pub record IsOpenOf (p : Providers) (w : World) (fd : ℕ) (prov : Prov) : Type 0 where
  pub e : Endpoint
  pub is_open : endpoint p w fd ≡ Some e
  pub same_provider : e.prov ≡ prov

abbrev pub AllOpen : Providers → World → List Binding → Type 0
AllOpen p w [] = Unit
AllOpen p w (b ∷ bs) = IsOpenOf p w b.fd b.prov × AllOpen p w bs

-- each binding is of an open endpoint of its provider
abbrev pub BoundToOpen : Providers → World → Type 0
BoundToOpen p w = AllOpen p w (the_switch p w).bindings

-- both
abbrev pub LinkedAndBound : Providers → World → Type 0
LinkedAndBound p w = SoundLinks p w × BoundToOpen p w

-- a step leads from such a world to such a one
abbrev pub StaysLinked : Providers → World → Call → Go → Type 0
StaysLinked p w c g = LinkedAndBound p w → (s : Step) → step p w c g ≡ Some s → LinkedAndBound p s.world
