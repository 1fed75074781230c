-- What holds of two endpoints that name each other as their peers, after any calls.
use Rattle.std.specs.Prelude.{ℕ, true, ◌&&◌, ◌⊎◌, not, List, [], ◌∷◌, Option, Some, None, is_some, ◌≡◌}
use Rattle.xti_base.specs.declared.kinds.State.{State}
use Rattle.xti_base.specs.declared.kinds.State.TheVariants.{T_OUTCON, T_DATAXFER, T_OUTREL, T_INREL}
use Rattle.xti_model.specs.declared.profile.Providers.{Providers}
use Rattle.xti_model.specs.Endpoint.{Endpoint}
use Rattle.xti_model.specs.World.{World, endpoint}
use Rattle.xti_model.specs.Links.{linked}
use Rattle.xti_laws.specs.Requests.{is_one_of}

-- the states that the other end may have
abbrev pub other_states : State → List State
other_states T_OUTCON = T_DATAXFER ∷ T_OUTREL ∷ []
other_states T_DATAXFER = T_OUTCON ∷ T_DATAXFER ∷ T_OUTREL ∷ []
other_states T_OUTREL = T_OUTCON ∷ T_DATAXFER ∷ T_OUTREL ∷ T_INREL ∷ []
other_states T_INREL = T_OUTREL ∷ []
other_states other = []

-- an end of a connection, and the other: a release waits where the other end has sent it and this one has not received it; a confirmation waits in T_OUTCON alone; and no data wait where the release was received
pub record LinkedWith (e other : Endpoint) : Type 0 where
  pub states : is_one_of (other_states e.state) other.state ≡ true
  pub release : is_some e.release ≡ (is_one_of (T_OUTREL ∷ []) other.state && not (is_one_of (T_INREL ∷ []) e.state))
  pub confirmation : is_some e.confirmation ≡ is_one_of (T_OUTCON ∷ []) e.state
  pub finished : is_one_of (T_INREL ∷ []) e.state ≡ true → (e.normal ≡ []) × (e.expedited ≡ [])

-- each end of a connection is linked so with the other
abbrev pub Matched : Providers → World → Type 0
Matched p w = (x y : ℕ) (e d : Endpoint) → endpoint p w x ≡ Some e → endpoint p w y ≡ Some d → e.peer ≡ Some y → d.peer ≡ Some x → LinkedWith e d

-- it names the endpoint as its peer
abbrev pub NamesBack : ℕ → Option Endpoint → Type 0
NamesBack fd None = ⊥
NamesBack fd (Some other) = other.peer ≡ Some fd

-- it has sent its release, and the other end's waits
abbrev pub IsReleased : Endpoint → Type 0
IsReleased e = (e.state ≡ T_OUTREL) × (is_some e.release ≡ true)

-- the peer of an endpoint names it back, but where both releases were sent: then it may have left
abbrev pub PeersThere : Providers → World → Type 0
PeersThere p w = (x y : ℕ) (e : Endpoint) → endpoint p w x ≡ Some e → e.peer ≡ Some y → NamesBack x (endpoint p w y) ⊎ IsReleased e

-- the other end of an endpoint's connection
pub record Linked (p : Providers) (w : World) (fd : ℕ) (e : Endpoint) : Type 0 where
  pub peer : ℕ
  pub other : Endpoint
  pub is_named : e.peer ≡ Some peer
  pub is_open : endpoint p w peer ≡ Some other
  pub names_back : other.peer ≡ Some fd
  pub is_linked : linked p w fd e ≡ Some other
  pub matches : LinkedWith e other
