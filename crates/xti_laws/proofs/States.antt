-- States, and what the rows say of them.
use Rattle.std.proofs.Common.{true, false, [], ◌∷◌, ◌≡◌, refl}
use Rattle.std.proofs.lemmas.Bool.{false≢true}
use Rattle.xti_base.specs.declared.kinds.State.{State}
use Rattle.xti_base.specs.declared.kinds.State.TheVariants.{T_UNINIT, T_UNBND, T_IDLE, T_OUTCON, T_INCON, T_DATAXFER, T_OUTREL, T_INREL}
use Rattle.xti_model.specs.Events.{sending, receiving, connected_or_asking}
use Rattle.xti_laws.specs.Requests.{is_connected}
use Rattle.xti_laws.specs.Requests.{is_one_of}

pub only : (s t : State) → is_one_of (t ∷ []) s ≡ true → s ≡ t
only T_UNINIT T_UNINIT h = refl
only T_UNBND T_UNBND h = refl
only T_IDLE T_IDLE h = refl
only T_OUTCON T_OUTCON h = refl
only T_INCON T_INCON h = refl
only T_DATAXFER T_DATAXFER h = refl
only T_OUTREL T_OUTREL h = refl
only T_INREL T_INREL h = refl
only s t h = absurd (false≢true h)

-- in a connection, or asking for one
pub record Busy (s : State) : Type 0 where
  pub not_unbound : is_one_of (T_UNBND ∷ []) s ≡ false
  pub not_heard : is_one_of (T_IDLE ∷ T_INCON ∷ []) s ≡ false
  pub not_asked : is_one_of (T_INCON ∷ []) s ≡ false
  pub not_resting : is_one_of (T_UNBND ∷ T_IDLE ∷ []) s ≡ false
  pub not_bare : is_one_of (T_UNBND ∷ T_IDLE ∷ T_INCON ∷ []) s ≡ false
  pub connected : is_connected s ≡ true

pub busy-out : (s : State) → is_one_of (T_OUTCON ∷ []) s ≡ true → Busy s
busy-out T_OUTCON h = record { not_unbound = refl; not_heard = refl; not_asked = refl; not_resting = refl; not_bare = refl; connected = refl }
busy-out s h = absurd (false≢true h)

pub busy-data : (s : State) → is_one_of (T_DATAXFER ∷ []) s ≡ true → Busy s
busy-data T_DATAXFER h = record { not_unbound = refl; not_heard = refl; not_asked = refl; not_resting = refl; not_bare = refl; connected = refl }
busy-data s h = absurd (false≢true h)

pub busy-sending : (s : State) → is_one_of sending s ≡ true → Busy s
busy-sending T_DATAXFER h = record { not_unbound = refl; not_heard = refl; not_asked = refl; not_resting = refl; not_bare = refl; connected = refl }
busy-sending T_INREL h = record { not_unbound = refl; not_heard = refl; not_asked = refl; not_resting = refl; not_bare = refl; connected = refl }
busy-sending s h = absurd (false≢true h)

pub busy-receiving : (s : State) → is_one_of receiving s ≡ true → Busy s
busy-receiving T_DATAXFER h = record { not_unbound = refl; not_heard = refl; not_asked = refl; not_resting = refl; not_bare = refl; connected = refl }
busy-receiving T_OUTREL h = record { not_unbound = refl; not_heard = refl; not_asked = refl; not_resting = refl; not_bare = refl; connected = refl }
busy-receiving s h = absurd (false≢true h)

pub asking-bound : (s : State) → is_one_of connected_or_asking s ≡ true → is_one_of (T_UNBND ∷ []) s ≡ false
asking-bound T_UNBND h = absurd (false≢true h)
asking-bound other h = refl

pub listening-bound : (s : State) → is_one_of (T_IDLE ∷ T_INCON ∷ []) s ≡ true → is_one_of (T_UNBND ∷ []) s ≡ false
listening-bound T_UNBND h = absurd (false≢true h)
listening-bound T_UNINIT h = absurd (false≢true h)
listening-bound T_IDLE h = refl
listening-bound T_OUTCON h = absurd (false≢true h)
listening-bound T_INCON h = refl
listening-bound T_DATAXFER h = absurd (false≢true h)
listening-bound T_OUTREL h = absurd (false≢true h)
listening-bound T_INREL h = absurd (false≢true h)

-- a responding endpoint has no request outstanding, or is the listener
pub idle-not-asked : (s : State) → is_one_of (T_UNBND ∷ T_IDLE ∷ []) s ≡ true → is_one_of (T_INCON ∷ []) s ≡ false
idle-not-asked T_UNBND h = refl
idle-not-asked T_IDLE h = refl
idle-not-asked s h = absurd (false≢true h)

pub listening-bare : (s : State) → is_one_of (T_IDLE ∷ T_INCON ∷ []) s ≡ true → (is_one_of (T_UNBND ∷ T_IDLE ∷ T_INCON ∷ []) s ≡ true) × (is_one_of (T_OUTCON ∷ []) s ≡ false)
listening-bare T_IDLE h = (refl, refl)
listening-bare T_INCON h = (refl, refl)
listening-bare s h = absurd (false≢true h)

pub resting-out : (s : State) → is_one_of (T_UNBND ∷ T_IDLE ∷ []) s ≡ true → is_one_of (T_OUTCON ∷ []) s ≡ false
resting-out T_UNBND h = refl
resting-out T_IDLE h = refl
resting-out s h = absurd (false≢true h)

pub busy-connected : (s : State) → is_connected s ≡ true → Busy s
busy-connected T_OUTCON h = record { not_unbound = refl; not_heard = refl; not_asked = refl; not_resting = refl; not_bare = refl; connected = refl }
busy-connected T_DATAXFER h = record { not_unbound = refl; not_heard = refl; not_asked = refl; not_resting = refl; not_bare = refl; connected = refl }
busy-connected T_OUTREL h = record { not_unbound = refl; not_heard = refl; not_asked = refl; not_resting = refl; not_bare = refl; connected = refl }
busy-connected T_INREL h = record { not_unbound = refl; not_heard = refl; not_asked = refl; not_resting = refl; not_bare = refl; connected = refl }
busy-connected s h = absurd (false≢true h)

pub resting-bare : (s : State) → is_one_of (T_UNBND ∷ T_IDLE ∷ []) s ≡ true → is_one_of (T_UNBND ∷ T_IDLE ∷ T_INCON ∷ []) s ≡ true
resting-bare T_UNBND h = refl
resting-bare T_IDLE h = refl
resting-bare s h = absurd (false≢true h)

pub resting-unconnected : (s : State) → is_one_of (T_UNBND ∷ T_IDLE ∷ []) s ≡ true → is_connected s ≡ false
resting-unconnected T_UNBND h = refl
resting-unconnected T_IDLE h = refl
resting-unconnected s h = absurd (false≢true h)
