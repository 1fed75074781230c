-- How much more may wait at a receiver.
use Rattle.std.specs.Prelude.{◌≡◌, ℕ, Bool, Option}
use Rattle.xti_model.specs.Endpoint.{Endpoint}
use Rattle.xti_model.specs.Sending.{room_for}

-- so many bytes more of the kind may wait for an endpoint at its peer
abbrev pub IsRoom : Bool → Endpoint → Option Endpoint → ℕ → Type 0
IsRoom expedited e peer n = n ≡ room_for expedited e peer
