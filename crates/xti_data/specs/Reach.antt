-- Whom a sender reaches among lent cells.
use Rattle.std.specs.Prelude.{◌≡◌, ℕ, Some}
use Rattle.xti_model.specs.Endpoint.{Endpoint}
use Rattle.xti_model.specs.World.{endpoint}
use Rattle.xti_lent.specs.Lending.{Lending, cells}
use Rattle.xti_lent.specs.Lends.{IsHeld}

-- the place of the sender's peer is lent
abbrev pub CanReach : Lending → ℕ → Type 0
CanReach l fd = (e : Endpoint) (peer : ℕ) → endpoint l.providers (cells l) fd ≡ Some e → e.peer ≡ Some peer → IsHeld l peer
