-- Whom a sender reaches among lent cells.
use Rattle.std.specs.Prelude.{◌≡◌, ℕ, true, List, Some, is_some}
use Rattle.xti_model.specs.Endpoint.{Endpoint}
use Rattle.xti_model.specs.Switch.{bound}
use Rattle.xti_model.specs.World.{endpoint, the_switch}
use Rattle.xti_lent.specs.Lending.{Lending, cells}
use Rattle.xti_lent.specs.Lends.{IsHeld}

-- the switch's table is lent, and the place of whoever is bound to the address
pub record CanReach (l : Lending) (fd : ℕ) (address : List ℕ) : Type 0 where
  pub table : is_some l.registry ≡ true
  pub receiver : (e : Endpoint) (to : ℕ) → endpoint l.providers (cells l) fd ≡ Some e → bound (the_switch l.providers (cells l)) e.prov address ≡ Some to → IsHeld l to
