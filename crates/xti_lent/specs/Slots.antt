-- Endpoints that stand in slots.
use Rattle.std.specs.Prelude.{Option, Some}
use Rattle.std.specs.Borrow.{Lends, MutBor, Fml}
use Rattle.xti_end.specs.Held.{Held}
use Rattle.xti_end.specs.contracts.endpoint.Endpoint as end
use Rattle.xti_lent.specs.contracts.slot.Slot as slot

abbrev pub LendsInside : MutBor (Option Held) → MutBor Held → Fml
LendsInside s r = Lends slot.the_row end.the_row s r (λ h. Some h)
